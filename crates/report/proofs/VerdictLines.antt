-- The line of the verdict: what `judge` tells is what it prints, the line is short, and separations in a buffer are those of the sheet.
use Prim.Native.Nat.{ℕ, ◌+◌, ◌*◌, ◌/◌, ◌≤◌, ◌<◌}
use mathlib.Core.Path.{◌≡◌, refl, ap}
use mathlib.Core.List.{List, [], ◌∷◌}
use native.Mathlib.Omega.{arith}
use borrow.Author.Tests.{le-ltb}
use lib.Dec.{lit≤}
use lib.ListN.{length, take}
use lib.Seq.{get_or-take, length-take-le}
use Rattle.answers.specs.Call.{first_refusal}
use Rattle.answers.specs.Sizes.{most_subjects, least_chain}
use Rattle.tables.specs.Sheet.{Lent, Sheet, sheet_of, from, to}
use Rattle.answers.proofs.Calls.{pass_then}
use Rattle.tables.proofs.Accepted.{sheet_numbered, tables_pass, separations_pass}
use Rattle.access.specs.Channel.{Channel}
use Rattle.sheet.proofs.Calls.{used_part}
use Rattle.std.specs.Prelude.{Option, Some, None, Result, Ok, Err, IsOk}
use Rattle.answers.specs.declared.refused.Refused.{Refused as Why}
use Rattle.answers.proofs.Exits.{some_number}
use Rattle.separations.specs.declared.Breach.{Breach}
use Rattle.separations.specs.declared.Judged.{Judged}
use Rattle.separations.proofs.Told.{no_refusal}
use Rattle.separations.specs.Judgement.{FirstBroken, judged, judged_of, Judgement, hold as holds, broken as breaks, Finding}
use Rattle.verdict.specs.Judge.{judge_refusals, Judges}
use Rattle.verdict.proofs.Findings.{finding, holding}
use Rattle.access.proofs.Longest.{at_most_97}
use Rattle.output.specs.Output.{VerdictLine, hold, broken}
use Rattle.report.specs.Inner.{Printable}

-- fewer of the same separations can be printed too
pub printable_fewer : {l : Lent} {count k : ℕ} {separations : List ℕ} → k ≤ count → Printable l count separations → Printable l k separations
printable_fewer h p =
    record {
      sized = p.sized;
      listed =
          record {
            few = omega (arith, h, p.listed.few);
            below = λ i g. p.listed.below i (omega (arith, h, g));
            ascend = λ i g. p.listed.ascend i (omega (arith, h, g));
          };
      long = p.long;
    }

-- ---- what `judge` tells
module _ (l : Lent) (count : ℕ) (separations chain : List ℕ) (r : Result (Option Breach) Why) (after : List ℕ) (p : Printable l count separations) (room : least_chain ≤ length chain) (call : Judges l count separations chain (judged_of r, after)) where
  -- an accepted sheet is not refused
  judged_on : first_refusal (judge_refusals l count separations chain) ≡ 0
  unfolding judge_refusals
  judged_on =
      pass_then _ _ (sheet_numbered _ _ l)
      (tables_pass _ _ l (record { not_short = rw (le-ltb _ _ p.long, le-ltb _ _ room); not_long = refl; sized = p.sized }))
      (separations_pass _ separations count p.listed)

  pub is_judged : IsOk r
  is_judged = go r (call.done judged_on)
    where
      go : (r : Result (Option Breach) Why) → Judgement (Channel (sheet_of l count separations)) count separations chain (judged_of r, after) → IsOk r
      go (Ok found) j = refl
      go (Err why) (holds all e) = absurd (some_number why (ap (λ (r : Judged × List ℕ). r.0.answer) e))
      go (Err why) (breaks i k f b e) = absurd (no_refusal why (ap (λ (r : Judged × List ℕ). r.0.answer) e))

  pub hold_line : r ≡ Ok None → VerdictLine (Channel (sheet_of l count separations)) count separations (0x82 ∷ 0 ∷ [])
  hold_line e = hold (holding l count separations chain (judged_of r) after call (ap (λ r. (judged_of r).answer) e)).0

  module _ (breach : Breach) (e : r ≡ Ok (Some breach)) where
    found : Finding (Channel (sheet_of l count separations)) count separations chain (judged 14 breach.position breach.count) after
    found = rw e at (finding l count separations chain (judged_of r) after call (ap (λ r. (judged_of r).answer) e))

    -- its numbers are bytes
    pub broken_small : (breach.position < 256) × (breach.count ≤ 97)
    unfolding sheet_of
    broken_small = (
      omega (arith, found.first.below, p.listed.few),
      omega (arith, found.counted, at_most_97 (sheet_of l count separations) p.sized.counts_fit.subjects _ _ _ found.best),
    )

    -- and its chain is in the buffer
    pub broken_line : VerdictLine (Channel (sheet_of l count separations)) count separations (0x82 ∷ 1 ∷ breach.position ∷ breach.count ∷ take breach.count after)
    broken_line = of_finding found
      where
        of_finding : Finding (Channel (sheet_of l count separations)) count separations chain (judged 14 breach.position breach.count) after →
            VerdictLine (Channel (sheet_of l count separations)) count separations (0x82 ∷ 1 ∷ breach.position ∷ breach.count ∷ take breach.count after)
        of_finding f = rw (f.counted, f.written, used_part f.chain chain _ refl) (broken f.first f.best)

-- ---- the line has at most 101 bytes
pub line_short : (t : Sheet) → t.counts.subjects ≤ most_subjects → {count : ℕ} {separations line : List ℕ} → VerdictLine (Channel t) count separations line → length line ≤ 101
line_short t few (hold all) = lit≤ tt
line_short t few (broken f b) = omega (arith, at_most_97 t few _ _ _ b)

-- ---- by the used part of a buffer of separations
module _ (count : ℕ) (separations : List ℕ) where
  abbrev used : List ℕ
  used = take (2 * count) separations

  from_used : {i : ℕ} → i < count → from used i ≡ from separations i
  from_used {i} h = get_or-take (2 * count) separations (2 * i) 0 (omega arith)

  to_used : {i : ℕ} → i < count → to used i ≡ to separations i
  to_used {i} h = get_or-take (2 * count) separations (2 * i + 1) 0 (omega arith)

  first_used : {ch : ℕ → ℕ → Type 0} {i : ℕ} → FirstBroken ch count separations i → FirstBroken ch count used i
  first_used f =
      record {
        below = f.below;
        broken = rw (from_used f.below, to_used f.below) f.broken;
        before = λ j h b. let g : j < count = omega (arith, f.below) in f.before j h (rw (from_used g, to_used g) at b);
      }

  line_used : {ch : ℕ → ℕ → Type 0} {line : List ℕ} → VerdictLine ch count separations line → VerdictLine ch count used line
  line_used (hold all) = hold (λ j h b. all j h (rw (from_used h, to_used h) at b))
  line_used (broken {l = l} f b) = broken {l = l} (first_used f) (rw (from_used f.below, to_used f.below) b)

  pub verdict_used : {ch : ℕ → ℕ → Type 0} {line : List ℕ} → 2 * count ≤ length separations → VerdictLine ch count separations line → VerdictLine ch (length used / 2) used line
  verdict_used room v =
      let half : length used / 2 ≡ count = omega (arith, length-take-le (2 * count) separations room) in
      rw half (line_used v)
