-- The numbers that `judge` tells: no refusal is 14, each is a byte, a position is below 64, and a chain has at most 112 entities.
use Prim.Native.Nat.{ℕ, ◌≤◌, ◌<◌}
use mathlib.Core.Path.{◌≡◌, ap}
use mathlib.Core.Bool.{Bool, not, ◌&&◌}
use mathlib.Core.List.{List, [], ◌∷◌}
use native.Mathlib.Decide.{ℕ_discrete}
use native.Mathlib.Omega.{arith}
use lib.Dec.{T, ltb, eqb, lit<, lit≤}
use lib.ListN.{length}
use Rattle.answers.specs.Sizes.{most_separations, most_entities}
use Rattle.answers.specs.Call.{first_refusal, ◌if◌, ◌then◌, each_below}
use Rattle.answers.specs.Rows.{exceeds}
use Rattle.answers.proofs.Calls.{parts}
use Rattle.answers.proofs.Numbers.{all_numbers, numbers_then, numbers_each, answered_number}
use Rattle.tables.specs.Sheet.{Lent, sheet_of, entities, from, to}
use Rattle.tables.specs.Refusals.{size_refusals, used_refusals, sheet_refusals, pair_refusals, separation_refusals}
use Rattle.theory.specs.Chain.{Best}
use Rattle.theory.proofs.Exists.{best_fits}
use Rattle.access.specs.Channel.{Channel}
use Rattle.access.proofs.Channels.{channel_inside}
use Rattle.access.proofs.Decided.{sheet_channel_decided}
use Rattle.tables.proofs.Sounds.{entities_fit}
use Rattle.separations.specs.declared.Judged.{Judged}
use Rattle.separations.specs.Judgement.{judged, Judgement, hold, broken}
use Rattle.verdict.specs.Judge.{judge_refusals, Judges}
use Rattle.verdict.specs.Inner.{Judgeable}
use Rattle.verdict.proofs.Judging.{tables, pairs, judgeable}

-- ---- the numbers of the refusals
-- a byte, and not the number of the finding
abbrev plain : ℕ → Bool
plain n = ltb n 256 && not (eqb n 14)

module _ (l : Lent) (count : ℕ) (separations chain : List ℕ) where
  pair_plain : (i : ℕ) → T (all_numbers plain (pair_refusals (entities l.counts) separations i))
  unfolding pair_refusals
  pair_plain i = tt

  refusal_plain : T (plain (first_refusal (judge_refusals l count separations chain)))
  unfolding ◌then◌ judge_refusals sheet_refusals size_refusals used_refusals separation_refusals
  refusal_plain =
      answered_number plain _ tt
      (numbers_then plain (tables l count separations chain) (pairs l count separations chain) tt
      (numbers_then plain ((8 if exceeds count most_separations) ∷ []) (each_below count (pair_refusals (entities l.counts) separations)) tt
      (numbers_each plain (pair_refusals (entities l.counts) separations) pair_plain count)))

  pub refusal_byte : first_refusal (judge_refusals l count separations chain) < 256
  refusal_byte = lit< (parts (ltb (first_refusal (judge_refusals l count separations chain)) 256) _ refusal_plain).0

  -- "14 | a separation is broken (a finding, no refusal)": no refusal of `judge` has the number 14
  pub refusal_not_14 : first_refusal (judge_refusals l count separations chain) ≡ 14 → ⊥
  refusal_not_14 e = absurd (rw e at refusal_plain)

-- what is told is small
pub record Small (j : Judged) : Type 0 where
  pub answer : j.answer < 256
  pub position : j.position < most_separations
  pub count : j.count ≤ most_entities

module _ (l : Lent) (count : ℕ) (separations before : List ℕ) where
  small_finding : {i : ℕ} {chain : List ℕ} → Judgeable l count separations before → i < count →
      Best (Channel (sheet_of l count separations)) (from separations i) (to separations i) chain → Small (judged 14 i (length chain))
  unfolding sheet_of
  small_finding {i} g h b =
      let fits = best_fits channel_inside (sheet_channel_decided (sheet_of l count separations)) _ (g.listed.below i h).0 b in
      record { answer = lit< tt; position = omega (arith, g.listed.few); count = omega (arith, entities_fit l g.sized) }

  small_verdict : {j : Judged} {after : List ℕ} → Judgeable l count separations before →
      Judgement (Channel (sheet_of l count separations)) count separations before (j, after) → Small j
  small_verdict g (hold all e) = rw (ap (λ (r : Judged × List ℕ). r.0) e) (record { answer = lit< tt; position = lit< tt; count = lit≤ tt })
  small_verdict g (broken i chain p b e) = rw (ap (λ (r : Judged × List ℕ). r.0) e) (small_finding g p.below b)

  pub judged_small : {j : Judged} {after : List ℕ} → Judges l count separations before (j, after) → Small j
  judged_small {j} {after} call = go (ℕ_discrete (first_refusal (judge_refusals l count separations before)) 0)
    where
      go : Dec (first_refusal (judge_refusals l count separations before) ≡ 0) → Small j
      go (yes e) = small_verdict (judgeable l count separations before e) (call.done e)
      go (no some) =
          rw (ap (λ (r : Judged × List ℕ). r.0) (call.refusal some))
          (record { answer = refusal_byte l count separations before; position = lit< tt; count = lit≤ tt })
