-- Tables that no refusal meets are those of a sound sheet, and the tables of a sound sheet meet none.
use mathlib.Core.Path.{◌≡◌, refl}
use mathlib.Core.Bool.{Bool, true, false, ◌&&◌}
use mathlib.Core.List.{List}
use Prim.Native.Nat.{ℕ, zero, suc, ◌+◌, ◌*◌, ◌-◌, ◌<◌}
use native.Mathlib.Numerals.{add-one}
use native.Mathlib.Omega.{arith}
use borrow.Author.Tests.{ltb-true, ltb-false, leb-false, lt-ltb, le-ltb, lt-leb}
use lib.Dec.{T, ltb}
use Rattle.answers.specs.Call.{first_refusal, ◌then◌, each_below}
use Rattle.tables.specs.Sheet.{Lent, from, to, separation_key}
use Rattle.tables.specs.Refusals.{size_refusals, used_refusals, sheet_refusals, pair_refusals, separation_refusals, Listed, Acceptable}
use Rattle.answers.proofs.Below.{none_above, all_within}
use Rattle.answers.proofs.Calls.{numbered, none_left, passed, pass, passed_then, pass_then}
use Rattle.answers.proofs.Scans.{each_passes, all_pass}

-- ---- 1, 5 and 11
pub sheet_numbered : (short long : Bool) (l : Lent) → T (numbered (sheet_refusals short long l))
unfolding ◌then◌ sheet_refusals size_refusals used_refusals
sheet_numbered short long l = tt

-- "comes exactly where that document says": where 1, 5 and 11 do not come, lengths, counts, bytes and the transfer list are in range
pub tables_passed : (short long : Bool) (l : Lent) → first_refusal (sheet_refusals short long l) ≡ 0 → Acceptable short long l
unfolding ◌then◌ sheet_refusals size_refusals used_refusals
tables_passed short long l e =
    let s = passed _ _ _ tt e in
    let a = passed _ _ _ tt s.1 in
    let p = passed _ _ _ tt a.1 in
    let ns = passed _ _ _ tt p.1 in
    let no' = passed _ _ _ tt ns.1 in
    let nr = passed _ _ _ tt no'.1 in
    let t = passed _ _ _ tt nr.1 in
    let b = passed _ _ _ tt t.1 in
    let m = passed _ _ _ tt b.1 in
    record {
      not_short = s.0;
      not_long = t.0;
      sized =
          record {
            counts_fit = record { subjects = ltb-false _ _ ns.0; objects = ltb-false _ _ no'.0; roles = ltb-false _ _ nr.0 };
            assignment = ltb-false _ _ a.0;
            permission = ltb-false _ _ p.0;
            assigned = none_above l.assignment _ _ b.0;
            modes = none_above l.permission _ _ m.0;
          };
    }

-- "comes exactly where that document says": where lengths, counts, bytes and the transfer list are in range, 1, 5 and 11 do not come
pub tables_pass : (short long : Bool) (l : Lent) → Acceptable short long l → first_refusal (sheet_refusals short long l) ≡ 0
unfolding ◌then◌ sheet_refusals size_refusals used_refusals first_refusal
tables_pass short long l p =
    let s = p.sized in
    rw (
      p.not_short,
      le-ltb _ _ s.assignment,
      le-ltb _ _ s.permission,
      le-ltb _ _ s.counts_fit.subjects,
      le-ltb _ _ s.counts_fit.objects,
      le-ltb _ _ s.counts_fit.roles,
      p.not_long,
      all_within l.assignment (l.counts.subjects * l.counts.roles) 1 s.assigned,
      all_within l.permission (l.counts.roles * l.counts.objects) 3 s.modes,
    )

-- ---- 8, 6 and 7
and_false : (a b : Bool) → a && b ≡ false → a ≡ true → b ≡ false
and_false true b e h = e
and_false false b e h = absurd (let z : ◌≡◌ {A = ℕ} 0 1 = cc in omega arith)

false_and : (a b : Bool) → (a ≡ true → b ≡ false) → a && b ≡ false
false_and true b h = h refl
false_and false b h = refl

module _ (n : ℕ) (separations : List ℕ) where
  pub pair_numbered : (i : ℕ) → T (numbered (pair_refusals n separations i))
  unfolding pair_refusals
  pair_numbered i = tt

  -- what separation i has that passed
  record Pair (i : ℕ) : Type 0 where
    low : from separations i < n
    high : to separations i < n
    after : 0 < i → separation_key separations (i - 1) < separation_key separations i

  pair_passed : (i : ℕ) → first_refusal (pair_refusals n separations i) ≡ 0 → Pair i
  unfolding pair_refusals
  pair_passed i e =
      let f = passed _ _ _ tt e in
      let t = passed _ _ _ tt f.1 in
      let a = passed _ _ _ tt t.1 in
      record {
        low = leb-false _ _ f.0;
        high = leb-false _ _ t.0;
        after = λ h. leb-false _ _ (and_false (ltb 0 i) _ a.0 (lt-ltb 0 i h));
      }

  pair_passes : (i : ℕ) → Pair i → first_refusal (pair_refusals n separations i) ≡ 0
  unfolding pair_refusals
  pair_passes i p =
      pass 6 _ _ (lt-leb _ _ p.low)
      (pass 6 _ _ (lt-leb _ _ p.high) (pass 7 _ _ (false_and (ltb 0 i) _ (λ e. lt-leb _ _ (p.after (ltb-true 0 i e)))) none_left))

  -- "comes exactly where that document says": where 8, 6 and 7 do not come, separations are at most 64, between entities and ascending strictly
  pub separations_passed : (count : ℕ) → first_refusal (separation_refusals n count separations) ≡ 0 → Listed n count separations
  unfolding separation_refusals
  separations_passed count e =
      let p = passed_then _ (each_below count (pair_refusals n separations)) tt e in
      let pair : (i : ℕ) → i < count → Pair i = λ i h. pair_passed i (each_passes (pair_refusals n separations) pair_numbered count p.1 i h) in
      record {
        few = ltb-false _ _ (passed _ _ _ tt p.0).0;
        below = λ i h. ((pair i h).low, (pair i h).high);
        ascend = λ i h. let e : i + 1 - 1 ≡ i = omega arith in rw e at ((pair (i + 1) h).after (omega arith));
      }

  -- "comes exactly where that document says": where separations are at most 64, between entities and ascending strictly, 8, 6 and 7 do not come
  pub separations_pass : (count : ℕ) → Listed n count separations → first_refusal (separation_refusals n count separations) ≡ 0
  unfolding separation_refusals
  separations_pass count l =
      pass_then _ (each_below count (pair_refusals n separations)) tt (pass 8 _ _ (le-ltb _ _ l.few) none_left)
      (all_pass (pair_refusals n separations) pair_numbered count (λ i h. pair_passes i (pair i h)))
    where
      rises : (i : ℕ) → i < count → 0 < i → separation_key separations (i - 1) < separation_key separations i
      rises zero h p = absurd (omega arith)
      rises (suc i) h p = let e : suc i - 1 ≡ i = omega arith in rw (e, ← add-one i) (l.ascend i (omega arith))

      pair : (i : ℕ) → i < count → Pair i
      pair i h = record { low = (l.below i h).0; high = (l.below i h).1; after = rises i h }
