-- What `any` over the numbers below n tells, said of the numbers and not of a list; std's `first_from_Range` is the same of `find`.
use mathlib.Core.Path.{◌≡◌, refl, sym, subst, ◌∙◌}
use mathlib.Core.Bool.{Bool, true, false}
use Prim.Native.Nat.{ℕ, ◌<◌}
use native.Mathlib.Omega.{arith}
use mathlib.Core.List.{List}
use lib.ListN.{length}
use denote.Param.Members.{Mut, Called}
use Rattle.std.specs.Prelude.{Option, MatchOption}
use Rattle.std.specs.Bool.{MatchBool}
use Rattle.std.specs.Iterator.{YieldsThen}
use Rattle.std.specs.List.{FoldsTo, AllWithin, HoldsAt, range_with_len}
use Rattle.std.specs.declared.ops.Range.{Range}
use Rattle.std.proofs.lemmas.List.FromFn.{length-range_with_len, get_or-range_with_len}
use Rattle.std.proofs.lemmas.Iterator.{YieldsList-from_range, cases_from_any}
use Rattle.std.proofs.iter.Yields.{nat_range_steps}

module _ {F : Type 0} {g : Mut F (ℕ × Unit {0}) Bool} (n : ℕ) (u : Range ℕ) (f : F) (r : Bool) (P : ℕ → Type 0) where
  -- P is what a call that answers true tells
  pub any_from_Range : (xs : List ℕ) × (o : Option ℕ) × (j : F) × YieldsThen nat_range_steps (record { start = 0; end = n }) xs o u
      × FoldsTo (λ p x q. Called g p (x, tt) false q) f xs j × MatchOption o (r ≡ false) (λ x. (r ≡ true) × ((h : F) × Called g j (x, tt) true h)) →
      ((x : ℕ) (q : F) → Called g f (x, tt) true q → P x) → ((x : ℕ) (q : F) → Called g f (x, tt) false q → (q ≡ f) × (P x → ⊥)) →
      MatchBool r ((k : ℕ) × (k < n) × P k) ((k : ℕ) → k < n → P k → ⊥)
  any_from_Range ran yes' no' =
      by r (cases_from_any u f r P (λ k. P k → ⊥) ran (YieldsList-from_range 0 n n refl (omega arith)) yes' no')
    where
      by : (b : Bool) → MatchBool b ((k : ℕ) × (k < length (range_with_len 0 n)) × HoldsAt P (range_with_len 0 n) k)
          (AllWithin (λ k. P k → ⊥) (range_with_len 0 n) 0 (length (range_with_len 0 n))) →
          MatchBool b ((k : ℕ) × (k < n) × P k) ((k : ℕ) → k < n → P k → ⊥)
      by true h =
          let below : h.0 < n = omega (arith, h.1, length-range_with_len 0 n) in
          (h.0, below, subst P (get_or-range_with_len 0 n h.0 0 below ∙ omega arith) (h.2 0))
      by false h = λ k l p. h k 0 (omega arith) (omega (arith, length-range_with_len 0 n)) (subst P (sym (get_or-range_with_len 0 n k 0 l ∙ omega arith)) p)
