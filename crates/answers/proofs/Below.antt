-- Laws of `any_below`, for a loop that goes up and stops at the first number whose test holds. Its invariant is
-- `any_below i test ≡ false`: `none_yet` at the start, `none_more` after a turn, `found`
-- where it stops, `none` where it has passed all. `held_by` is what a test that holds tells.
use mathlib.Core.Path.{◌≡◌, refl, sym, subst, ◌∙◌}
use mathlib.Core.Logic.{⊎_elim}
use mathlib.Core.Bool.{Bool, true, false, ◌||◌, or-true, or-false, false≢true}
use mathlib.Core.List.{List}
use Prim.Native.Nat.{ℕ, zero, suc, ◌+◌, ◌≤◌, ◌<◌}
use native.Mathlib.Nat.{not-suc-le-zero, le_of_suc-le-suc, eq-or-lt_of_le, le_refl, le_antisymm}
use native.Mathlib.Numerals.{add-one}
use native.Mathlib.Omega.{arith}
use borrow.Author.Tests.{ltb-false, le-ltb}
use lib.ListN.{get_or}
use Rattle.answers.specs.Rows.{any_below, some_above}

module _ (test : ℕ → Bool) where
  pub none_yet : any_below 0 test ≡ false
  unfolding any_below
  none_yet = refl

  pub none_more : (i : ℕ) → any_below i test ≡ false → test i ≡ false → any_below (i + 1) test ≡ false
  unfolding any_below
  none_more i before here = rw (add-one, before, here)

  pub none : (n i : ℕ) → i ≤ n → n ≤ i → any_below i test ≡ false → any_below n test ≡ false
  none n i l m e = rw (le_antisymm l m) at e

  pub found : (n i : ℕ) → i < n → test i ≡ true → any_below n test ≡ true
  unfolding any_below
  found zero i below here = absurd (not-suc-le-zero below)
  found (suc n) i below here =
      ⊎_elim (λ e. last (subst (λ (k : ℕ). test k ≡ true) e here)) (λ l. rw (found n i l here))
      (eq-or-lt_of_le (le_of_suc-le-suc below))
    where
      last : test n ≡ true → (any_below n test || test n) ≡ true
      last e = rw (e, or-true)

  -- for a loop that goes on to the end: what it has found so far
  pub so_far : (i : ℕ) (some : Bool) → some ≡ any_below i test → (some || test i) ≡ any_below (i + 1) test
  unfolding any_below
  so_far i some e = rw (add-one, e)

  pub to_the_end : (n i : ℕ) (some : Bool) → i ≤ n → n ≤ i → some ≡ any_below i test → some ≡ any_below n test
  to_the_end n i some l m e = rw (le_antisymm l m) at e

  pub held_by : (n : ℕ) → any_below n test ≡ true → (k : ℕ) × (k < n) × (test k ≡ true)
  unfolding any_below
  held_by zero e = absurd (false≢true e)
  held_by (suc n) e = last (test n) refl (held_by n)
    where
      last : (b : Bool) → test n ≡ b → (any_below n test ≡ true → (k : ℕ) × (k < n) × (test k ≡ true)) → (k : ℕ) × (k < suc n) × (test k ≡ true)
      last true q earlier = (n, le_refl (suc n), q)
      last false q earlier =
          let (k, l, h) = earlier (rw (q, or-false) at e) in
          (k, omega arith, h)

  -- where it holds of no number, each number's test fails, and the other way round
  pub none_of : (n : ℕ) → any_below n test ≡ false → (k : ℕ) → k < n → test k ≡ false
  none_of n e k below = go (test k) refl
    where
      go : (b : Bool) → test k ≡ b → test k ≡ false
      go true q = absurd (false≢true (sym e ∙ found n k below q))
      go false q = q

  pub all_fail : (n : ℕ) → ((k : ℕ) → k < n → test k ≡ false) → any_below n test ≡ false
  unfolding any_below
  all_fail zero each = refl
  all_fail (suc n) each = rw (all_fail n (λ k h. each k (omega arith)), each n (omega arith))

-- ---- a byte above
pub none_above : (bytes : List ℕ) (used most : ℕ) → some_above bytes used most ≡ false → (k : ℕ) → k < used → get_or bytes k 0 ≤ most
none_above bytes used most e k h = ltb-false _ _ (none_of _ used e k h)

pub all_within : (bytes : List ℕ) (used most : ℕ) → ((k : ℕ) → k < used → get_or bytes k 0 ≤ most) → some_above bytes used most ≡ false
all_within bytes used most each = all_fail _ used (λ k h. le-ltb _ _ (each k h))
