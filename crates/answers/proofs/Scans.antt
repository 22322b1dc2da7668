-- Laws of `each_below`, for a loop that goes up and stops at the first number that is refused. Its invariant is
-- `first_refusal (each_below i list) ≡ 0`: `none_yet` at the start, `none_more` after a turn, `none` where it has passed all, and
-- `found` where it stops.
use mathlib.Core.Path.{◌≡◌, refl, sym, subst, ◌∙◌}
use mathlib.Core.Logic.{◌≢◌, ⊎_elim}
use mathlib.Core.List.{List}
use Prim.Native.Nat.{ℕ, zero, suc, ◌+◌, ◌≤◌, ◌<◌}
use native.Mathlib.Nat.{not-suc-le-zero, le_of_suc-le-suc, eq-or-lt_of_le, le_antisymm}
use native.Mathlib.Numerals.{add-one}
use native.Mathlib.Omega.{arith}
use lib.Dec.{T}
use Rattle.answers.specs.Call.{Refusal, ◌then◌, first_refusal, each_below}
use Rattle.answers.proofs.Calls.{numbered, numbered_then, by_first, by_second, passed_then}

module _ (list : ℕ → List Refusal) (named : (i : ℕ) → T (numbered (list i))) where
  pub all_named : (n : ℕ) → T (numbered (each_below n list))
  unfolding each_below
  all_named zero = tt
  all_named (suc n) = numbered_then (each_below n list) (list n) (all_named n) (named n)

  pub none_yet : first_refusal (each_below 0 list) ≡ 0
  unfolding each_below first_refusal
  none_yet = refl

  pub none_more : (i : ℕ) → first_refusal (each_below i list) ≡ 0 → first_refusal (list i) ≡ 0 → first_refusal (each_below (i + 1) list) ≡ 0
  unfolding each_below
  none_more i before here = rw add-one (by_second (each_below i list) (list i) (all_named i) before ∙ here)

  pub none : (n i : ℕ) → i ≤ n → n ≤ i → first_refusal (each_below i list) ≡ 0 → first_refusal (each_below n list) ≡ 0
  none n i l m e = rw (le_antisymm l m) at e

  pub found : (n i : ℕ) → i < n → first_refusal (each_below i list) ≡ 0 → first_refusal (list i) ≢ 0 → first_refusal (each_below n list) ≡ first_refusal (list i)
  unfolding each_below
  found zero i below before here = absurd (not-suc-le-zero below)
  found (suc n) i below before here =
      ⊎_elim
      (λ e. last (subst (λ (k : ℕ). first_refusal (each_below k list) ≡ 0) e before) ∙ subst (λ (k : ℕ). first_refusal (list n) ≡ first_refusal (list k)) (sym e) refl)
      (λ l. earlier (found n i l before here))
      (eq-or-lt_of_le (le_of_suc-le-suc below))
    where
      last : first_refusal (each_below n list) ≡ 0 → first_refusal (each_below n list then list n) ≡ first_refusal (list n)
      last p = by_second (each_below n list) (list n) (all_named n) p

      earlier : first_refusal (each_below n list) ≡ first_refusal (list i) → first_refusal (each_below n list then list n) ≡ first_refusal (list i)
      earlier p = by_first (each_below n list) (list n) (λ z. here (sym p ∙ z)) ∙ p

  -- the lists pass exactly if each does
  pub each_passes : (n : ℕ) → first_refusal (each_below n list) ≡ 0 → (i : ℕ) → i < n → first_refusal (list i) ≡ 0
  unfolding each_below
  each_passes zero e i h = absurd (not-suc-le-zero h)
  each_passes (suc n) e i h =
      let p = passed_then (each_below n list) (list n) (all_named n) e in
      ⊎_elim (λ q. rw q p.1) (λ l. each_passes n p.0 i l) (eq-or-lt_of_le (le_of_suc-le-suc h))

  pub all_pass : (n : ℕ) → ((i : ℕ) → i < n → first_refusal (list i) ≡ 0) → first_refusal (each_below n list) ≡ 0
  all_pass zero each = none_yet
  all_pass (suc n) each = rw (← add-one n) (none_more n (all_pass n (λ i h. each i (omega arith))) (each n (omega arith)))
