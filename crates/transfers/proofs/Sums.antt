-- Sums of the numbers f 0 to f (n - 1): two whose terms are equal at all places but one, and one with a single term.
use Prim.Native.Nat.{ℕ, zero, suc, ◌+◌, ◌<◌}
use native.Mathlib.Decide.{ℕ_discrete}
use native.Mathlib.Omega.{arith}
use mathlib.Core.Path.{◌≡◌, refl, ap, ap₂}

-- f 0 + f 1 + .. + f (n - 1)
unfoldable pub sum_below : ℕ → (ℕ → ℕ) → ℕ
sum_below zero f = 0
sum_below (suc n) f = sum_below n f + f n

sum_same : (n : ℕ) (f g : ℕ → ℕ) → ((x : ℕ) → x < n → f x ≡ g x) → sum_below n f ≡ sum_below n g
unfolding sum_below
sum_same zero f g e = refl
sum_same (suc n) f g e = ap₂ ◌+◌ (sum_same n f g (λ x h. e x (omega arith))) (e n (omega arith))

-- sums that may differ in the term at a only
pub sum_but_one : (n a : ℕ) (f g : ℕ → ℕ) → a < n → ((x : ℕ) → x < n → (x ≡ a → ⊥) → f x ≡ g x) →
    sum_below n f + g a ≡ sum_below n g + f a
unfolding sum_below
sum_but_one zero a f g h e = absurd (omega arith)
sum_but_one (suc n) a f g h e = go (ℕ_discrete n a) (λ below. sum_but_one n a f g below (λ x k. e x (omega arith)))
  where
    go : Dec (n ≡ a) → (a < n → sum_below n f + g a ≡ sum_below n g + f a) → sum_below (suc n) f + g a ≡ sum_below (suc n) g + f a
    go (yes p) rest = omega (arith, sum_same n f g (λ x k. e x (omega arith) (λ q. omega arith)), ap f p, ap g p)
    go (no p) rest = omega (arith, rest (omega arith), e n (omega arith) p)

sum_zero : (n : ℕ) → sum_below n (λ x. 0) ≡ 0
unfolding sum_below
sum_zero zero = refl
sum_zero (suc n) = omega (arith, sum_zero n)

-- a sum whose terms are 0 at all places but a
pub sum_of_one : (n a : ℕ) (f : ℕ → ℕ) → a < n → ((x : ℕ) → x < n → (x ≡ a → ⊥) → f x ≡ 0) → sum_below n f ≡ f a
sum_of_one n a f h e = omega (arith, sum_but_one n a f (λ x. 0) h e, sum_zero n)
