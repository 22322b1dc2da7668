-- The share of x in y: how often x's starting mark enters y's final mark, and sums of marks, each times its share.
use Prim.Native.Nat.{ℕ, ◌+◌, ◌*◌, ◌/◌, ◌%◌, ◌<◌}
use native.Mathlib.Nat.{mul-zero, mul-one, add-mul, mul-add, mul_right_comm, add-mul-mod_self_right, div-add-mod'}
use native.Mathlib.Omega.{arith}
use mathlib.Core.Path.{◌≡◌, refl, sym, ap, ◌∙◌}
use mathlib.Core.Bool.{cond}
use mathlib.Core.List.{List, [], ◌∷◌}
use lib.Dec.{eqb}
use lib.ListN.{get_or}
use borrow.Author.Tests.{eq-eqb, ne_eqb}
use Rattle.transfers.specs.declared.Act.{Act}
use Rattle.transfers.specs.declared.Act.TheVariants.{Moves, OutOfRange, NotPermitted}
use Rattle.transfers.specs.Demand3.{DifferAt}
use Rattle.transfers.proofs.Sums.{sum_below, sum_but_one, sum_of_one}

-- with no act left, x's mark enters y's once if x is y; a move from a to b lets a's mark enter wherever b's does from there on
unfoldable pub share : List Act → ℕ → ℕ → ℕ
share [] x y = cond (eqb x y) 1 0
share (Moves a b ∷ acts) x y = share acts x y + cond (eqb x a) (share acts b y) 0
share (OutOfRange ∷ acts) x y = share acts x y
share (NotPermitted ∷ acts) x y = share acts x y

-- the starting marks of n entities, each times its share in y
unfoldable pub weighed : ℕ → List Act → List ℕ → ℕ → ℕ
weighed n acts marks y = sum_below n (λ x. get_or marks x 0 * share acts x y)

-- with no act it is y's mark
pub weighed_none : (n : ℕ) (marks : List ℕ) (y : ℕ) → y < n → weighed n [] marks y ≡ get_or marks y 0
unfolding weighed share
weighed_none n marks y h = sum_of_one n y _ h (λ x k other. rw (ne_eqb x y other, mul-zero)) ∙ rw (eq-eqb y y refl, mul-one)

-- What a move does to one term of the sum on the left, it does to another on the right, modulo m: p is the mark at b, q that at a, s
-- and t are their shares.
pub exchange : (m old left right p q s t : ℕ) → left + p * t ≡ old + (p + q) % m * t → right + q * s ≡ old + q * (s + t) →
    left % m ≡ right % m
exchange m old left right p q s t e f = sym (ap (λ (r : ℕ). r % m) whole ∙ add-mul-mod_self_right left ((p + q) / m * t) m)
  where
    split : (p + q) * t ≡ (p + q) / m * m * t + (p + q) % m * t
    split = ap (λ (r : ℕ). r * t) (sym (div-add-mod' (p + q) m)) ∙ add-mul ((p + q) / m * m) ((p + q) % m) t

    whole : right ≡ left + (p + q) / m * t * m
    whole = omega (arith, split, add-mul p q t, mul-add q s t, mul_right_comm ((p + q) / m) m t)

-- of two runs from marks that differ at x only, the sums differ by x's share
pub two_runs : (n x : ℕ) (acts : List Act) (marks marks' : List ℕ) (y : ℕ) → DifferAt n x marks marks' → x < n →
    weighed n acts marks y + get_or marks' x 0 * share acts x y ≡ weighed n acts marks' y + get_or marks x 0 * share acts x y
unfolding weighed
two_runs n x acts marks marks' y d h = sum_but_one n x _ _ h (λ z k other. rw (d.agree z k other))
