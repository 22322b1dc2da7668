-- "Bytes past the used part are neither judged nor altered": a test of the used bytes, and a list of refusals below a number, are the same
-- where what they look at is.
use Prim.Native.Nat.{ℕ, zero, suc, ◌<◌}
use native.Mathlib.Omega.{arith}
use mathlib.Core.Path.{◌≡◌, refl}
use mathlib.Core.Bool.{Bool}
use mathlib.Core.List.{List}
use Rattle.answers.specs.Call.{Refusal, each_below}
use Rattle.answers.specs.Rows.{SameUsed, any_below, shorter, some_above}

pub any_below_same : (n : ℕ) (test test' : ℕ → Bool) → ((k : ℕ) → k < n → test k ≡ test' k) → any_below n test ≡ any_below n test'
unfolding any_below
any_below_same zero test test' same = refl
any_below_same (suc n) test test' same = rw (any_below_same n test test' (λ k h. same k (omega arith)), same n (omega arith))

pub each_below_same : (n : ℕ) (list list' : ℕ → List Refusal) → ((k : ℕ) → k < n → list k ≡ list' k) → each_below n list ≡ each_below n list'
unfolding each_below
each_below_same zero list list' same = refl
each_below_same (suc n) list list' same = rw (each_below_same n list list' (λ k h. same k (omega arith)), same n (omega arith))

pub shorter_same : {n : ℕ} {buffer buffer' : List ℕ} → SameUsed n buffer buffer' → (least : ℕ) → shorter buffer least ≡ shorter buffer' least
shorter_same same least = rw same.same_length

pub some_above_same : {n : ℕ} {buffer buffer' : List ℕ} → SameUsed n buffer buffer' → (most : ℕ) → some_above buffer n most ≡ some_above buffer' n most
some_above_same {n} same most = any_below_same n _ _ (λ k h. rw (same.same_bytes k h))
