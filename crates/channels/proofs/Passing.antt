-- Laws of `passing`: the numbers that pass a test, one number more, and which stand on the list.
use Rattle.std.proofs.Common.{◌≡◌, ℕ, zero, suc, ◌+◌, ◌≤◌, ◌<◌, Bool, true, false, cond, List, [], ◌∷◌, ◌++◌, length, get_or, refl, ◌∙◌, arith, add-one, ◌⊎◌, inl, inr}
use Rattle.std.proofs.lemmas.List.{get_or_push, append-nil}
use lib.ListN.{length-append, get_or-append}
use native.Mathlib.Decide.{dec_lt}
use Rattle.channels.specs.Inner.{passing}

-- the number behind the others, if it passes
abbrev with_last : Bool → List ℕ → ℕ → List ℕ
with_last b list n = list ++ cond b (n ∷ []) []

module _ (list : List ℕ) (n : ℕ) where
  kept : (b : Bool) (k : ℕ) → k < length list → get_or (with_last b list n) k 0 ≡ get_or list k 0
  kept b k h = get_or-append list (cond b (n ∷ []) []) 0 k h

  longer : (b : Bool) → length list ≤ length (with_last b list n)
  longer b = omega (arith, length-append list (cond b (n ∷ []) []))

  last : get_or (with_last true list n) (length list) 0 ≡ n
  last = get_or_push list n 0 (length list) refl

  room : length list < length (with_last true list n)
  room = omega (arith, length-append list (n ∷ []))

  -- what stands on it stood there, or is the last
  stood : (b : Bool) (k : ℕ) → k < length (with_last b list n) → (k < length list) ⊎ ((b ≡ true) × (k ≡ length list))
  stood true k h = go (dec_lt k (length list))
    where
      go : Dec (k < length list) → (k < length list) ⊎ ((true ≡ true) × (k ≡ length list))
      go (yes l) = inl l
      go (no l) = inr (refl, omega (arith, length-append list (n ∷ [])))
  stood false k h = inl (omega (arith, length-append {A = ℕ} list []))

module _ (test : ℕ → Bool) where
  pub pass_none : [] ≡ passing test 0
  unfolding passing
  pass_none = refl

  -- a turn of a loop that goes up
  pub pass_one : (n : ℕ) → test n ≡ true → passing test (n + 1) ≡ passing test n ++ (n ∷ [])
  unfolding passing
  pass_one n e = rw (add-one, e)

  pub pass_over : (n : ℕ) → test n ≡ false → passing test (n + 1) ≡ passing test n
  unfolding passing
  pass_over n e = rw (add-one, e, append-nil)

  -- each on the list is below n and passes
  pub only : (n k : ℕ) → k < length (passing test n) → (get_or (passing test n) k 0 < n) × (test (get_or (passing test n) k 0) ≡ true)
  unfolding passing
  only zero k h = absurd (omega arith)
  only (suc n) k h = go (only n) (stood (passing test n) n (test n) k h)
    where
      go : ((j : ℕ) → j < length (passing test n) → (get_or (passing test n) j 0 < n) × (test (get_or (passing test n) j 0) ≡ true)) →
          (k < length (passing test n)) ⊎ ((test n ≡ true) × (k ≡ length (passing test n))) →
          (get_or (with_last (test n) (passing test n) n) k 0 < suc n) × (test (get_or (with_last (test n) (passing test n) n) k 0) ≡ true)
      go earlier (inl l) = let o = earlier k l in rw (kept (passing test n) n (test n) k l) (omega arith, o.1)
      go earlier (inr (e, at)) = rw (at, e, last (passing test n) n) (omega arith, e)

  -- and each that passes stands there
  pub all : (n r : ℕ) → r < n → test r ≡ true → (k : ℕ) × (k < length (passing test n)) × (get_or (passing test n) k 0 ≡ r)
  unfolding passing
  all zero r h e = absurd (omega arith)
  all (suc n) r h e = go (all n r) (dec_lt r n)
    where
      go : (r < n → test r ≡ true → (k : ℕ) × (k < length (passing test n)) × (get_or (passing test n) k 0 ≡ r)) → Dec (r < n) →
          (k : ℕ) × (k < length (with_last (test n) (passing test n) n)) × (get_or (with_last (test n) (passing test n) n) k 0 ≡ r)
      go earlier (yes l) =
          let (k, below, at) = earlier l e in
          (k, omega (arith, longer (passing test n) n (test n)), kept (passing test n) n (test n) k below ∙ at)
      go earlier (no l) =
          let same : r ≡ n = omega arith in
          let passes : test n ≡ true = rw same at e in
          rw (passes, same) (length (passing test n), room (passing test n) n, last (passing test n) n)
