-- What each number of a list of refusals has, the number that is answered has: over any test of numbers that 0 passes.
use mathlib.Core.Bool.{Bool, true, false, ◌&&◌, cond}
use mathlib.Core.List.{List, [], ◌∷◌}
use Prim.Native.Nat.{ℕ, zero, suc}
use lib.Dec.{T}
use Rattle.answers.specs.Call.{Refusal, ◌then◌, first_refusal, each_below}
use Rattle.answers.proofs.Calls.{parts, join}

module _ (passes : ℕ → Bool) where
  -- `tt` shows it of a list whose numbers are written out
  abbrev pub all_numbers : List Refusal → Bool
  all_numbers [] = true
  all_numbers (r ∷ rest) = passes r.number && all_numbers rest

  pub numbers_then : (l m : List Refusal) → T (all_numbers l) → T (all_numbers m) → T (all_numbers (l then m))
  unfolding ◌then◌
  numbers_then [] m p q = q
  numbers_then (r ∷ l) m p q =
      let (here, rest) = parts (passes r.number) (all_numbers l) p in
      join (passes r.number) _ here (numbers_then l m rest q)

  pub numbers_each : (list : ℕ → List Refusal) → ((i : ℕ) → T (all_numbers (list i))) → (n : ℕ) → T (all_numbers (each_below n list))
  unfolding each_below
  numbers_each list each zero = tt
  numbers_each list each (suc n) = numbers_then (each_below n list) (list n) (numbers_each list each n) (each n)

  pub answered_number : (l : List Refusal) → T (passes 0) → T (all_numbers l) → T (passes (first_refusal l))
  unfolding first_refusal
  answered_number [] z p = z
  answered_number (r ∷ l) z p =
      let (here, rest) = parts (passes r.number) (all_numbers l) p in
      go r.test here (answered_number l z rest)
    where
      go : (t : Bool) → T (passes r.number) → T (passes (first_refusal l)) → T (passes (cond t r.number (first_refusal l)))
      go true here rest = here
      go false here rest = rest
