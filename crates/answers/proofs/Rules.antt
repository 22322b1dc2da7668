-- Laws of the rules of a list: the next one refuses, or what is left behind it decides.
use mathlib.Core.Path.{◌≡◌}
use mathlib.Core.Bool.{Bool, true, false}
use mathlib.Core.List.{List}
use Prim.Native.Nat.{ℕ, ◌+◌, ◌≤◌, ◌<◌}
use native.Mathlib.Numerals.{add-one}
use lib.ListN.{length, drop, get_or}
use lib.Seq.{drop-cons}
use Rattle.std.proofs.lemmas.List.{drop_all}
use Rattle.answers.specs.declared.refused.Refused.{Refused}
use Rattle.answers.specs.Call.{first_refusal}
use Rattle.answers.specs.Refused.{number, listed}

module _ (d : Bool × Refused) (rules : List (Bool × Refused)) (i : ℕ) (h : i < length rules) where
  pub this_refuses : (get_or rules i d).0 ≡ true → first_refusal (listed (drop i rules)) ≡ number (get_or rules i d).1
  unfolding first_refusal
  this_refuses e = rw (drop-cons rules i d h, e)

  pub this_passes : (get_or rules i d).0 ≡ false → first_refusal (listed (drop i rules)) ≡ first_refusal (listed (drop (i + 1) rules))
  unfolding first_refusal
  this_passes e = rw (drop-cons rules i d h, e, add-one)

pub none_left_from : (rules : List (Bool × Refused)) (i : ℕ) → length rules ≤ i → first_refusal (listed (drop i rules)) ≡ 0
unfolding first_refusal
none_left_from rules i h = rw (drop_all i rules h)
