-- `compare`: how two entities of a flow table stand to each other.
use Rattle.std.specs.Prelude.{ℕ, ◌≡◌, List, Result, Ok, Err}
use Rattle.std.proofs.Math.Option.{Option, some, none}
use Rattle.answers.specs.declared.refused.Refused.{Refused as Why}
use Rattle.answers.specs.Call.{Outcome}
use Rattle.answers.specs.Refused.{number}
use Rattle.answers.specs.Rows.{Bytes}
use Rattle.theory.specs.Order.{Order, equal, below, above, incomparable, Compares}
use Rattle.questions.specs.declared.Compared.{Compared}
use Rattle.questions.specs.declared.Compared.TheVariants.{Equal, Below, Above, Incomparable}
use Rattle.questions.specs.Questions.{both_asked_refusals}

-- "Where an answer is an enum, a definition gives this paper's number and values for each of its cases"
pub record Comparison : Type 0 where
  pub number : ℕ
  pub order : Option Order

-- number 0, and the order
abbrev pub compared : Order → Comparison
compared o = record { number = 0; order = some o }

-- the number of a refusal, and no order
abbrev pub not_compared : ℕ → Comparison
not_compared n = record { number = n; order = none }

-- "equal (equivalent), below .., above .. or incomparable"
abbrev pub order_of : Compared → Order
order_of Equal = equal
order_of Below = below
order_of Above = above
order_of Incomparable = incomparable

-- "for each of its cases"
unfoldable pub comparison : Result Compared Why → Comparison
comparison (Ok c) = compared (order_of c)
comparison (Err why) = not_compared (number why)

-- "Two entities compare as equal (equivalent), below .., above .. or incomparable"
pub record Stands (n : ℕ) (table : List ℕ) (x y : ℕ) (result : Comparison) : Type 0 where
  pub order : Order
  pub compares : Compares (Bytes n table) x y order
  pub told : result ≡ compared order

-- the contract of `compare`
unfoldable pub ComparesTo : ℕ → List ℕ → ℕ → ℕ → Result Compared Why → Type 0
ComparesTo n table x y r = Outcome (both_asked_refusals n table x y) not_compared (Stands n table x y) (comparison r)
