-- What each question answers on a flow table of n entities whose bytes are a relation R, as those of the table that filling wrote are
-- the sheet's flow.
use Rattle.std.specs.Prelude.{ℕ, ◌≤◌, ◌≡◌, List, length, take, drop, Result}
use Rattle.answers.specs.declared.Told.{Told}
use Rattle.answers.specs.declared.refused.Refused.{Refused as Why}
use Rattle.answers.specs.Sizes.{least_label}
use Rattle.answers.specs.Rows.{Mark}
use Rattle.theory.specs.Order.{Label, LabelSize, ClassName, Order, Compares, Greatest}
use Rattle.questions.specs.declared.Compared.{Compared}
use Rattle.questions.specs.Questions.{Answered, Flows, Labels, Names, Flags}
use Rattle.questions.specs.Compare.{compared, comparison, ComparesTo}

-- "The label of x is the set of y with flow from y to x, written as N bytes, 0 or 1": answer, size and buffer are right of R
pub record LabelTold (n : ℕ) (R : ℕ → ℕ → Type 0) (x : ℕ) (before : List ℕ) (result : Told × List ℕ) : Type 0 where
  pub answer : result.0.answer ≡ 0
  pub size : LabelSize n R x result.0.value
  pub label : Label n R x (take n result.1)
  -- "Bytes past the used part are neither judged nor altered"
  pub rest : drop n result.1 ≡ drop n before

-- "Questions on a flow table are defined by its bytes alone; that these are the sheet's flows is promised of the table that filling
-- wrote": what a question on x, or on x and y, answers is 0, "done", and its value is right of R
pub record QuestionsTell (n : ℕ) (R : ℕ → ℕ → Type 0) (table : List ℕ) (x y : ℕ) : Type 0 where
  -- "flow from x to y holds": 1, and 0 if it does not
  pub flows : (r : Told) → Flows n table x y r → Answered (Mark (R x y)) r
  -- "Least lent lengths, whatever the counts: .. label 112"
  pub label : (before : List ℕ) → least_label ≤ length before → (r : Told × List ℕ) → Labels n table x before r → LabelTold n R x before r
  -- "A class is named by its smallest member"
  pub class_name : (r : Told) → Names n table x r → Answered (ClassName n R x) r
  -- "Two entities compare as equal (equivalent), below .., above .. or incomparable"
  pub compare : (r : Result Compared Why) → ComparesTo n table x y r → (o : Order) × Compares R x y o × (comparison r ≡ compared o)
  -- "Greatest secrecy: the entity flows to nothing but itself. Greatest integrity: nothing but itself flows into it."
  pub greatest : (r : Told) → Flags n table x r → Answered (Greatest n R x) r
