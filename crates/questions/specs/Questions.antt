-- The questions on a flow table of n entities, "defined by its bytes alone".
use Rattle.std.specs.Prelude.{ℕ, ◌≡◌, Bool, cond, List, Result, Ok, Err}
use Rattle.answers.specs.declared.Told.{Told}
use Rattle.answers.specs.declared.refused.Refused.{Refused as Why}
use Rattle.answers.specs.Refused.{number}
use Rattle.answers.specs.Sizes.{least_label}
use Rattle.answers.specs.Call.{Refusal, ◌then◌, Outcome, told, told_and_left}
use Rattle.answers.specs.Rows.{Bytes, Mark, shorter}
use Rattle.theory.specs.Order.{ClassName, Greatest}
use Rattle.tables.specs.Refusals.{no_other}
use Rattle.tables.specs.FlowTable.{flow_refusals, entity_refusals, pair_asked_refusals}
use Rattle.labels.specs.Labelled.{Labelled}

-- the refusals of a question on x: "1, 5, 12, 10"
unfoldable pub asked_refusals : ℕ → List ℕ → ℕ → List Refusal
asked_refusals n table x = flow_refusals no_other n table then entity_refusals n x

-- and of one on x and y
unfoldable pub both_asked_refusals : ℕ → List ℕ → ℕ → ℕ → List Refusal
both_asked_refusals n table x y = flow_refusals no_other n table then pair_asked_refusals n x y

-- and of the label of x, in a buffer
abbrev pub label_refusals : ℕ → List ℕ → ℕ → List ℕ → List Refusal
label_refusals n table x label = flow_refusals (shorter label least_label) n table then entity_refusals n x

-- a call that answers 0 and one value, of which `Right` says that it is right
pub record Answered (Right : ℕ → Type 0) (result : Told) : Type 0 where
  pub answer : result.answer ≡ 0
  pub right : Right result.value

-- "a definition gives this paper's number and values for each of its cases": what `flows` tells, 1 for yes and 0 for no
abbrev pub yes_or_no : Result Bool Why → Told
yes_or_no (Ok flows) = told 0 (cond flows 1 0)
yes_or_no (Err why) = told (number why) 0

-- the contract of `flows`: 1 if x flows to y, 0 if not
abbrev pub Flows : ℕ → List ℕ → ℕ → ℕ → Told → Type 0
Flows n table x y = Outcome (both_asked_refusals n table x y) (λ k. told k 0) (Answered (Mark (Bytes n table x y)))

-- the contract of `label`
abbrev pub Labels : ℕ → List ℕ → ℕ → List ℕ → Told × List ℕ → Type 0
Labels n table x before =
    Outcome (label_refusals n table x before) (told_and_left before) (Labelled n table x before)

-- the contract of `class_name`: "A class is named by its smallest member"
abbrev pub Names : ℕ → List ℕ → ℕ → Told → Type 0
Names n table x = Outcome (asked_refusals n table x) (λ k. told k 0) (Answered (ClassName n (Bytes n table) x))

-- the contract of `greatest`: "flags (1 greatest secrecy, 2 greatest integrity, summed)"
abbrev pub Flags : ℕ → List ℕ → ℕ → Told → Type 0
Flags n table x = Outcome (asked_refusals n table x) (λ k. told k 0) (Answered (Greatest n (Bytes n table) x))
