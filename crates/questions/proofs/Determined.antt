-- Each contract determines the answer and every lent byte.
use mathlib.Core.Path.{◌≡◌, refl, sym, ap, ◌∙◌}
use mathlib.Core.Bool.{Bool, true, false}
use mathlib.Core.List.{List}
use mathlib.Core.Option.{Option, some, none}
use Prim.Native.Nat.{ℕ}
use native.Mathlib.Omega.{arith}
use Rattle.std.specs.Prelude.{Result, Ok, Err}
use Rattle.answers.specs.declared.Told.{Told}
use Rattle.answers.specs.declared.refused.Refused.{Refused as Why}
use Rattle.answers.specs.Call.{told}
use Rattle.answers.specs.Rows.{Bytes, over, count}
use Rattle.answers.proofs.Calls.{determined}
use Rattle.answers.proofs.Exits.{some_number, one_number}
use Rattle.answers.proofs.Marks.{one_mark}
use Rattle.theory.specs.Order.{Order, equal, below, above, incomparable}
use Rattle.theory.proofs.Orders.{one_label, one_class, one_greatest, one_order}
use Rattle.questions.specs.declared.Compared.{Compared}
use Rattle.questions.specs.declared.Compared.TheVariants.{Equal, Below, Above, Incomparable}
use Rattle.questions.specs.Questions.{yes_or_no, Answered, Flows, Labels, Names, Flags}
use Rattle.questions.specs.Compare.{Comparison, compared, order_of, comparison, ComparesTo}

-- an answer of 0 and one value is determined where the value is
one_answer : {Right : ℕ → Type 0} → ((a b : ℕ) → Right a → Right b → a ≡ b) → {r₁ r₂ : Told} → Answered Right r₁ → Answered Right r₂ → r₁ ≡ r₂
one_answer one p q i = record { answer = (p.answer ∙ sym q.answer) i; value = one _ _ p.right q.right i }

module _ (n : ℕ) (table : List ℕ) (x : ℕ) where
  -- "no second answer satisfies it": two results of `flows` on the same input are equal, answer and value
  pub flows_determined : (y : ℕ) (r₁ r₂ : Told) → Flows n table x y r₁ → Flows n table x y r₂ → r₁ ≡ r₂
  flows_determined y r₁ r₂ = determined (λ _. one_answer (λ _ _. one_mark))

  -- "no second answer satisfies it": two results of `class_name` on the same input are equal, answer and value
  pub class_name_determined : (r₁ r₂ : Told) → Names n table x r₁ → Names n table x r₂ → r₁ ≡ r₂
  class_name_determined r₁ r₂ = determined (λ _. one_answer (λ _ _. one_class))

  -- "no second answer satisfies it": two results of `greatest` on the same input are equal, answer and value
  pub greatest_determined : (r₁ r₂ : Told) → Flags n table x r₁ → Flags n table x r₂ → r₁ ≡ r₂
  greatest_determined r₁ r₂ = determined (λ _. one_answer (λ _ _. one_greatest))

  -- "no second answer satisfies it": two results of `label` on the same input are equal, answer, size and every byte of the buffer
  pub label_determined : (before : List ℕ) (r₁ r₂ : Told × List ℕ) → Labels n table x before r₁ → Labels n table x before r₂ → r₁ ≡ r₂
  label_determined before r₁ r₂ =
      determined
      (λ _ a b.
      a.written ∙ ap (λ (row : List ℕ). (told 0 (count 1 row), over row before)) (one_label n (Bytes n table) x a.label b.label) ∙ sym b.written)

-- ---- flows: its numbers and values tell the cases apart
-- "a definition gives this paper's number and values for each of its cases": no two answers of `flows` have the same number and value
pub yes_or_no_tells : (a b : Result Bool Why) → yes_or_no a ≡ yes_or_no b → a ≡ b
yes_or_no_tells (Ok true) (Ok true) e = refl
yes_or_no_tells (Ok false) (Ok false) e = refl
yes_or_no_tells (Ok true) (Ok false) e = absurd (omega (arith, ap (λ (t : Told). t.value) e))
yes_or_no_tells (Ok false) (Ok true) e = absurd (omega (arith, ap (λ (t : Told). t.value) e))
yes_or_no_tells (Ok a) (Err b) e = absurd (some_number b (sym (ap (λ (t : Told). t.answer) e)))
yes_or_no_tells (Err a) (Ok b) e = absurd (some_number a (ap (λ (t : Told). t.answer) e))
yes_or_no_tells (Err a) (Err b) e = ap Err (one_number a b (ap (λ (t : Told). t.answer) e))

-- ---- compare: its numbers and values tell the cases apart
case_of : Option Order → Compared
case_of none = Equal
case_of (some equal) = Equal
case_of (some below) = Below
case_of (some above) = Above
case_of (some incomparable) = Incomparable

case_of_lem : (a : Compared) → case_of (some (order_of a)) ≡ a
unfolding case_of
case_of_lem Equal = refl
case_of_lem Below = refl
case_of_lem Above = refl
case_of_lem Incomparable = refl

-- "a definition gives this paper's number and values for each of its cases": no two answers of `compare` have the same number and order
pub comparison_tells : (a b : Result Compared Why) → comparison a ≡ comparison b → a ≡ b
unfolding comparison
comparison_tells (Ok a) (Ok b) e = ap Ok (sym (case_of_lem a) ∙ ap (λ (c : Comparison). case_of c.order) e ∙ case_of_lem b)
comparison_tells (Ok a) (Err b) e = absurd (some_number b (sym (ap (λ (c : Comparison). c.number) e)))
comparison_tells (Err a) (Ok b) e = absurd (some_number a (ap (λ (c : Comparison). c.number) e))
comparison_tells (Err a) (Err b) e = ap Err (one_number a b (ap (λ (c : Comparison). c.number) e))

-- "no second answer satisfies it": two answers of `compare` on the same input are equal
pub compare_determined : (n : ℕ) (table : List ℕ) (x y : ℕ) (r₁ r₂ : Result Compared Why) → ComparesTo n table x y r₁ → ComparesTo n table x y r₂ → r₁ ≡ r₂
unfolding ComparesTo
compare_determined n table x y r₁ r₂ p q =
    comparison_tells r₁ r₂ (determined (λ _ a b. a.told ∙ ap compared (one_order a.compares b.compares) ∙ sym b.told) p q)
