-- The ends of the calls, return by return.
use Prim.Native.Nat.{ℕ}
use mathlib.Core.Path.{◌≡◌, refl, sym}
use mathlib.Core.Bool.{Bool, false, cond}
use mathlib.Core.List.{List}
use Rattle.std.specs.Prelude.{Result, Ok}
use Rattle.std.specs.Result.{IsErrAnd}
use Rattle.answers.specs.declared.refused.Refused.{Refused as Why}
use Rattle.answers.specs.Call.{first_refusal, ◌then◌, Outcome, told}
use Rattle.answers.specs.Refused.{number, told_of}
use Rattle.answers.specs.Rows.{Mark, Bytes}
use Rattle.answers.proofs.Calls.{refuse, accept}
use Rattle.answers.proofs.Exits.{some_number, exit}
use Rattle.theory.specs.Order.{Compares}
use Rattle.questions.specs.declared.Compared.{Compared}
use Rattle.tables.specs.FlowTable.{flow_refusals, entity_refusals}
use Rattle.questions.specs.Questions.{asked_refusals, both_asked_refusals, yes_or_no, Answered, Flows}
use Rattle.questions.specs.Compare.{order_of, comparison, ComparesTo}

-- ---- a question on x and y
module _ (n : ℕ) (table : List ℕ) (x y : ℕ) where
  pub flows_refused : (why : Why) (r : Result Bool Why) → IsErrAnd r (λ e. e ≡ why) → number why ≡ first_refusal (both_asked_refusals n table x y) → Flows n table x y (yes_or_no r)
  flows_refused why r is e = rw (exit why r is) (refuse (number why) e (some_number why) refl)

  pub flows_done : (b : Bool) → 0 ≡ first_refusal (both_asked_refusals n table x y) → Mark (Bytes n table x y) (cond b 1 0) → Flows n table x y (told 0 (cond b 1 0))
  flows_done b e m = accept (sym e) (record { answer = refl; right = m })

  pub compare_refused : (why : Why) (r : Result Compared Why) → IsErrAnd r (λ e. e ≡ why) → number why ≡ first_refusal (both_asked_refusals n table x y) → ComparesTo n table x y r
  unfolding ComparesTo comparison
  compare_refused why r is e = rw (exit why r is) (refuse (number why) e (some_number why) refl)

  pub compare_done : (r : Compared) → 0 ≡ first_refusal (both_asked_refusals n table x y) → Compares (Bytes n table) x y (order_of r) → ComparesTo n table x y (Ok r)
  unfolding ComparesTo comparison
  compare_done r e s = accept (sym e) (record { order = order_of r; compares = s; told = refl })

-- ---- a question on x that answers one value
module _ (n : ℕ) (table : List ℕ) (x : ℕ) {Right : ℕ → Type 0} where
  pub asked_refused : (why : Why) (r : Result ℕ Why) → IsErrAnd r (λ e. e ≡ why) → number why ≡ first_refusal (flow_refusals false n table then entity_refusals n x) →
      Outcome (asked_refusals n table x) (λ i. told i 0) (Answered Right) (told_of r)
  unfolding asked_refusals
  asked_refused why r is e = rw (exit why r is) (refuse (number why) e (some_number why) refl)

  pub asked_done : (v : ℕ) → 0 ≡ first_refusal (flow_refusals false n table then entity_refusals n x) → Right v →
      Outcome (asked_refusals n table x) (λ i. told i 0) (Answered Right) (told 0 v)
  unfolding asked_refusals
  asked_done v e r = accept (sym e) (record { answer = refl; right = r })
