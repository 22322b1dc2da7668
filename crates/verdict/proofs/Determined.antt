-- The contracts of `chain` and `judge` determine the answer and every lent byte.
use Prim.Native.Nat.{ℕ}
use mathlib.Core.Path.{◌≡◌}
use mathlib.Core.List.{List}
use Rattle.answers.specs.declared.Told.{Told}
use Rattle.tables.specs.Sheet.{Lent}
use Rattle.answers.proofs.Calls.{determined}
use Rattle.separations.specs.declared.Judged.{Judged}
use Rattle.verdict.specs.Chain.{Shows}
use Rattle.verdict.specs.Judge.{Judges}
use Rattle.separations.proofs.Determined.{one_shown, one_judgement}

-- "no second answer satisfies it": two results of `chain` on the same input are equal, the answer, the count and the chain buffer
pub chain_determined : (l : Lent) (x y : ℕ) (before : List ℕ) (r₁ r₂ : Told × List ℕ) → Shows l x y before r₁ → Shows l x y before r₂ → r₁ ≡ r₂
chain_determined l x y before r₁ r₂ = determined (λ _. one_shown)

-- "no second answer satisfies it": two results of `judge` on the same input are equal, answer, position, count and the chain buffer
pub judge_determined : (l : Lent) (count : ℕ) (separations before : List ℕ) (r₁ r₂ : Judged × List ℕ) →
    Judges l count separations before r₁ → Judges l count separations before r₂ → r₁ ≡ r₂
judge_determined l count separations before r₁ r₂ = determined (λ _. one_judgement)
