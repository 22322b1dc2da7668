-- The contracts of the face for C determine what is returned and every lent byte.
use Prim.Native.Nat.{ℕ}
use mathlib.Core.Path.{◌≡◌, sym, ap, ap₂, ◌∙◌}
use mathlib.Core.List.{List}
use Rattle.tables.specs.Sheet.{Lent}
use Rattle.flow.proofs.Determined.{fill_determined}
use Rattle.separations.specs.declared.Judged.{Judged}
use Rattle.verdict.proofs.Determined.{judge_determined}
use Rattle.sievemarl.specs.Packed.{packed}
use Rattle.sievemarl.specs.ForC.{FillsForC, JudgesForC}

-- "no second answer satisfies it": two results of `sievemarl_fill_flow` on the same input are equal, the answer and the flow buffer
pub fill_for_c_determined : (l : Lent) (before : List ℕ) (r₁ r₂ : ℕ × List ℕ) → FillsForC l before r₁ → FillsForC l before r₂ → r₁ ≡ r₂
fill_for_c_determined = fill_determined

-- "no second answer satisfies it": two results of `sievemarl_judge` on the same input are equal, the number and the chain buffer
pub judge_for_c_determined : (l : Lent) (count : ℕ) (separations before : List ℕ) (r₁ r₂ : ℕ × List ℕ) →
    JudgesForC l count separations before r₁ → JudgesForC l count separations before r₂ → r₁ ≡ r₂
judge_for_c_determined l count separations before r₁ r₂ a b =
    let same = judge_determined l count separations before _ _ a.judges b.judges in
    ap₂ (λ (n : ℕ) (chain : List ℕ). (n, chain)) (a.returned ∙ ap (λ (r : Judged × List ℕ). packed r.0) same ∙ sym b.returned)
    (ap (λ (r : Judged × List ℕ). r.1) same)
