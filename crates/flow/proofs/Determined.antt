-- The contract of `fill` determines the answer and every lent byte.
use mathlib.Core.Path.{◌≡◌, sym, ap, ◌∙◌}
use mathlib.Core.List.{List}
use Prim.Native.Nat.{ℕ}
use Rattle.answers.specs.Rows.{over}
use Rattle.tables.specs.Sheet.{Lent}
use Rattle.answers.proofs.Calls.{determined}
use Rattle.answers.proofs.Marks.{one_marked}
use Rattle.flow.specs.Fill.{Fills}

-- "no second answer satisfies it": two results of `fill` on the same input are equal, the answer and every byte of the flow buffer
pub fill_determined : (l : Lent) (before : List ℕ) (r₁ r₂ : ℕ × List ℕ) → Fills l before r₁ → Fills l before r₂ → r₁ ≡ r₂
fill_determined l before r₁ r₂ =
    determined
    (λ _ a b i. ((a.0 ∙ sym b.0) i, (a.1.written ∙ ap (λ (t : List ℕ). over t before) (one_marked a.1.marked b.1.marked) ∙ sym b.1.written) i))
