-- The contracts of `set_assignment` and `set_permission` determine the answer and every lent byte.
use mathlib.Core.Path.{◌≡◌, sym, ◌∙◌}
use mathlib.Core.List.{List}
use Prim.Native.Nat.{ℕ}
use Rattle.tables.specs.Sheet.{Lent}
use Rattle.answers.proofs.Calls.{determined}
use Rattle.change.specs.Change.{SetsAssignment, SetsPermission}

-- "no second answer satisfies it": two results of `set_assignment` on the same input are equal, the answer and the assignment table
pub set_assignment_determined : (l : Lent) (s r value : ℕ) (r₁ r₂ : ℕ × List ℕ) → SetsAssignment l s r value r₁ → SetsAssignment l s r value r₂ → r₁ ≡ r₂
set_assignment_determined l s r value r₁ r₂ = determined (λ _ a b. a ∙ sym b)

-- "no second answer satisfies it": two results of `set_permission` on the same input are equal, the answer and the permission table
pub set_permission_determined : (l : Lent) (r o mode : ℕ) (r₁ r₂ : ℕ × List ℕ) → SetsPermission l r o mode r₁ → SetsPermission l r o mode r₂ → r₁ ≡ r₂
set_permission_determined l r o mode r₁ r₂ = determined (λ _ a b. a ∙ sym b)
