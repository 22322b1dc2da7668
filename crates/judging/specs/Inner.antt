-- What the search relies on, and the row that it holds. No promise: it only ties functions together.
use Rattle.std.specs.Prelude.{ℕ, ◌≤◌, ◌≡◌, List, length, Option, Some, None}
use Rattle.answers.specs.Sizes.{least_separations}
use Rattle.rows.specs.Written.{FlowRow}
use Rattle.tables.specs.Refusals.{Listed}

-- separations among n entities
pub record Searchable (n count : ℕ) (separations : List ℕ) : Type 0 where
  pub listed : Listed n count separations
  pub long : least_separations ≤ length separations

-- n bytes, which hold the row of an entity, or of none
abbrev pub HeldRow : (n : ℕ) (ch : ℕ → ℕ → Type 0) → Option ℕ → List ℕ → Type 0
HeldRow n ch (Some x) row = FlowRow n ch x row
HeldRow n ch None row = length row ≡ n
