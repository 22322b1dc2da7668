-- What inner functions rely on once a call has refused nothing. No promise: it only ties functions together.
use Rattle.std.specs.Prelude.{ℕ, ◌≤◌, ◌<◌, ◌≡◌, List, length}
use Rattle.answers.specs.Sizes.{least_label}
use Rattle.answers.specs.Rows.{Bytes}
use Rattle.tables.specs.FlowTable.{SoundFlow}

-- a sound flow table that passed 10 of x
pub record Asked (n : ℕ) (table : List ℕ) (x : ℕ) : Type 0 where
  pub accepted : SoundFlow n table
  pub below : x < n

-- and the label's buffer passed 1
pub record Labelling (n : ℕ) (table : List ℕ) (x : ℕ) (label : List ℕ) : Type 0 where
  pub asked : Asked n table x
  pub label_room : least_label ≤ length label

-- x flows to y, and y is another entity
pub record FlowsOn (n : ℕ) (table : List ℕ) (x y : ℕ) : Type 0 where
  pub flows : Bytes n table x y
  pub other : x ≡ y → ⊥
