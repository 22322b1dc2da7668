-- Rows and tables of flows, over any relation of channels.
use Rattle.std.specs.Prelude.{ℕ, List}
use Rattle.answers.specs.Rows.{Mark, Row, Filled}
use Rattle.theory.specs.Flow.{Flow}

-- the row of x: n bytes, of which each marks whether x flows to its place
abbrev pub FlowRow : ℕ → (ℕ → ℕ → Type 0) → ℕ → List ℕ → Type 0
FlowRow n ch x row = Row n (λ y byte. Mark (Flow ch x y) byte) row

-- "flow, N x N bytes, 0 or 1, at x x N + y", in front of what the buffer held behind it
abbrev pub FlowTable : ℕ → (ℕ → ℕ → Type 0) → List ℕ → List ℕ → Type 0
FlowTable n ch = Filled n (Flow ch)
