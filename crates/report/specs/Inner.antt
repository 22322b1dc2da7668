-- What the functions that print tell each other. No promise: it only ties functions together.
use Rattle.std.specs.Prelude.{ℕ, ◌+◌, ◌≤◌, ◌<◌, List, length}
use Rattle.answers.specs.Sizes.{least_separations}
use Rattle.tables.specs.Sheet.{Lent, entities, sheet_of}
use Rattle.digits.specs.Line.{line_of}
use Rattle.digits.specs.Inner.{Put}
use Rattle.access.specs.Channel.{Channel}
use Rattle.output.specs.Output.{VerdictLine, SheetLines}
use Rattle.tables.specs.Refusals.{Sized, Listed}
use Rattle.tables.specs.FlowTable.{SoundFlow}

-- the line of bytes that are right is written
pub record PutLine (Right : List ℕ → Type 0) (at : ℕ) (before : List ℕ) (next : ℕ) (after : List ℕ) : Type 0 where
  pub line : List ℕ
  pub right : Right line
  pub put : Put (line_of line) at before next after

-- output that is right is written at the start of the buffer
pub record PutOutput (Right : List ℕ → Type 0) (before : List ℕ) (next : ℕ) (after : List ℕ) : Type 0 where
  pub printed : List ℕ
  pub right : Right printed
  pub put : Put printed 0 before next after

-- a flow table, one of its entities, and a buffer with room for its line
pub record Describable (n : ℕ) (table : List ℕ) (x at : ℕ) (out : List ℕ) : Type 0 where
  pub accepted : SoundFlow n table
  pub entity : x < n
  pub room : at + 11 ≤ length out

-- the tables of an accepted sheet
pub record Printable (l : Lent) (count : ℕ) (separations : List ℕ) : Type 0 where
  pub sized : Sized l
  pub listed : Listed (entities l.counts) count separations
  pub long : least_separations ≤ length separations

-- the line of the verdict on them is written
abbrev pub PutVerdict : Lent → ℕ → List ℕ → ℕ → List ℕ → ℕ → List ℕ → Type 0
PutVerdict l count separations = PutLine (VerdictLine (Channel (sheet_of l count separations)) count separations)

-- the whole output for them is written
abbrev pub PutSheet : Lent → ℕ → List ℕ → List ℕ → ℕ → List ℕ → Type 0
PutSheet l count separations = PutOutput (SheetLines (sheet_of l count separations))
