-- What the calls rely on once nothing is refused. No promise: it only ties functions together.
use Rattle.std.specs.Prelude.{ℕ, ◌≤◌, ◌<◌, List, length}
use Rattle.answers.specs.Sizes.{least_chain, least_separations}
use Rattle.tables.specs.Sheet.{Lent, entities, sheet_of}
use Rattle.access.specs.Channel.{Channel}
use Rattle.separations.specs.declared.Judged.{Judged}
use Rattle.separations.specs.Judgement.{Judgement}
use Rattle.tables.specs.Refusals.{Sized, Listed}

-- tables, entities and a chain buffer that were not refused
pub record Showable (l : Lent) (x y : ℕ) (chain : List ℕ) : Type 0 where
  pub sized : Sized l
  pub first : x < entities l.counts
  pub last : y < entities l.counts
  pub room : least_chain ≤ length chain

-- tables, separations and a chain buffer that were not refused
pub record Judgeable (l : Lent) (count : ℕ) (separations chain : List ℕ) : Type 0 where
  pub sized : Sized l
  pub listed : Listed (entities l.counts) count separations
  pub long : least_separations ≤ length separations
  pub room : least_chain ≤ length chain

-- what is judged of the sheet in lent tables
abbrev pub SheetVerdict : Lent → ℕ → List ℕ → List ℕ → Judged × List ℕ → Type 0
SheetVerdict l count separations before = Judgement (Channel (sheet_of l count separations)) count separations before
