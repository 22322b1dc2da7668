-- Filling the lent tables with a sheet.
use Rattle.std.specs.Prelude.{ℕ, ◌≤◌, ◌≡◌, List, length}
use Rattle.answers.specs.Sizes.{least_assignment, least_permission, least_separations}
use Rattle.answers.specs.Call.{MutLoan}
use Rattle.answers.specs.Rows.{over}
use Rattle.tables.specs.Sheet.{Sheet}

-- "Tables in memory: assignment, .. permission, .. separations": those that reading fills, at one time
pub record Tables : Type 0 where
  pub assignment : List ℕ
  pub permission : List ℕ
  pub separations : List ℕ

-- these three
abbrev pub tables : List ℕ → List ℕ → List ℕ → Tables
tables assignment permission separations = record { assignment = assignment; permission = permission; separations = separations }

-- the tables as a call finds them
abbrev pub at_entry : (assignment permission separations : MutLoan (List ℕ)) → Tables
at_entry assignment permission separations = tables assignment.entry.now permission.entry.now separations.entry.now

-- and as it leaves them
abbrev pub at_exit : (assignment permission separations : MutLoan (List ℕ)) → Tables
at_exit assignment permission separations = tables assignment.exit.now permission.exit.now separations.exit.now

-- "Least lent lengths, whatever the counts: assignment 2,304, permission 3,072, separations 128": the tables have them
pub record LongTables (t : Tables) : Type 0 where
  pub assignment_long : least_assignment ≤ length t.assignment
  pub permission_long : least_permission ≤ length t.permission
  pub separations_long : least_separations ≤ length t.separations

-- the whole used parts are written, "Absent pairs mean 0"; "Bytes past the used part are neither judged nor altered"
pub record TablesFilled (t : Sheet) (before after : Tables) : Type 0 where
  pub assignment_filled : after.assignment ≡ over t.assignment before.assignment
  pub permission_filled : after.permission ≡ over t.permission before.permission
  pub separations_filled : after.separations ≡ over t.separations before.separations
