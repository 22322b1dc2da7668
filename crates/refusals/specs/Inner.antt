-- Tables that passed 1 and 5. No promise: it only ties functions together.
use Rattle.std.specs.Prelude.{◌≤◌, length}
use Rattle.answers.specs.Sizes.{least_assignment, least_permission}
use Rattle.tables.specs.Sheet.{CountsFit, Lent}

-- what bytes are judged by: tables of their least lengths, and counts within their sizes
pub record Measured (l : Lent) : Type 0 where
  pub assignment_long : least_assignment ≤ length l.assignment
  pub permission_long : least_permission ≤ length l.permission
  pub counts_fit : CountsFit l.counts
