-- `change::set_assignment` meets its contract: what is refused, and what is set.
use mathlib.Core.Path.{sym}
use Rattle.std.proofs.Common.{rules}
use Rattle.change.specs.Change.{set_assignment_refusals}
use Rattle.change.proofs.Placed.{assignment_inside}
use Rattle.change.proofs.set_assignment.Goals as goal

pub returns-in_err-check_change : goal.returns-in_err-check_change
unfolding set_assignment_refusals
returns-in_err-check_change c = search rules

pub set-requires : goal.set-requires
set-requires c = assignment_inside _ _ _ _ (sym c.in_ok-check_change.ensures)

pub returns : goal.returns
unfolding set_assignment_refusals
returns c = search rules
