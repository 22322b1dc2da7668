-- `change::set_permission` meets its contract: what is refused, and what is set.
use mathlib.Core.Path.{sym}
use Rattle.std.proofs.Common.{rules}
use Rattle.change.specs.Change.{set_permission_refusals}
use Rattle.change.proofs.Placed.{permission_inside}
use Rattle.change.proofs.set_permission.Goals as goal

pub returns-in_err-check_change : goal.returns-in_err-check_change
unfolding set_permission_refusals
returns-in_err-check_change c = search rules

pub set-requires : goal.set-requires
set-requires c = permission_inside _ _ _ _ (sym c.in_ok-check_change.ensures)

pub returns : goal.returns
unfolding set_permission_refusals
returns c = search rules
