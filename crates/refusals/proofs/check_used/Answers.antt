-- `refusals::check_used` meets its contract: its rules are those of the list.
use Rattle.tables.specs.Refusals.{used_refusals}
use Rattle.refusals.proofs.check_used.Goals as goal

pub returns : goal.returns
unfolding used_refusals
returns c = rw (c.some_above-assigned.ensures, c.some_above-modes.ensures) at c.first_refused.ensures
