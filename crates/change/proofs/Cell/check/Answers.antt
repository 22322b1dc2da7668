-- `Cell::check` meets its contract: its rules are those of the list.
use Rattle.change.specs.Change.{range_refusals}
use Rattle.change.proofs.Cell.check.Goals as goal

pub returns : goal.returns
unfolding range_refusals
returns c = c.first_refused.ensures
