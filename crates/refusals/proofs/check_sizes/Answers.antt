-- `refusals::check_sizes` meets its contract: its rules are those of the list.
use Rattle.tables.specs.Refusals.{size_refusals}
use Rattle.refusals.proofs.check_sizes.Goals as goal

pub returns : goal.returns
unfolding size_refusals
returns c = c.first_refused.ensures
