-- `refusals::check_flow_sizes` meets its contract: its rules are those of the list.
use Rattle.tables.specs.FlowTable.{flow_size_refusals}
use Rattle.refusals.proofs.check_flow_sizes.Goals as goal

pub returns : goal.returns
unfolding flow_size_refusals
returns c = c.first_refused.ensures
