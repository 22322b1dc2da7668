-- `refusals::check_bytes` meets its contract: its rules are those of the list.
use Rattle.tables.specs.FlowTable.{byte_refusals}
use Rattle.refusals.proofs.check_bytes.Goals as goal

pub returns : goal.returns
unfolding byte_refusals
returns c = rw (c.some_above-above.ensures, c.zero_on_diagonal.ensures) at c.first_refused.ensures
