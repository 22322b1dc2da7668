-- `flow::close_channels` meets its contract: the rows that close the channel table are the sheet's flow table.
use Rattle.tables.specs.Sheet.{lent_by}
use Rattle.flow.proofs.Closing.{closed}
use Rattle.flow.proofs.close_channels.Goals as goal

pub returns : goal.returns
returns c =
    closed (lent_by c.args.sheet) _ _ _ _ c.fill_channels.ensures (rw c.entities-n.ensures at c.fill_rows.ensures)
