-- `verdict::show` meets its contract: the chain of the channel table's bytes is that of the sheet's channels.
use Rattle.tables.specs.Sheet.{lent_by}
use Rattle.verdict.proofs.Showing.{of_sheet}
use Rattle.verdict.proofs.show.Goals as goal

pub returns : goal.returns
returns c = of_sheet (lent_by c.args.sheet) _ _ c.fill_channels.ensures (rw c.entities-n.ensures at c.show_chain.ensures)
