-- `verdict::judge_sheet` meets its contract: the verdict over the channel table's bytes is that over the sheet's channels.
use Rattle.tables.specs.Sheet.{lent_by}
use Rattle.verdict.proofs.Judging.{of_sheet}
use Rattle.verdict.proofs.judge_sheet.Goals as goal

pub returns : goal.returns
returns c =
    of_sheet (lent_by c.args.sheet) _ _ _ _ _ _ c.fill_channels.ensures (rw c.entities-n.ensures at c.judge_channels.ensures)
