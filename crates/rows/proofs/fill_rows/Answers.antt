-- `rows::fill_rows` meets its contract. After x turns the rows below x are filled.
use Rattle.answers.proofs.Tables.{no_rows, one_row_more}
use Rattle.rows.proofs.fill_rows.Goals as goal

pub loop-x-init : goal.loop-x-init
loop-x-init c = no_rows _ _ _

pub loop-x-preserved : goal.loop-x-preserved
loop-x-preserved c = one_row_more c.loop-x.invariant c.fill_row.ensures
