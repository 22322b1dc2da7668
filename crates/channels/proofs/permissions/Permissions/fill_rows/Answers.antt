-- `channels::permissions::Permissions::fill_rows` meets its contract. After x turns the first x rows are right.
use Rattle.std.proofs.Common.{◌≡◌, arith}
use Rattle.answers.proofs.Tables.{no_rows, one_row_more, rows_marked}
use Rattle.channels.proofs.permissions.Permissions.fill_rows.Goals as goal

pub loop-x-init : goal.loop-x-init
loop-x-init c = no_rows _ _ _

pub loop-x-preserved : goal.loop-x-preserved
loop-x-preserved c = one_row_more c.loop-x.invariant (rw (← c.entities-n.ensures) at c.fill_row.ensures)

pub returns : goal.returns
returns c =
    let all : c.loop-x.x ≡ c.entities-n.result = omega arith in
    let filled = rw (all, c.entities-n.ensures) at c.loop-x.invariant in
    record { table = filled.rows; marked = rows_marked filled; written = filled.written }
