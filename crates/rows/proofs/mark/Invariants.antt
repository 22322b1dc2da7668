-- `rows::mark` meets its contract. So far the bytes mark those that it has passed.
use Rattle.rows.specs.Search.{MarksBefore}
use lib.ListN.{length}
use Rattle.rows.proofs.mark.Given as goal

abbrev pub invariant-loop-y : goal.invariant-loop-y
invariant-loop-y l = MarksBefore l.y-index (length l.initial.row) l.fn.order l.row
