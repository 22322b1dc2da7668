-- `rows::reach` meets its contract. Between two spreads the search goes on.
use native.Mathlib.Omega.{arith}
use Rattle.theory.proofs.Filled.{bytes_inside}
use Rattle.rows.proofs.Searches.{searching_first, searching_next, searching_done}
use Rattle.rows.proofs.reach.Goals as goal

pub loop-head-init : goal.loop-head-init
loop-head-init c = searching_first _ (omega arith) (rw c.requires.1 at c.arrange.ensures)

pub loop-head-preserved : goal.loop-head-preserved
loop-head-preserved c = searching_next (bytes_inside _ _) c.loop-head.invariant (omega arith) c.spread-tail.ensures

pub returns : goal.returns
returns c = searching_done (bytes_inside _ _) c.loop-head.invariant (omega arith)
