-- `refusals::zero_on_diagonal` meets its contract: no byte passed is 0.
use mathlib.Core.Path.{◌≡◌}
use mathlib.Core.Bool.{false}
use lib.Dec.{eqb}
use Rattle.answers.specs.Rows.{at, any_below}
use Rattle.refusals.proofs.zero_on_diagonal.Given as goal

abbrev pub invariant-loop-x : goal.invariant-loop-x
invariant-loop-x l = any_below l.x (λ z. eqb (at l.table.bytes.now l.table.n z z) 0) ≡ false
