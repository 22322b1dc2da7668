-- `rows::arrange` meets its contract. After k turns each entity below k stands at its own place.
use native.Mathlib.Omega.{arith}
use Rattle.rows.proofs.Spreads.{begun_first}
use Rattle.rows.proofs.arrange.Goals as goal

pub returns : goal.returns
returns c = begun_first c.loop-k.order c.swap.new.self (omega arith) (omega arith) (λ i h. c.loop-k.invariant i (omega arith)) (omega arith) c.swap.ensures.by_index
