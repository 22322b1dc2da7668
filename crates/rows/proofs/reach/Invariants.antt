-- `rows::reach` meets its contract. Between two spreads the search goes on.
use Prim.Native.Nat.{◌-◌}
use Rattle.answers.specs.Rows.{Bytes}
use Rattle.rows.proofs.Searches.{Searching}
use Rattle.rows.proofs.reach.Given as goal

abbrev pub invariant-loop-head : goal.invariant-loop-head
invariant-loop-head l = Searching (Bytes l.channels.n l.channels.bytes.now) l.channels.n l.x l.order l.head l.tail

abbrev pub decreases-loop-head : goal.decreases-loop-head
decreases-loop-head l = l.channels.n - l.head
