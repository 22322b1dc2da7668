-- `chains::show_chain` meets its contract. A chain from `at` on, behind what is written, makes the chain from x.
use Prim.Native.Nat.{◌<◌, ◌+◌, ◌-◌}
use mathlib.Core.Path.{◌≡◌}
use Rattle.std.specs.Prelude.{Some}
use Rattle.answers.specs.Rows.{Bytes}
use Rattle.chains.specs.Distance.{known}
use Rattle.chains.proofs.Walks.{Walking}
use Rattle.chains.proofs.show_chain.Given as goal

abbrev pub invariant-loop-d : goal.invariant-loop-d
invariant-loop-d l =
    (l.at < l.channels.n) × (known l.dist l.at ≡ Some l.d)
    × Walking (Bytes l.channels.n l.channels.bytes.now) l.x l.y l.fn.chain l.chain l.at (l.distance + 1 - l.d)
