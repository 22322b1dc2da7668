-- `chains::round` meets its contract. What has a channel to an entity below w that is at r is settled.
use Rattle.answers.specs.Rows.{Bytes}
use Rattle.std.specs.Prelude.{◌≡◌, false}
use Rattle.chains.specs.Distance.{Round, NoneAt}
use Rattle.chains.proofs.round.Given as goal

abbrev pub invariant-loop-w : goal.invariant-loop-w
invariant-loop-w l =
    Round (Bytes l.channels.n l.channels.bytes.now) l.channels.n l.r l.w l.initial.dist l.dist × (l.some ≡ false → NoneAt l.r l.w l.dist)
