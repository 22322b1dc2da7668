-- `chains::settle` meets its contract. The entities below v have been looked at.
use Rattle.answers.specs.Rows.{Bytes}
use Rattle.chains.specs.Distance.{Settled}
use Rattle.chains.proofs.settle.Given as goal

abbrev pub invariant-loop-v : goal.invariant-loop-v
invariant-loop-v l =
    Settled (λ x. Bytes l.channels.n l.channels.bytes.now x l.w) l.d l.v l.initial.dist l.dist
