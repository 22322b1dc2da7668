-- `runs::run` meets its contract: the first k transfers are made.
use Rattle.std.proofs.Common.{take}
use Rattle.runs.specs.Inner.{Ran}
use Rattle.runs.proofs.run.Given as goal

abbrev pub invariant-loop-k : goal.invariant-loop-k
invariant-loop-k g l =
    Ran l.network.counts l.network.channels.n l.network.channels.bytes.now (take l.k (g.L.TransferList.transfers l.list))
    l.initial.marks l.initial.verdicts l.marks l.verdicts l.counts
