-- `runs::run` meets its contract: the first k transfers are made.
use Rattle.std.proofs.Common.{◌≡◌, length, take, arith, rules, length-take-le, take_all}
use Rattle.runs.specs.Inner.{no_transfer}
use Rattle.runs.proofs.Running.{ran_few, ran_none, ran_more}
use Rattle.runs.proofs.run.Goals as goal

pub loop-k-init : goal.loop-k-init
loop-k-init g c = ran_none (search rules)

pub step_record-requires : goal.step_record-requires
step_record-requires g c =
    let ts = g.L.TransferList.transfers c.args.list in
    let few = ran_few c.loop-k.invariant in
    let size : length (take c.loop-k.k ts) ≡ c.loop-k.k = length-take-le c.loop-k.k ts (omega arith) in
    record {
      marked = omega arith;
      place = omega arith;
      few = omega arith;
      applied = omega arith;
      outside = omega arith;
      barred = omega arith;
    }

pub loop-k-preserved : goal.loop-k-preserved
loop-k-preserved g c =
    let e = c.at.ensures in
    ran_more (g.L.TransferList.transfers c.args.list) no_transfer c.loop-k.k (omega arith) (omega arith) c.loop-k.invariant (rw e at c.step_record.ensures)

pub returns : goal.returns
returns g c = rw (take_all c.loop-k.k (g.L.TransferList.transfers c.args.list) (omega arith)) at c.loop-k.invariant
