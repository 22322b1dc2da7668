-- `runs::perform` meets its contract: by the bytes of the channel table each transfer comes to what it comes to by the sheet.
use Rattle.std.proofs.Common.{arith}
use Rattle.tables.specs.Sheet.{lent_by}
use Rattle.theory.proofs.Filled.{filled_room}
use Rattle.runs.proofs.Running.{ran_few, performed}
use Rattle.runs.proofs.perform.Goals as goal

pub invariant_of-channels : goal.invariant_of-channels
invariant_of-channels g c =
    record { few = omega (arith, c.requires.sized.counts_fit, c.entities.ensures); room = rw c.entities.ensures (filled_room c.fill_channels.ensures) }

pub run-counts-requires : goal.run-counts-requires
run-counts-requires g c =
    let few = g.met.L.TransferList.few c.args.list c.requires.not_long in
    record { marked = omega (arith, c.requires.sized.counts_fit); placed = omega arith; few = omega arith }

pub raise-requires : goal.raise-requires
raise-requires g c =
    let few = g.met.L.TransferList.few c.args.list c.requires.not_long in
    let ran = ran_few c.run-counts.ensures in
    record {
      few_applied = omega arith;
      few_outside = omega arith;
      few_barred = omega arith;
      applied = c.requires.applied;
      outside = c.requires.outside;
      barred = c.requires.barred;
    }

pub returns : goal.returns
returns g c = performed (lent_by c.args.sheet) c.entities.ensures c.fill_channels.ensures c.run-counts.ensures c.raise.ensures
