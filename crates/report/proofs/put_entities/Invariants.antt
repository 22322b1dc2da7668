-- `report::put_entities` meets its contract. The loop's invariant: the lines of the entities passed are written.
use Rattle.answers.specs.Rows.{Bytes}
use Rattle.output.specs.Output.{EntityLines}
use Rattle.report.specs.Inner.{PutOutput}
use Rattle.report.proofs.put_entities.Given as goal

abbrev pub invariant-loop-x : goal.invariant-loop-x
invariant-loop-x l = PutOutput (EntityLines l.table.n (Bytes l.table.n l.table.bytes.now) l.x) l.initial.out l.at l.out
