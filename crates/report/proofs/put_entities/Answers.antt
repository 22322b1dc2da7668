-- `report::put_entities` meets its contract. The loop's invariant: the lines of the entities passed are written.
use native.Mathlib.Omega.{arith}
use Rattle.report.proofs.EachLine.{lines_none, lines_more, lines_all, lines_place}
use Rattle.report.proofs.put_entities.Goals as goal

pub loop-x-init : goal.loop-x-init
loop-x-init c = lines_none _

pub put_entity-at-requires : goal.put_entity-at-requires
put_entity-at-requires c =
    let place = lines_place c.loop-x.invariant in
    record { accepted = c.requires.0; entity = c.loop-x-test.true; room = omega (arith, c.requires.1) }

pub loop-x-preserved : goal.loop-x-preserved
loop-x-preserved c = lines_more c.loop-x.invariant c.put_entity-at.ensures

pub shape_of-out : goal.shape_of-out
shape_of-out c = (lines_place c.loop-x.invariant).1

pub returns : goal.returns
returns c = lines_all c.loop-x.auto.x-end c.loop-x-test.false c.loop-x.invariant
