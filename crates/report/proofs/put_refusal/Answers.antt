-- `report::put_refusal` meets its contract: the line has the number and the line's two bytes.
use Rattle.output.specs.Output.{refusal_line}
use Rattle.report.proofs.put_refusal.Goals as goal

pub returns : goal.returns
unfolding refusal_line
returns c = rw c.from-number.ensures at c.put_line.ensures
