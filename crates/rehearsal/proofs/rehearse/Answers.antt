-- `rehearsal::rehearse` meets its contract: the refusals of a list are those of flat bytes.
use Rattle.runs.specs.Inner.{tested_refusals}
use Rattle.rehearsal.specs.Calls.{rehearse_refusals}
use Rattle.rehearsal.proofs.rehearse.Goals as goal

pub returns : goal.returns
unfolding rehearse_refusals tested_refusals
returns c = c.rehearse_list.ensures
