-- `faults::frame_fault` meets its contract: it lists the rules as they are stated.
use Rattle.answers.specs.Call.{first_refusal}
use Rattle.frames.specs.Check.{frame_refusals}
use Rattle.faults.proofs.frame_fault.Goals as goal

pub returns : goal.returns
unfolding first_refusal frame_refusals
returns c = cc
