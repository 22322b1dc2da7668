-- `faults::passing_frame` meets its contract: 9 after the end line, else what the line is refused by, else nothing.
use mathlib.Core.Path.{◌∙◌}
use Rattle.answers.proofs.Exits.{exit_code}
use Rattle.faults.proofs.Faults.{after_the_end, no_frame, of_frame}
use Rattle.faults.proofs.passing_frame.Goals as goal

pub returns-then-k-clause-fault : goal.returns-then-k-clause-fault
returns-then-k-clause-fault c = after_the_end _ _ c.if-k.true

pub returns-in_err-frame-clause-fault : goal.returns-in_err-frame-clause-fault
returns-in_err-frame-clause-fault c = exit_code _ _ c.from_residual.ensures.1 ∙ no_frame _ _ _ c.if-k.false c.in_err-frame.was

pub returns-in_err-frame_fault-clause-fault : goal.returns-in_err-frame_fault-clause-fault
returns-in_err-frame_fault-clause-fault c =
    exit_code _ _ c.from_residual-in_err-frame_fault.ensures.1
    ∙ of_frame _ _ _ c.if-k.false c.in_ok-frame.was c.in_err-frame_fault.ensures

pub returns-clause-fault : goal.returns-clause-fault
returns-clause-fault c = of_frame _ _ _ c.if-k.false c.in_ok-frame.was c.in_ok-frame_fault.ensures
