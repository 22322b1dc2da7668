-- `runs::rehearse_list` meets its contract: refused, or performed.
use Rattle.std.proofs.Common.{sym, ap}
use Rattle.answers.specs.Refused.{told_of}
use Rattle.answers.proofs.Calls.{refuse, accept}
use Rattle.answers.proofs.Exits.{exit, some_number}
use Rattle.transfers.specs.Rehearse.{rehearsed_with}
use Rattle.runs.proofs.Started.{cleared}
use Rattle.runs.proofs.rehearse_list.Goals as goal

pub returns-in_err-check : goal.returns-in_err-check
returns-in_err-check g c =
    refuse _ c.in_err-check.ensures (some_number _)
    (ap (λ r. rehearsed_with (told_of r) c.args.marks.now c.args.verdicts.now c.args.tally.now) (exit _ _ c.from_residual.ensures.1))

pub perform-requires : goal.perform-requires
perform-requires g c = cleared _ _ _ _ _ _ (sym c.in_ok-check.ensures)

pub returns : goal.returns
returns g c = accept (sym c.in_ok-check.ensures) c.perform.ensures
