-- `refusals::check_separations` meets its contract: no separation passed is faulty.
use mathlib.Core.Path.{sym, ◌∙◌}
use native.Mathlib.Omega.{arith}
use Rattle.answers.proofs.Scans.{none_yet, none_more}
use Rattle.answers.proofs.Exits.{exit_code, some_number}
use Rattle.refusals.proofs.Separated.{too_many, faulty, faultless}
use Rattle.tables.proofs.Accepted.{pair_numbered}
use Rattle.refusals.proofs.check_separations.Goals as goal

pub returns-then-separations-gt-MOST_SEPARATIONS : goal.returns-then-separations-gt-MOST_SEPARATIONS
returns-then-separations-gt-MOST_SEPARATIONS c = too_many _ _ _ (omega arith)

pub loop-i-init : goal.loop-i-init
loop-i-init c = none_yet _ (pair_numbered _ _)

pub returns-in_err-check_pair : goal.returns-in_err-check_pair
returns-in_err-check_pair c =
    exit_code _ _ c.from_residual.ensures.1
    ∙ faulty _ _ _ _ _ (omega arith) c.loop-i-test.true c.loop-i.invariant c.in_err-check_pair.ensures (some_number _)

pub loop-i-preserved : goal.loop-i-preserved
loop-i-preserved c = none_more _ (pair_numbered _ _) _ c.loop-i.invariant (sym c.in_ok-check_pair.ensures)

pub returns : goal.returns
returns c = faultless _ _ _ c.loop-i.i (omega arith) c.loop-i.auto.i-end c.loop-i-test.false c.loop-i.invariant
