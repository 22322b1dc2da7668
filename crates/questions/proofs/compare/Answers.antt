-- `questions::compare` meets its contract: each return by what its callees answered.
use mathlib.Core.Path.{sym}
use Rattle.questions.proofs.Asked.{both_passed}
use Rattle.questions.proofs.Outcomes.{compare_refused, compare_done}
use Rattle.questions.proofs.compare.Goals as goal

pub returns-in_err-square : goal.returns-in_err-square
returns-in_err-square c = compare_refused _ _ _ _ _ _ c.from_residual.ensures.1 c.in_err-square.ensures.judged

pub order-requires : goal.order-requires
order-requires c = rw c.in_ok-square.ensures.lent.0 (both_passed _ _ _ _ (sym c.in_ok-square.ensures.judged))

pub returns : goal.returns
returns c =
    let lent = c.in_ok-square.ensures.lent in
    compare_done _ _ _ _ _ c.in_ok-square.ensures.judged (rw (lent.0, lent.1) at c.order.ensures)
