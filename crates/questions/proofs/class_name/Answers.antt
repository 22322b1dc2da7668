-- `questions::class_name` meets its contract: each return by what its callees answered.
use mathlib.Core.Path.{sym}
use Rattle.questions.proofs.Asked.{asked_passed}
use Rattle.questions.proofs.Outcomes.{asked_refused, asked_done}
use Rattle.questions.proofs.class_name.Goals as goal

pub returns-in_err-square : goal.returns-in_err-square
returns-in_err-square c = asked_refused _ _ _ _ _ c.from_residual.ensures.1 c.in_err-square.ensures.judged

pub smallest_member-requires : goal.smallest_member-requires
smallest_member-requires c =
    let lent = c.in_ok-square.ensures.lent in
    rw (lent.0, lent.1) (asked_passed _ _ _ _ (sym c.in_ok-square.ensures.judged)).1

pub returns : goal.returns
returns c =
    let lent = c.in_ok-square.ensures.lent in
    asked_done _ _ _ _ c.in_ok-square.ensures.judged (rw (lent.0, lent.1) at c.smallest_member.ensures)
