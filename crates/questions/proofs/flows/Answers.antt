-- `questions::flows` meets its contract: each return by what its callees answered.
use mathlib.Core.Path.{sym}
use native.Mathlib.Omega.{arith}
use Rattle.questions.proofs.Standing.{flow_marked}
use Rattle.questions.proofs.Asked.{both_passed}
use Rattle.questions.proofs.Outcomes.{flows_refused, flows_done}
use Rattle.questions.proofs.flows.Goals as goal

pub returns-in_err-square : goal.returns-in_err-square
returns-in_err-square c = flows_refused _ _ _ _ _ _ c.from_residual.ensures.1 c.in_err-square.ensures.judged

pub holds-requires : goal.holds-requires
holds-requires c =
    let below = both_passed _ _ _ _ (sym c.in_ok-square.ensures.judged) in
    let same = c.in_ok-square.ensures.lent.0 in
    (omega (arith, below.0, below.1, same), omega (arith, below.0, below.1, same))

pub returns : goal.returns
returns c =
    let lent = c.in_ok-square.ensures.lent in
    let judged = c.in_ok-square.ensures.judged in
    flows_done _ _ _ _ _ judged (flow_marked _ _ _ _ (both_passed _ _ _ _ (sym judged)) _ (rw (lent.0, lent.1) at c.holds.ensures))
