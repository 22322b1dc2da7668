-- `checking::check_text` meets its contract: the lines that are left, read on from what is known, come to what the whole text comes to.
use Rattle.checking.proofs.Turns.{checking_start, checking_next, stops, ends_well, ends_short}
use Rattle.checking.proofs.check_text.Goals as goal

pub loop-line-init : goal.loop-line-init
loop-line-init c = rw c.into_iter-line-iterator.ensures.into_iter_gives (checking_start _ _ c.start-k.ensures)

pub returns-in_err-frame : goal.returns-in_err-frame
returns-in_err-frame c =
    let e = c.in_err-frame.ensures in
    stops _ _ _ c.loop-line.invariant _ _ c.in-Some.ensures.steps _ _ c.from_residual.ensures.1 e.0 e.1

pub loop-line-preserved : goal.loop-line-preserved
loop-line-preserved c =
    let e = c.in_ok-frame.ensures in
    checking_next _ _ _ c.loop-line.invariant _ _ c.in-Some.ensures.steps _ _ e.0 e.1 c.state_after-k.ensures

pub returns-then-k : goal.returns-then-k
returns-then-k c = ends_well _ _ _ c.loop-line.invariant c.in-None.ensures.steps.0 c.if-k.true

pub returns : goal.returns
returns c = ends_short _ _ _ c.loop-line.invariant c.in-None.ensures.steps.0 c.if-k.false
