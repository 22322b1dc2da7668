-- `lines::line_start` meets its contract: `at` is where line number k begins.
use mathlib.Core.Path.{◌≡◌}
use native.Mathlib.Omega.{arith}
use Rattle.lines.proofs.Starts.{start_first_line, start_step, start_last, start_none}
use Rattle.lines.proofs.line_start.Goals as goal

pub returns-then-line-eq0 : goal.returns-then-line-eq0
returns-then-line-eq0 c = start_none c.args.text.now c.args.line (omega arith)

pub loop-init : goal.loop-init
loop-init c = (omega arith, start_first_line _)

pub returns-then-at-text : goal.returns-then-at-text
returns-then-at-text c =
    let e = start_last c.args.text.now c.loop.counter c.args.line (omega arith) (omega arith) (omega arith) in
    omega arith

pub loop-preserved : goal.loop-preserved
loop-preserved c = (omega arith, start_step _ c.loop.counter c.loop.at _ (omega arith) c.loop.invariant.1 c.next_from-at.ensures.0)

pub returns : goal.returns
returns c =
    let e : c.loop.counter ≡ c.args.line = omega arith in
    rw e at c.loop.invariant.1
