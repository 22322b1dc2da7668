use mathlib.Core.Path.{sym, ◌∙◌}
use Rattle.answers.proofs.Rules.{this_refuses, this_passes, none_left_from}
use Rattle.answers.proofs.refused.first_refused.Goals as goal

pub loop-test-preserved : goal.loop-test-preserved
loop-test-preserved c = c.loop-test.invariant ∙ this_passes _ _ _ c.loop-test-test.true c.if-test.false

pub returns-then-test : goal.returns-then-test
returns-then-test c = sym (c.loop-test.invariant ∙ this_refuses _ _ _ c.loop-test-test.true c.if-test.true)

pub returns : goal.returns
returns c = sym (c.loop-test.invariant ∙ none_left_from _ _ c.loop-test-test.false)
