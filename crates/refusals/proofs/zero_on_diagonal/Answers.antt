-- `refusals::zero_on_diagonal` meets its contract: no byte passed is 0.
use mathlib.Core.Path.{sym, ◌∙◌}
use borrow.Author.Tests.{eq-eqb, ne_eqb}
use Rattle.answers.proofs.Below.{none_yet, none_more, none, found}
use Rattle.refusals.proofs.zero_on_diagonal.Goals as goal

pub loop-x-init : goal.loop-x-init
loop-x-init c = none_yet _

pub returns-then-is_zero : goal.returns-then-is_zero
returns-then-is_zero c = sym (found _ _ _ c.loop-x-test.true (eq-eqb _ _ (sym c.byte-is_zero.ensures ∙ c.if-is_zero.true)))

pub loop-x-preserved : goal.loop-x-preserved
loop-x-preserved c = none_more _ _ c.loop-x.invariant (ne_eqb _ _ (λ e. c.if-is_zero.false (c.byte-is_zero.ensures ∙ e)))

pub returns : goal.returns
returns c = sym (none _ _ _ c.loop-x.auto.x-end c.loop-x-test.false c.loop-x.invariant)
