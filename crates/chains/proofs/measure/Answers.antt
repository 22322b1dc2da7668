-- `chains::measure` meets its contract. The distances up to r are known.
use mathlib.Core.Path.{◌≡◌}
use native.Mathlib.Omega.{arith}
use Rattle.answers.specs.Sizes.{most_entities}
use Rattle.theory.proofs.Filled.{bytes_inside}
use Rattle.chains.proofs.Measures.{measured_first, measured_next, measured_same, measured_on, distances_final}
use Rattle.chains.proofs.measure.Goals as goal

pub loop-r-init : goal.loop-r-init
loop-r-init c = rw c.requires.1 (measured_first _ most_entities c.args.channels.few c.requires.0)

pub loop-r-preserved : goal.loop-r-preserved
loop-r-preserved c = measured_next _ (bytes_inside _ _) c.loop-r.invariant c.round.ensures.round

pub returns-then-not-round : goal.returns-then-not-round
returns-then-not-round c =
    let few = c.args.channels.few in
    let none = c.round.ensures.some c.if-not-round.true in
    distances_final _ _ _ _
    (measured_on _ _ (bytes_inside _ _) (measured_same _ c.loop-r.invariant c.round.ensures.round none) none c.args.channels.n (omega arith))

pub returns-after-loop-r : goal.returns-after-loop-r
returns-after-loop-r c =
    let done : c.loop-r.r ≡ c.args.channels.n = omega arith in
    distances_final _ _ _ _ (rw done at c.loop-r.invariant)
