-- `chains::show_chain` meets its contract. A chain from `at` on, behind what is written, makes the chain from x.
use Prim.Native.Nat.{suc, ◌+◌, ◌-◌}
use mathlib.Core.Path.{◌≡◌, ap, ◌∙◌}
use native.Mathlib.Omega.{arith}
use Rattle.std.specs.Prelude.{Some}
use Rattle.chains.specs.Distance.{known}
use Rattle.theory.proofs.Filled.{bytes_inside}
use Rattle.chains.proofs.Walks.{few_channels, at_end, goes_on, walk_link, walking_next, walking_last}
use Rattle.chains.proofs.show_chain.Goals as goal
use Rattle.chains.proofs.show_chain.Goals.{In-loop-d}

-- the entity that the walk stands at is d channels away, and there is a next one
away : (c : In-loop-d) → known c.measure.new.dist c.loop-d.at ≡ Some (suc (c.loop-d.d - 1))
away c = c.loop-d.invariant.1 ∙ ap Some (omega arith)

pub unwrap-at-requires : goal.unwrap-at-requires
unwrap-at-requires c =
    goes_on (bytes_inside _ _) c.measure.ensures c.loop-d.invariant.0 (away (goal.at.unwrap-at-requires c).In-loop-d) _ c.next_at.ensures

pub loop-d-preserved : goal.loop-d-preserved
loop-d-preserved c =
    let s = rw c.unwrap-at.ensures at c.next_at.ensures in
    let few = few_channels (bytes_inside _ _) c.measure.ensures c.args.x (omega arith) c.in_ok-distance.was in
    let place : c.in_ok-distance.distance - (c.loop-d.d - 1) ≡ c.in_ok-distance.distance + 1 - c.loop-d.d = omega arith in
    let written : c.in_ok-distance.distance + 1 - (c.loop-d.d - 1) ≡ c.in_ok-distance.distance + 1 - c.loop-d.d + 1 = omega arith in (
      s.0,
      s.1.1,
      rw (place, written)
          (walking_next c.loop-d.invariant.2 (omega arith)
          (walk_link (bytes_inside _ _) c.measure.ensures c.loop-d.invariant.0 (away (goal.at.loop-d-preserved c).In-loop-d) s)),
    )

pub returns : goal.returns
returns c =
    let home : c.loop-d.d ≡ 0 = omega arith in
    let count : c.in_ok-distance.distance + 1 - c.loop-d.d ≡ c.in_ok-distance.distance + 1 = omega arith in
    rw count at
    (walking_last c.loop-d.invariant.2
    (at_end (bytes_inside _ _) c.measure.ensures c.loop-d.at c.loop-d.invariant.0 (c.loop-d.invariant.1 ∙ ap Some home)))
