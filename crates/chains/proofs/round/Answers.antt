-- `chains::round` meets its contract. What has a channel to an entity below w that is at r is settled.
use Prim.Native.Nat.{ℕ, ◌+◌, ◌<◌}
use mathlib.Core.Path.{◌≡◌}
use mathlib.Core.List.{List}
use native.Mathlib.Decide.{ℕ_discrete}
use native.Mathlib.Omega.{arith}
use Rattle.std.specs.Prelude.{Option, Some}
use Rattle.std.proofs.lemmas.Grind.{common_steps}
use Rattle.chains.specs.Distance.{known, NoneAt}
use Rattle.chains.proofs.Rounds.{round_pass, round_more, none_more}
use Rattle.chains.proofs.round.Goals as goal
use Rattle.chains.proofs.round.Goals.{else-eq, then-eq}

pub loop-w-preserved : goal.loop-w-preserved
loop-w-preserved c =
    let s = c.loop-w.invariant in
    elim c.if-eq.branch [
      | then-eq w ↦ rw (w.dist-is, w.some-is) (round_more s.0 (grind (arith, common_steps)) w.settle.ensures, λ e. cc)
      | else-eq w ↦
          rw (w.dist-is, w.some-is)
          (round_pass s.0 (λ e. grind (arith, common_steps)), λ e. none_more _ (s.1 e) (λ h. grind (arith, common_steps)))
    ]
