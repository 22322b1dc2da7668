-- `rows::spread` meets its contract. The entities before k have been looked at.
use native.Mathlib.Omega.{arith}
use lib.ListN.{length-set}
use borrow.Author.Tests.{eqb-true, eqb-false}
use Rattle.rows.proofs.Spreads.{spread_pass, spread_take, exchanged}
use Rattle.rows.proofs.spread.Goals as goal
use Rattle.rows.proofs.spread.Goals.{else-is_channel, then-is_channel}

pub loop-k-preserved : goal.loop-k-preserved
loop-k-preserved c =
    let s = c.loop-k.invariant in
    elim c.if-is_channel.branch [
      | then-is_channel w ↦
          rw (w.order-is, w.end-is)
          (spread_take s (omega arith) (record { source = omega arith; target = s.arranged.entity _ (omega arith); byte = eqb-true _ _ (cc) })
          (simp length-set) (exchanged c.loop-k.order c.loop-k.k c.loop-k.end (omega (arith, s.arranged.room)) (omega (arith, s.arranged.room, s.ends))))
      | else-is_channel w ↦ rw (w.order-is, w.end-is) (spread_pass s (λ d. eqb-false _ _ (cc) d.byte))
    ]
