-- `sievemarl::sievemarl_judge` meets its contract: what `judge` answers is small, so that one number holds it.
use native.Mathlib.Omega.{arith}
use Rattle.verdict.proofs.Bounds.{judged_small}
use Rattle.sievemarl.proofs.sievemarl_judge.Goals as goal

pub pack-requires : goal.pack-requires
pack-requires c =
    let small = judged_small _ _ _ _ c.judge.ensures in
    rw c.from-judged.ensures (omega (arith, small.position), omega (arith, small.count))

pub returns : goal.returns
returns c = record { judged = _; judges = c.judge.ensures; returned = rw c.from-judged.ensures at c.pack.ensures }
