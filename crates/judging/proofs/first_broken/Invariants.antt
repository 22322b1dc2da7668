-- `judging::first_broken` meets its contract. The buffer holds the row that `held` says, and no separation before i is broken.
use Prim.Native.Nat.{ℕ, ◌<◌}
use Rattle.answers.specs.Rows.{Bytes}
use Rattle.separations.specs.Judgement.{Broken}
use Rattle.judging.specs.Inner.{HeldRow}
use Rattle.judging.proofs.first_broken.Given as goal

abbrev pub invariant-loop-i : goal.invariant-loop-i
invariant-loop-i l =
    HeldRow l.channels.n (Bytes l.channels.n l.channels.bytes.now) l.held l.row
    × ((j : ℕ) → j < l.i → Broken (Bytes l.channels.n l.channels.bytes.now) l.separations.pairs.now j → ⊥)
