-- `sievemarl::pack` meets its contract: a position and a chain count that are small leave the number within 32 bits.
use native.Mathlib.Omega.{arith}
use Rattle.sievemarl.specs.Packed.{packed}
use Rattle.sievemarl.proofs.pack.Goals as goal

pub returns : goal.returns
unfolding packed
returns c = omega arith
