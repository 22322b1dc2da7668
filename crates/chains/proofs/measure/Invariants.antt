-- `chains::measure` meets its contract. The distances up to r are known.
use Rattle.answers.specs.Rows.{Bytes}
use Rattle.chains.proofs.Measures.{Measured}
use Rattle.chains.proofs.measure.Given as goal

abbrev pub invariant-loop-r : goal.invariant-loop-r
invariant-loop-r l = Measured (Bytes l.channels.n l.channels.bytes.now) l.channels.n l.y l.r l.dist
