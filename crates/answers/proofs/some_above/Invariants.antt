-- `answers::some_above` meets its contract: so far it says whether a byte that it passed is above `most`.
use mathlib.Core.Path.{◌≡◌}
use Rattle.answers.specs.Rows.{some_above}
use Rattle.answers.proofs.some_above.Given as goal

abbrev pub invariant-loop-byte : goal.invariant-loop-byte
invariant-loop-byte l = l.some ≡ some_above l.bytes l.byte-index l.most
