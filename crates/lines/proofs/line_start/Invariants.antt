-- `lines::line_start` meets its contract: `at` is where line number k begins.
use mathlib.Core.Path.{◌≡◌}
use Prim.Native.Nat.{◌≤◌}
use lib.ListN.{length}
use Rattle.digits.specs.Line.{line_start}
use Rattle.lines.proofs.line_start.Given as goal

abbrev pub invariant-loop : goal.invariant-loop
invariant-loop l = (l.at ≤ length l.text) × (l.at ≡ line_start l.text l.counter)
