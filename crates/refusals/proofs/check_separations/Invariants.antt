-- `refusals::check_separations` meets its contract: no separation passed is faulty.
use mathlib.Core.Path.{◌≡◌}
use Rattle.answers.specs.Call.{first_refusal, each_below}
use Rattle.tables.specs.Refusals.{pair_refusals}
use Rattle.refusals.proofs.check_separations.Given as goal

abbrev pub invariant-loop-i : goal.invariant-loop-i
invariant-loop-i l = first_refusal (each_below l.i (pair_refusals l.n l.separations.pairs.now)) ≡ 0
