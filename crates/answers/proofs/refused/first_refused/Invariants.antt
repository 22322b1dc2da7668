-- `answers::refused::first_refused` meets its contract: what is left of the rules decides.
use Rattle.std.proofs.Common.{◌≡◌}
use lib.ListN.{drop}
use Rattle.answers.specs.Call.{first_refusal}
use Rattle.answers.specs.Refused.{listed}
use Rattle.answers.proofs.refused.first_refused.Given as goal

abbrev pub invariant-loop-test : goal.invariant-loop-test
invariant-loop-test l = first_refusal (listed l.rules) ≡ first_refusal (listed (drop l.test-index l.rules))
