-- A sound flow table of two entities, of which no question is refused.
use mathlib.Core.Path.{◌≡◌}
use lib.Dec.{lit<}
use Rattle.answers.specs.Call.{first_refusal}
use Rattle.tables.specs.FlowTable.{flow_refusals}
use Rattle.questions.specs.Questions.{asked_refusals, both_asked_refusals}
use Rattle.questions.proofs.ACase.{table, flow_order}
use Rattle.questions.proofs.Asked.{asked_passed, both_pass}

-- met by this table: a question on 0 and 1 is not refused
passes : first_refusal (both_asked_refusals 2 (table 1 1 0 1) 0 1) ≡ 0
unfolding flow_refusals asked_refusals
passes = both_pass 2 (table 1 1 0 1) (asked_passed _ 2 (table 1 1 0 1) 1 flow_order.sound).1.accepted 0 1 (lit< tt) (lit< tt)
