-- `judge`: the first broken separation of a sheet.
use Rattle.std.specs.Prelude.{ℕ, ◌||◌, List}
use Rattle.answers.specs.Sizes.{least_chain, least_separations}
use Rattle.answers.specs.Call.{Refusal, ◌then◌, Outcome}
use Rattle.answers.specs.Rows.{shorter}
use Rattle.tables.specs.Sheet.{Lent, sheet_of, entities}
use Rattle.tables.specs.Refusals.{no_list, sheet_refusals, separation_refusals}
use Rattle.access.specs.Channel.{Channel}
use Rattle.separations.specs.declared.Judged.{Judged}
use Rattle.separations.specs.Judgement.{judged, Judgement}

-- "1, 5, 11; then, if it takes separations, 8, and then the first faulty pair, 6 before 7"
unfoldable pub judge_refusals : Lent → ℕ → List ℕ → List ℕ → List Refusal
judge_refusals l count separations chain =
    sheet_refusals (shorter separations least_separations || shorter chain least_chain) no_list l
    then separation_refusals (entities l.counts) count separations

-- the contract of `judge`: the answer, and the chain buffer afterwards
abbrev pub Judges : Lent → ℕ → List ℕ → List ℕ → Judged × List ℕ → Type 0
Judges l count separations before =
    Outcome (judge_refusals l count separations before) (λ n. (judged n 0 0, before))
    (Judgement (Channel (sheet_of l count separations)) count separations before)
