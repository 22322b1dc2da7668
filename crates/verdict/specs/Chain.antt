-- `chain`: the chain from x to y of a sheet.
use Rattle.std.specs.Prelude.{ℕ, List, [], ◌∷◌, leb}
use Rattle.answers.specs.declared.Told.{Told}
use Rattle.answers.specs.Sizes.{least_chain}
use Rattle.answers.specs.Call.{Refusal, ◌if◌, ◌then◌, Outcome, told_and_left}
use Rattle.answers.specs.Rows.{shorter}
use Rattle.tables.specs.Sheet.{Lent, sheet_in, entities}
use Rattle.tables.specs.Refusals.{no_list, sheet_refusals}
use Rattle.access.specs.Channel.{Channel}
use Rattle.separations.specs.Shown.{Shown}

-- "1, 5, 11; .. then 10"
unfoldable pub chain_refusals : Lent → ℕ → ℕ → List ℕ → List Refusal
chain_refusals l x y chain =
    sheet_refusals (shorter chain least_chain) no_list l
    then ((10 if leb (entities l.counts) x) ∷ (10 if leb (entities l.counts) y) ∷ [])

-- the contract of `chain`: the answer and the count of entities, and the chain buffer afterwards
abbrev pub Shows : Lent → ℕ → ℕ → List ℕ → Told × List ℕ → Type 0
Shows l x y before = Outcome (chain_refusals l x y before) (told_and_left before) (Shown (Channel (sheet_in l)) x y before)
