-- Writing: what the call answers and writes.
use Rattle.std.specs.Prelude.{ℕ, ◌≤◌, ◌≡◌, ◌||◌, List, length}
use Rattle.answers.specs.Sizes.{least_text, least_separations}
use Rattle.answers.specs.declared.Told.{Told}
use Rattle.answers.specs.Call.{Refusal, ◌then◌, Outcome, told, told_and_left}
use Rattle.answers.specs.Rows.{over, shorter}
use Rattle.tables.specs.Sheet.{Lent, sheet_of, entities}
use Rattle.tables.specs.Refusals.{no_list, sheet_refusals, separation_refusals}
use Rattle.text.specs.Content.{write_sheet}
use Rattle.reader.specs.Fill.{tables, LongTables}

-- "1, 5, 11; then, if it takes separations, 8, and then the first faulty pair, 6 before 7"
unfoldable pub write_refusals : Lent → ℕ → List ℕ → List ℕ → List Refusal
write_refusals l count separations text =
    sheet_refusals (shorter separations least_separations || shorter text least_text) no_list l
    then separation_refusals (entities l.counts) count separations

-- the contract of `write`, "each content has one text": the answer and the text's length, and the lent text afterwards
abbrev pub Writes : Lent → ℕ → List ℕ → List ℕ → Told × List ℕ → Type 0
Writes l count separations before =
    Outcome (write_refusals l count separations before) (told_and_left before)
    (λ result. result ≡ (told 0 (length (write_sheet (sheet_of l count separations))), over (write_sheet (sheet_of l count separations)) before))

-- "Least lent lengths, whatever the counts: .. text to be written 44,240": the buffers that `write` is lent have them
pub record LongToWrite (l : Lent) (separations text : List ℕ) : Type 0 where
  pub tables_long : LongTables (tables l.assignment l.permission separations)
  pub text_long : least_text ≤ length text
