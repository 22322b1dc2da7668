-- `read`: what it answers and writes.
use Rattle.std.specs.Prelude.{ℕ, ◌/◌, ◌≡◌, Result, Ok, Err, List, [], ◌∷◌, length}
use Rattle.answers.specs.Sizes.{least_assignment, least_permission, least_separations}
use Rattle.answers.specs.Call.{Refusal, ◌if◌, Outcome}
use Rattle.answers.specs.Refused.{number}
use Rattle.answers.specs.Rows.{over, shorter}
use Rattle.tables.specs.declared.Counts.{Counts}
use Rattle.tables.specs.Sheet.{Sheet, counts}
use Rattle.frames.specs.declared.RefusedText.{RefusedText}
use Rattle.text.specs.Reading.{Read, refused, accepted, read_text}
use Rattle.reader.specs.Fill.{Tables}
use Rattle.sheet.specs.declared.Reading.{Reading}
use Rattle.sheet.specs.declared.Accepted.{Accepted}

-- the answer, and the lent tables afterwards
pub record ReadResult : Type 0 where
  pub reading : Reading
  pub tables : Tables

-- these two
abbrev pub read_to : Reading → Tables → ReadResult
read_to reading after = record { reading = reading; tables = after }

-- "Order when reading a sheet: 1, then 5 for the text length, both with line 0": 1; the rest is what reading makes of the text
unfoldable pub read_refusals : Tables → List Refusal
read_refusals before =
    (1 if shorter before.assignment least_assignment)
    ∷ (1 if shorter before.permission least_permission)
    ∷ (1 if shorter before.separations least_separations)
    ∷ []

-- "Every other number in its answer, a refused line apart, is 0"
abbrev pub refused_by : ℕ → ℕ → Reading
refused_by n line = record { answer = n; line = line; counts = counts 0 0 0; separations = 0 }

-- "Every refusal changes no lent byte, number or tally"
abbrev pub not_read : Tables → ℕ → ℕ → ReadResult
not_read before n line = read_to (refused_by n line) before

-- the counts and how many separations there are; "so is a number with nothing to tell (the line of an accepted sheet ..)"
abbrev pub accepted_with : Counts → ℕ → Reading
accepted_with c separations = record { answer = 0; line = 0; counts = c; separations = separations }

-- "Where an answer is an enum, a definition gives this paper's number and values for each of its cases"
abbrev pub reading_of : Result Accepted RefusedText → Reading
reading_of (Ok sheet) = accepted_with sheet.counts sheet.separations
reading_of (Err stop) = refused_by (number stop.why) stop.line

-- the whole used parts are written, "Absent pairs mean 0", and "Bytes past the used part are neither judged nor altered"
abbrev pub tables_read : Tables → Sheet → ReadResult
tables_read before t =
    record {
      reading = accepted_with t.counts (length t.separations / 2);
      tables =
          record {
            assignment = over t.assignment before.assignment;
            permission = over t.permission before.permission;
            separations = over t.separations before.separations;
          };
    }

-- the result for what reading makes of the text
unfoldable pub read_result : Tables → Read → ReadResult
read_result before (refused n line) = not_read before n line
read_result before (accepted t) = tables_read before t

-- the contract of `read`
abbrev pub Reads : List ℕ → Tables → ReadResult → Type 0
Reads text before = Outcome (read_refusals before) (λ n. not_read before n 0) (λ result. result ≡ read_result before (read_text text))
