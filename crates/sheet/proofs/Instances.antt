-- The laws of the calls at the printed sheet of document 01, in buffers of their least lengths: their premises can be met.
use Prim.Native.Nat.{ℕ, ◌*◌, ◌≤◌}
use mathlib.Core.Path.{◌≡◌, refl, sym, ap}
use mathlib.Core.List.{List, []}
use native.Mathlib.Nat.{le_of_eq}
use lib.ListN.{length, take, replicate, length-replicate}
use Rattle.answers.specs.declared.Told.{Told}
use Rattle.answers.specs.Call.{told}
use Rattle.answers.specs.Rows.{over}
use Rattle.answers.specs.Sizes.{least_assignment, least_permission, least_separations, least_text}
use Rattle.answers.proofs.Calls.{accept}
use Rattle.tables.specs.Sheet.{Sound}
use Rattle.text.specs.Content.{write_sheet}
use Rattle.text.specs.Worked.{worked_text}
use Rattle.text.proofs.AText.{reading, worked, reads_worked}
use Rattle.text.proofs.RoundTrip.{worked_sound}
use Rattle.text.proofs.RefusedLines.{over_size, over_size_lem}
use Rattle.reader.specs.Fill.{Tables, tables, LongTables}
use Rattle.sheet.specs.Read.{ReadResult, not_read, tables_read, read_result, Reads}
use Rattle.sheet.specs.Write.{LongToWrite}
use Rattle.sheet.specs.RoundTrip.{tables_in, sheet_read, WritesRead}
use Rattle.sheet.proofs.Accepts.{refuses_none}
use Rattle.sheet.proofs.ReadDone.{lengths_pass, accepted_read, refused_not_read, over_size_not_read}
use Rattle.sheet.proofs.Calls.{used_part, sound_written, written_sound, ready_back, accepted_read_written, sound_written_read}
use Rattle.sheet.proofs.ReadReturns.{long_text}

before : Tables
before = tables (replicate least_assignment 0) (replicate least_permission 0) (replicate least_separations 0)

text : List ℕ
text = replicate least_text 0

long : LongTables before
unfolding before
long =
    record {
      assignment_long = le_of_eq (sym (length-replicate {A = ℕ} least_assignment 0));
      permission_long = le_of_eq (sym (length-replicate {A = ℕ} least_permission 0));
      separations_long = le_of_eq (sym (length-replicate {A = ℕ} least_separations 0));
    }

result : ReadResult
result = tables_read before worked

reads : Reads worked_text before result
unfolding reading worked_text worked result read_result
reads = accept (lengths_pass before long) refl

full : least_text ≤ length text
unfolding text
full = le_of_eq (sym (length-replicate {A = ℕ} least_text 0))

-- an accepted text is read
is_read : (result.reading.answer ≡ 0) × (result ≡ tables_read before worked)
is_read = accepted_read before worked_text result reads long worked reads_worked

-- sound tables are written
ready : Sound (sheet_read result) × (2 * result.reading.separations ≤ length result.tables.separations) × LongToWrite (tables_in result) result.tables.separations text
unfolding result
ready = ready_back before worked worked_sound long text full

written : Told × List ℕ
written = (told 0 (length (write_sheet (sheet_read result))), over (write_sheet (sheet_read result)) text)

writes : WritesRead result text written
unfolding written
writes = accept (refuses_none _ _ _ _ ready.0 ready.1 ready.2) refl

-- met by the tables that were read: none of the lists of `write` refuses them, and their text is written
is_written : (written.0.answer ≡ 0) × (written ≡ (told 0 (length (write_sheet (sheet_read result))), over (write_sheet (sheet_read result)) text))
is_written = sound_written _ _ _ _ written writes ready.0 ready.1 ready.2

-- met by the same call: it answered 0, so the tables are sound
is_sound : Sound (sheet_read result)
is_sound = (written_sound _ _ _ _ written writes is_written.0).0

-- the text is written back
text_back : written ≡ (told 0 (length worked_text), over worked_text text)
text_back = accepted_read_written worked_text worked before result text written reads_worked long full reads writes

reads_again : Reads (take written.0.value written.1) before result
reads_again = rw (text_back, used_part worked_text text (length worked_text) refl) reads

-- met by the printed sheet, with buffers of least lengths: "sound tables written and read back are the same tables"
tables_back : result ≡ tables_read before (sheet_read result)
tables_back = (sound_written_read _ _ _ _ written before result ready.0 ready.1 ready.2 long writes reads_again).1

-- an empty text is refused by 9 at line 1, and one over its size by 5 at line 0; no buffer changes
of_nothing : ReadResult
of_nothing = not_read before 9 1

empty_reads : Reads [] before of_nothing
unfolding reading read_result of_nothing
empty_reads = accept (lengths_pass before long) refl

-- met by the empty text, with tables of least lengths: "empty text gives 9, line 1", and no table changes
empty_not_read : (of_nothing.reading.answer ≡ 9) × (of_nothing.reading.line ≡ 1) × (of_nothing.tables ≡ before)
unfolding reading
empty_not_read =
    let e = refused_not_read before [] of_nothing empty_reads long 9 1 refl in
    (ap (λ (r : ReadResult). r.reading.answer) e, ap (λ (r : ReadResult). r.reading.line) e, ap (λ (r : ReadResult). r.tables) e)

of_too_much : ReadResult
of_too_much = not_read before 5 0

-- met by a text of 44,241 bytes, with tables of least lengths: "5 for the text length", with line 0, and no table changes
long_not_read : (of_too_much.reading.answer ≡ 5) × (of_too_much.reading.line ≡ 0) × (of_too_much.tables ≡ before)
unfolding of_too_much
long_not_read =
    let e = over_size_not_read before over_size (not_read before 5 0) (long_text over_size before long over_size_lem) long over_size_lem in
    (ap (λ (r : ReadResult). r.reading.answer) e, ap (λ (r : ReadResult). r.reading.line) e, ap (λ (r : ReadResult). r.tables) e)
