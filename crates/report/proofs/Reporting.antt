-- The ends of `report` and of its functions, return by return.
use Prim.Native.Nat.{ℕ, ◌*◌, ◌≤◌, ◌<◌}
use mathlib.Core.Path.{◌≡◌, refl, ap, ◌∙◌}
use mathlib.Core.Logic.{◌≢◌}
use mathlib.Core.List.{List, ◌++◌}
use native.Mathlib.Decide.{ℕ_discrete}
use native.Mathlib.Omega.{arith}
use borrow.Author.Tests.{lt-ltb, le-ltb, ltb-false}
use lib.ListN.{length}
use Rattle.std.specs.Prelude.{Result, Ok, Err, IsOk}
use Rattle.answers.specs.declared.Told.{Told}
use Rattle.answers.specs.declared.refused.Refused.{Refused as Why}
use Rattle.answers.specs.Refused.{code, told_of}
use Rattle.answers.proofs.Exits.{some_number}
use Rattle.answers.specs.Call.{first_refusal, told}
use Rattle.answers.specs.Rows.{Bytes}
use Rattle.answers.specs.Sizes.{least_flow, least_assignment, least_permission, least_separations}
use Rattle.tables.specs.Sheet.{Lent, Sound, sheet_in, sheet_of, entities}
use Rattle.answers.proofs.Calls.{passed, refuse, accept}
use Rattle.tables.proofs.Accepted.{tables_pass}
use Rattle.tables.proofs.Sounds.{sized_of, listed_of, entities_fit}
use Rattle.theory.proofs.Orders.{agree_turned}
use Rattle.digits.specs.Line.{line_of}
use Rattle.digits.specs.Inner.{Put}
use Rattle.digits.proofs.Puts.{put_then, put_over}
use Rattle.text.specs.Reading.{Read, refused, accepted, read_text}
use Rattle.text.proofs.RoundTrip.{accepted_sound}
use Rattle.text.proofs.RefusedLines.{refused_line_fits}
use Rattle.sheet.specs.Read.{ReadResult, read_result, Reads}
use Rattle.sheet.specs.RoundTrip.{tables_in, sheet_read}
use Rattle.reader.specs.Fill.{Tables, LongTables}
use Rattle.sheet.proofs.ReadDone.{lengths_pass, ReadDone}
use Rattle.sheet.proofs.Calls.{sheet_back}
use Rattle.access.specs.Channel.{Channel}
use Rattle.flow.specs.Fill.{fill_refusals, FlowFilled, Fills}
use Rattle.flow.proofs.Filled.{filled_agrees}
use Rattle.flow.proofs.Unrefused.{filled_accepted}
use Rattle.output.specs.Output.{EntityLines, VerdictLine, SheetLines, refusal_line, refusal, sheet_lines, Output}
use Rattle.report.specs.Report.{least_output, report_refusals, Reports}
use Rattle.report.specs.Inner.{PutLine, PutOutput, Printable}
use Rattle.output.proofs.LineLaws.{lines_agree}
use Rattle.report.proofs.VerdictLines.{verdict_used}
use Rattle.report.proofs.Sizes.{output_fits}
use Rattle.tables.specs.FlowTable.{SoundFlow}

-- ---- the flow table of an accepted sheet
module _ (l : Lent) (count : ℕ) (separations : List ℕ) (p : Printable l count separations) (before table : List ℕ) (answer : Result (Unit {0}) Why) (room : least_flow ≤ length before) (call : Fills l before (code answer, table)) where
  passes : first_refusal (fill_refusals l before) ≡ 0
  unfolding fill_refusals
  passes = tables_pass _ _ l (record { not_short = le-ltb _ _ room; not_long = refl; sized = p.sized })

  -- it is not refused
  pub is_done : IsOk answer
  is_done = go answer (call.done passes).0
    where
      go : (a : Result (Unit {0}) Why) → code a ≡ 0 → IsOk a
      go (Ok u) e = refl
      go (Err why) e = absurd (some_number why e)

  -- it is filled
  pub is_filled : FlowFilled (sheet_in l) before table
  is_filled = (call.done passes).1

  -- and can be asked
  pub is_accepted : least_flow ≤ length table → SoundFlow (entities l.counts) table
  unfolding sheet_of
  is_accepted long = filled_accepted (sheet_in l) before table is_filled (entities_fit l p.sized) long

  -- its lines and the line of the verdict are those of the sheet
  pub sheet_put : {out text after : List ℕ} {at next : ℕ} → PutOutput (EntityLines (entities l.counts) (Bytes (entities l.counts) table) (entities l.counts)) out at text →
      PutLine (VerdictLine (Channel (sheet_of l count separations)) count separations) at text next after → PutOutput (SheetLines (sheet_of l count separations)) out next after
  unfolding sheet_of
  sheet_put e v =
      record {
        printed = e.printed ++ line_of v.line;
        right =
            record {
              entity_lines = e.printed;
              verdict_line = v.line;
              each = lines_agree (agree_turned (filled_agrees (sheet_in l) before table is_filled)) (omega arith) e.right;
              verdict = verdict_used count separations (omega (arith, p.listed.few, p.long)) v.right;
              whole = refl;
            };
        put = put_then e.put v.put;
      }

-- ---- what was read
module _ (text : List ℕ) (lent : Tables) (long : LongTables lent) (result : ReadResult) (r : Reads text lent result) where
  pub is_refused : result.reading.answer ≢ 0 → read_text text ≡ refused result.reading.answer result.reading.line
  unfolding read_result
  is_refused some = go (read_text text) (r.done (lengths_pass lent long))
    where
      go : (x : Read) → result ≡ read_result lent x → x ≡ refused result.reading.answer result.reading.line
      go (refused n line) e = rw e
      go (accepted t) e = absurd (some (ap (λ (x : ReadResult). x.reading.answer) e))

  pub line_fits : result.reading.answer ≢ 0 → result.reading.line < 65536
  line_fits some = omega (arith, refused_line_fits text _ _ (is_refused some))

-- the tables of an accepted text are those of its sheet
module _ {text : List ℕ} {lent : Tables} {result : ReadResult} (d : ReadDone lent text result) where
  same_sheet : sheet_read result ≡ d.sheet
  same_sheet = ap sheet_read d.filled ∙ sheet_back lent d.sheet (accepted_sound text d.reads)

  sound : Sound (sheet_read result)
  sound = rw same_sheet (accepted_sound text d.reads)

  few : 2 * result.reading.separations ≤ least_separations
  few = rw d.filled (omega (arith, (accepted_sound text d.reads).separations_size, (accepted_sound text d.reads).separations_fit))

  pub is_printable : least_assignment ≤ length result.tables.assignment → least_permission ≤ length result.tables.permission → least_separations ≤ length result.tables.separations →
      Printable (tables_in result) result.reading.separations result.tables.separations
  is_printable a p s =
      record {
        sized = sized_of (tables_in result) _ result.tables.separations sound a p;
        listed = listed_of (tables_in result) _ result.tables.separations sound (omega (arith, few));
        long = s;
      }

  pub sheet_printed : {out : List ℕ} → SheetLines (sheet_read result) out → Output text out
  sheet_printed l = rw d.reads (sheet_lines (rw same_sheet at l))

-- ---- the call
module _ (text before : List ℕ) where
  -- "1 | a lent buffer is shorter than its least length": told by 1, and nothing is written
  pub too_short : length before < least_output → Reports text before (told 1 0, before)
  unfolding report_refusals first_refusal
  too_short h = refuse 1 (rw (lt-ltb _ _ h)) (λ z. omega arith) refl

  module _ (room : least_output ≤ length before) where
    reported : {printed : List ℕ} {next : ℕ} {after : List ℕ} → Output text printed → Put printed 0 before next after → Reports text before (told 0 next, after)
    unfolding report_refusals first_refusal
    reported {printed} o p =
        let w = put_over (omega (arith, output_fits text printed o)) p in
        accept (rw (le-ltb _ _ room)) (record { printed = printed; output = o; written = rw (w.0, w.1) })

    pub refused_reported : (n line : ℕ) {next : ℕ} {after : List ℕ} → read_text text ≡ refused n line → Put (refusal_line n line) 0 before next after →
        Reports text before (told 0 next, after)
    refused_reported n line e = reported (rw e (refusal refl))

    pub sheet_reported : {lent : Tables} {result : ReadResult} {next : ℕ} {after : List ℕ} → ReadDone lent text result →
        PutOutput (SheetLines (sheet_read result)) before next after → Reports text before (told 0 next, after)
    sheet_reported d p = reported (sheet_printed d p.right) p.put

-- ---- for those who print it: with room there is an output, and the told length is within the buffer
pub is_reported : (text before : List ℕ) (r : Result ℕ Why) (after : List ℕ) → least_output ≤ length before → Reports text before (told_of r, after) → IsOk r
unfolding report_refusals first_refusal
is_reported text before (Ok size) after room call = refl
is_reported text before (Err why) after room call =
    absurd (some_number why (ap (λ (r : Told × List ℕ). r.0.answer) (call.done (rw (le-ltb _ _ room))).written))

pub size_within : (text before : List ℕ) (r : Told × List ℕ) → Reports text before r → r.0.value ≤ length before
unfolding report_refusals
size_within text before r call = go (ℕ_discrete (first_refusal (report_refusals before)) 0)
  where
    go : Dec (first_refusal (report_refusals before) ≡ 0) → r.0.value ≤ length before
    go (yes e) =
        let d = call.done e in
        let room : least_output ≤ length before = ltb-false _ _ (passed 1 _ _ tt e).0 in
        omega (arith, ap (λ (x : Told × List ℕ). x.0.value) d.written, output_fits text d.printed d.output)
    go (no some) = rw (call.refusal some) (omega arith)

-- only the length of the buffer is judged
pub report_unjudged : (out out' : List ℕ) → length out ≡ length out' → report_refusals out ≡ report_refusals out'
unfolding report_refusals
report_unjudged out out' e = rw e
