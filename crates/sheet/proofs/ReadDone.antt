-- `read` answers 0 exactly if every lent buffer has its least length and the text is accepted; then the tables are in the buffers. A
-- refused text, one over its size too, leaves them.
use Prim.Native.Nat.{ℕ, ◌<◌}
use mathlib.Core.Path.{◌≡◌, refl, sym, ap, ◌∙◌}
use mathlib.Core.Logic.{◌≢◌}
use mathlib.Core.Bool.{Bool, true, false, cond}
use mathlib.Core.List.{List}
use native.Mathlib.Omega.{arith}
use borrow.Author.Tests.{ltb-false, le-ltb}
use lib.ListN.{length}
use Rattle.answers.specs.Call.{first_refusal}
use Rattle.answers.specs.Rows.{exceeds}
use Rattle.answers.specs.Sizes.{most_text}
use Rattle.answers.proofs.Calls.{passed, answered}
use Rattle.tables.specs.Sheet.{Sheet}
use Rattle.frames.specs.Check.{start, check, parsed_lines, frames_of, CheckedText, Refused, Accepted}
use Rattle.frames.proofs.Checks.{refused_number}
use Rattle.text.specs.Content.{content_of}
use Rattle.text.specs.Reading.{Read, refused, accepted, read_by, read_lines, read_text}
use Rattle.text.proofs.RefusedLines.{over_size_refused}
use Rattle.reader.specs.Fill.{Tables, LongTables}
use Rattle.sheet.specs.Read.{ReadResult, read_refusals, not_read, tables_read, read_result, Reads}

-- a text that is refused is refused by another number than 0
refusal_number : (text : List ℕ) (n line : ℕ) → read_text text ≡ refused n line → n ≢ 0
unfolding read_text read_lines read_by
refusal_number text n line = go (exceeds (length text) most_text) (check start (parsed_lines text)) (content_of (frames_of (parsed_lines text))) refl
  where
    go : (long : Bool) (v : CheckedText) (said : Sheet) → check start (parsed_lines text) ≡ v → cond long (refused 5 0) (read_by v said) ≡ refused n line → n ≢ 0
    go true v said e q = let same : 5 ≡ n = cc in (λ z. omega arith)
    go false (Refused m l) said e q = let same : m ≡ n = cc in rw same at (refused_number start (parsed_lines text) m l e)
    go false Accepted said e q = let z : ◌≡◌ {A = ℕ} 0 1 = cc in absurd (omega arith)

module _ (before : Tables) where
  abbrev refusal : ℕ
  refusal = first_refusal (read_refusals before)

  pub lengths_passed : refusal ≡ 0 → LongTables before
  unfolding read_refusals
  lengths_passed e =
      let a = passed 1 _ _ tt e in
      let b = passed 1 _ _ tt a.1 in
      let c = passed 1 _ _ tt b.1 in
      record { assignment_long = ltb-false _ _ a.0; permission_long = ltb-false _ _ b.0; separations_long = ltb-false _ _ c.0 }

  pub lengths_pass : LongTables before → refusal ≡ 0
  unfolding read_refusals first_refusal
  lengths_pass long = rw (le-ltb _ _ long.assignment_long, le-ltb _ _ long.permission_long, le-ltb _ _ long.separations_long)

  -- the text is accepted as `sheet`, whose tables are in the buffers
  pub record ReadDone (text : List ℕ) (result : ReadResult) : Type 0 where
    pub sheet : Sheet
    pub reads : read_text text ≡ accepted sheet
    pub long : LongTables before
    pub filled : result ≡ tables_read before sheet

  module _ (text : List ℕ) (result : ReadResult) (r : Reads text before result) where
    pub read_done : result.reading.answer ≡ 0 → ReadDone text result
    unfolding read_result
    read_done e = told_by (read_text text) refl (r.done none)
      where
        none : refusal ≡ 0
        none = answered (λ (x : ReadResult). x.reading.answer) (λ n. refl) r e

        told_by : (x : Read) → read_text text ≡ x → result ≡ read_result before x → ReadDone text result
        told_by (refused n line) q h = absurd (refusal_number text n line q (sym (ap (λ (x : ReadResult). x.reading.answer) h) ∙ e))
        told_by (accepted t) q h = record { sheet = t; reads = q; long = lengths_passed none; filled = h }

    -- ---- what the text comes to, in buffers of their least lengths
    module _ (long : LongTables before) where
      comes_to : (x : Read) → read_text text ≡ x → result ≡ read_result before x
      comes_to x e = rw e at (r.done (lengths_pass long))

      -- an accepted text is read
      pub accepted_read : (t : Sheet) → read_text text ≡ accepted t → (result.reading.answer ≡ 0) × (result ≡ tables_read before t)
      unfolding read_result
      accepted_read t e = let filled = comes_to (accepted t) e in (ap (λ (x : ReadResult). x.reading.answer) filled, filled)

      -- "Then line by line, the first faulty line decides": a refused text is refused by its number, with its line
      pub refused_not_read : (n line : ℕ) → read_text text ≡ refused n line → result ≡ not_read before n line
      unfolding read_result
      refused_not_read n line e = comes_to (refused n line) e

      -- "5 for the text length, .. with line 0"
      pub over_size_not_read : most_text < length text → result ≡ not_read before 5 0
      over_size_not_read h = refused_not_read 5 0 (over_size_refused text h)
