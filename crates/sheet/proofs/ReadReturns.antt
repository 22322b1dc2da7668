-- Each way out of `read`: a short buffer, a text over its size, a refused line, and tables that are filled.
use Prim.Native.Nat.{ℕ, zero, suc, ◌/◌, ◌≤◌, ◌<◌}
use mathlib.Core.Path.{◌≡◌, refl, sym, ◌∙◌}
use mathlib.Core.Logic.{◌≢◌}
use mathlib.Core.Bool.{Bool, true, false}
use mathlib.Core.List.{List, [], ◌∷◌}
use native.Mathlib.Nat.{suc-ne-zero}
use native.Mathlib.Omega.{arith}
use borrow.Author.Tests.{le-ltb, ltb-true, ltb-false}
use lib.ListN.{length}
use Rattle.std.specs.Prelude.{Ok, Err}
use Rattle.answers.specs.Call.{◌if◌, first_refusal}
use Rattle.answers.specs.Refused.{number}
use Rattle.answers.specs.Rows.{exceeds}
use Rattle.answers.specs.Sizes.{most_text}
use Rattle.answers.proofs.Calls.{passed, passed_then, by_first, by_second, refuse, accept}
use Rattle.answers.proofs.Exits.{some_number}
use Rattle.tables.specs.Sheet.{Sheet}
use Rattle.frames.specs.declared.Passed.{Passed}
use Rattle.frames.specs.declared.RefusedText.{RefusedText}
use Rattle.frames.specs.Check.{parsed_lines, frames_of}
use Rattle.checking.specs.Inner.{Checks}
use Rattle.text.specs.Content.{content_of}
use Rattle.text.specs.Reading.{read_by, read_lines, read_text}
use Rattle.text.proofs.RefusedLines.{over_size_refused}
use Rattle.reader.specs.Fill.{Tables, LongTables, TablesFilled}
use Rattle.reader.proofs.Counted.{Counted, counted}
use Rattle.sheet.specs.Read.{read_to, read_refusals, not_read, accepted_with, tables_read, read_result, Reads}
use Rattle.sheet.specs.Inner.{lengths_refusal}
use Rattle.sheet.proofs.ReadDone.{lengths_passed, lengths_pass}

filled_as : (before after : Tables) (k : Passed) (t : Sheet) → Counted k t → TablesFilled t before after → read_to (accepted_with k.counts k.separations) after ≡ tables_read before t
filled_as before after k t c f =
    let half : k.separations ≡ length t.separations / 2 = omega (arith, c.pairs) in
    rw (f.assignment_filled, f.permission_filled, f.separations_filled, half, ← c.counts_same)

-- ---- the ways out
module _ (text : List ℕ) (before : Tables) where
  -- "1, then 5 for the text length, both with line 0": what 1 refuses is told with line 0, whatever the text
  pub short_refused : (n : ℕ) → n ≡ first_refusal (read_refusals before) → n ≢ 0 → Reads text before (not_read before n 0)
  short_refused n e some = refuse n e some refl

  pub lengths_checked : lengths_refusal text before ≡ 0 → LongTables before × (length text ≤ most_text)
  unfolding read_refusals
  lengths_checked e =
      let both = passed_then (read_refusals before) _ tt e in
      (lengths_passed before both.0, ltb-false _ _ (passed 5 _ _ tt both.1).0)

  module _ (long : LongTables before) where
    pass : first_refusal (read_refusals before) ≡ 0
    pass = lengths_pass before long

    pub long_text : most_text < length text → Reads text before (not_read before 5 0)
    unfolding read_result
    long_text h = accept pass (rw (over_size_refused text h))

    module _ (fits : length text ≤ most_text) where
      pub line_refused : (stop : RefusedText) → Checks text (Err stop) → Reads text before (not_read before (number stop.why) stop.line)
      unfolding read_result read_text read_lines read_by
      line_refused stop r = accept pass (rw (le-ltb most_text (length text) fits, ← r.verdict))

      pub tables_filled : (k : Passed) (after : Tables) → Checks text (Ok k) → TablesFilled (content_of (frames_of (parsed_lines text))) before after →
          Reads text before (read_to (accepted_with k.counts k.separations) after)
      unfolding read_result read_text read_lines read_by
      tables_filled k after r f =
          accept pass
          (rw (le-ltb most_text (length text) fits, ← r.verdict, r.passed k refl)
          (filled_as before after _ _ (counted (parsed_lines text) (sym r.verdict)) f))

  -- "1, then 5 for the text length, both with line 0"
  pub lengths_refused : (stop : RefusedText) → number stop.why ≡ lengths_refusal text before → stop.line ≡ 0 → Reads text before (not_read before (number stop.why) stop.line)
  unfolding first_refusal read_refusals
  lengths_refused stop e l = go (first_refusal (read_refusals before)) refl
    where
      go : (n : ℕ) → first_refusal (read_refusals before) ≡ n → Reads text before (not_read before (number stop.why) stop.line)
      go zero none = rw l (long (exceeds (length text) most_text) refl (e ∙ by_second (read_refusals before) _ tt none))
        where
          long : (b : Bool) → exceeds (length text) most_text ≡ b → number stop.why ≡ first_refusal ((5 if b) ∷ []) → Reads text before (not_read before (number stop.why) 0)
          long true over five = rw five (long_text (lengths_passed before none) (ltb-true _ _ over))
          long false fits none = absurd (some_number stop.why none)
      go (suc n) some = refuse (number stop.why) (e ∙ by_first (read_refusals before) _ (λ z. suc-ne-zero n (sym some ∙ z))) (some_number stop.why) (rw l refl)
