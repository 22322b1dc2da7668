-- A text over its size is refused with line 0, and the number of a refused line is at most one more than the most bytes of a text, so
-- that two bytes hold it.
use Prim.Native.Nat.{ℕ, zero, suc, ◌+◌, ◌≤◌, ◌<◌}
use mathlib.Core.Path.{◌≡◌, refl, sym}
use mathlib.Core.Bool.{Bool, true, false, cond}
use mathlib.Core.List.{List, [], ◌∷◌}
use native.Mathlib.Nat.{le_of_eq}
use native.Mathlib.Omega.{arith}
use borrow.Author.Tests.{lt-ltb, ltb-false}
use lib.ListN.{length, replicate, length-replicate}
use Rattle.answers.specs.Call.{first_refusal}
use Rattle.answers.specs.Rows.{exceeds}
use Rattle.answers.specs.Sizes.{most_text}
use Rattle.frames.specs.declared.Passed.{Passed}
use Rattle.frames.specs.Frame.{Parsed}
use Rattle.frames.specs.Check.{start, line_refusals, next_line, check, parsed_lines, frames_of, CheckedText, Refused, Accepted}
use Rattle.frames.proofs.Checks.{check_go, check_stop, more_lines, few_lines}
use Rattle.text.specs.Content.{content_of}
use Rattle.text.specs.Reading.{refused, read_by, read_lines, read_text}
use Rattle.text.proofs.AText.{reading}

-- "5 for the text length, .. with line 0"
pub over_size_refused : (text : List ℕ) → most_text < length text → read_text text ≡ refused 5 0
unfolding read_text
over_size_refused text h = rw (lt-ltb most_text (length text) h)

-- as of a text of 44,241 bytes
pub over_size : List ℕ
over_size = replicate 44241 0

-- met by a text of 44,241 bytes: one more than "sheet text, bytes | 44,240"
pub over_size_lem : most_text < length over_size
unfolding over_size
over_size_lem = le_of_eq (sym (length-replicate {A = ℕ} 44241 0))

over_size_read : read_text over_size ≡ refused 5 0
over_size_read = over_size_refused over_size over_size_lem

-- ---- the refused line is one of them, or the one after the last
refused_among : (k : Passed) (ps : List Parsed) (n at : ℕ) → check k ps ≡ Refused n at → at ≤ k.lines + length ps + 1
unfolding check
refused_among k [] n at h = go k.ended h
  where
    go : (b : Bool) → cond b Accepted (Refused 9 (k.lines + 1)) ≡ Refused n at → at ≤ k.lines + 0 + 1
    go true e = let z : ◌≡◌ {A = ℕ} 0 1 = cc in absurd (omega arith)
    go false e = let same : k.lines + 1 ≡ at = cc in omega arith
refused_among k (p ∷ ps) n at h = go (first_refusal (line_refusals k p)) refl (refused_among (next_line k p) ps n at)
  where
    go : (m : ℕ) → first_refusal (line_refusals k p) ≡ m → (check (next_line k p) ps ≡ Refused n at → at ≤ (next_line k p).lines + length ps + 1) →
        at ≤ k.lines + suc (length ps) + 1
    go zero e later = omega (arith, later (rw (check_go k p ps e) at h), more_lines k p)
    go (suc m) e later = let same : k.lines + 1 ≡ at = cc (check_stop k p ps m e) in omega arith

-- ---- of a text within its size; one over it is refused at line 0
refused_within : (text : List ℕ) (n at : ℕ) → length text ≤ most_text → check start (parsed_lines text) ≡ Refused n at → at ≤ most_text + 1
unfolding start
refused_within text n at fits e = omega (arith, refused_among start (parsed_lines text) n at e, few_lines text)

pub refused_line_fits : (text : List ℕ) (n at : ℕ) → read_text text ≡ refused n at → at ≤ most_text + 1
unfolding read_text read_lines read_by
refused_line_fits text n at = go (exceeds (length text) most_text) refl (check start (parsed_lines text)) refl
  where
    go : (long : Bool) → exceeds (length text) most_text ≡ long → (v : CheckedText) → check start (parsed_lines text) ≡ v →
        cond long (refused 5 0) (read_by v (content_of (frames_of (parsed_lines text)))) ≡ refused n at → at ≤ most_text + 1
    go true l v e q = let same : 0 ≡ at = cc in omega arith
    go false l (Refused m k) e q =
        let same : k ≡ at = cc in
        omega (arith, refused_within text m k (ltb-false _ _ l) e)
    go false l Accepted e q = let z : ◌≡◌ {A = ℕ} 0 1 = cc in absurd (omega arith)

-- as of an empty text, at line 1
empty_line_fits : 1 ≤ most_text + 1
unfolding reading
empty_line_fits = refused_line_fits [] 9 1 refl
