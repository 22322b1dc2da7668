-- What a line comes to, by the count of its digits; and the line that starts at p.
use Prim.Native.Nat.{ℕ, suc, min, ◌+◌, ◌-◌, ◌≤◌, ◌<◌}
use mathlib.Core.Path.{◌≡◌, ap, refl, sym, ◌∙◌}
use mathlib.Core.Bool.{Bool, true, false, cond, ◌&&◌}
use mathlib.Core.List.{List, [], ◌∷◌, map}
use native.Mathlib.Decide.{dec_le, dec_lt}
use native.Mathlib.Omega.{arith}
use lib.Dec.{ltb}
use lib.ListN.{length, take, drop, length-drop, drop_of_length-le}
use lib.Seq.{drop-drop}
use borrow.Author.Tests.{lt-ltb, le-ltb}
use Rattle.std.specs.Prelude.{Err}
use Rattle.answers.specs.declared.refused.Refused.TheVariants.{NoBytes, NoFrame}
use Rattle.digits.specs.Digit.{digit_pairs, to_bytes}
use Rattle.digits.specs.Line.{line, lines, line_end, non_empty, sound_line}
use Rattle.digits.specs.Inner.{byte_at}
use Rattle.digits.proofs.Pairs.{bytes_at, bytes_none, bytes_count}
use Rattle.lines.proofs.Ends.{first_ends}
use Rattle.frames.specs.Frame.{Parsed, of_three, of_four, frame_of, parse}
use Rattle.frames.specs.Check.{parsed_lines}
use Rattle.parsing.specs.declared.Found.{Found}
use Rattle.parsing.specs.Inner.{FoundAt}

-- ---- a line of pairs of digits
pub of_six : (l : List ℕ) → length l ≡ 6 → of_three (byte_at l 0) (byte_at l 2) (byte_at l 4) ≡ frame_of (to_bytes l)
unfolding frame_of
of_six l e = rw (bytes_at l 0 (omega arith), bytes_at l 2 (omega arith), bytes_at l 4 (omega arith), bytes_none l 6 (omega arith))

pub of_eight : (l : List ℕ) → length l ≡ 8 → of_four (byte_at l 0) (byte_at l 2) (byte_at l 4) (byte_at l 6) ≡ frame_of (to_bytes l)
unfolding frame_of
of_eight l e =
    rw (bytes_at l 0 (omega arith), bytes_at l 2 (omega arith), bytes_at l 4 (omega arith), bytes_at l 6 (omega arith), bytes_none l 8 (omega arith))

no_frame : (bs : List ℕ) → (length bs ≡ 3 → ⊥) → (length bs ≡ 4 → ⊥) → Err NoFrame ≡ frame_of bs
unfolding frame_of
no_frame [] p q = refl
no_frame (k ∷ []) p q = refl
no_frame (k ∷ a ∷ []) p q = refl
no_frame (k ∷ a ∷ b ∷ []) p q = absurd (p refl)
no_frame (k ∷ a ∷ b ∷ c ∷ []) p q = absurd (q refl)
no_frame (k ∷ a ∷ b ∷ c ∷ d ∷ t) p q = refl

pub of_other : (l : List ℕ) → digit_pairs l ≡ true → (length l ≡ 6 → ⊥) → (length l ≡ 8 → ⊥) → Err NoFrame ≡ frame_of (to_bytes l)
of_other l e p q = no_frame (to_bytes l) (λ h. p (omega (arith, bytes_count l e))) (λ h. q (omega (arith, bytes_count l e)))

-- ---- any line
empty : (l : List ℕ) → length l ≡ 0 → non_empty l ≡ false
unfolding non_empty
empty [] h = refl
empty (a ∷ t) h = absurd (omega arith)

some : (l : List ℕ) → (length l ≡ 0 → ⊥) → non_empty l ≡ true
unfolding non_empty
some [] h = absurd (h refl)
some (a ∷ t) h = refl

unsound : (a b : Bool) (p : Parsed) → Err NoBytes ≡ cond (a && b && false) p (Err NoBytes)
unsound true true p = refl
unsound true false p = refl
unsound false b p = refl

module _ (l : List ℕ) where
  pub parse_unended : (e : Bool) → e ≡ false → Err NoBytes ≡ parse (line l e)
  unfolding parse sound_line
  parse_unended e p = simp p

  pub parse_empty : (e : Bool) → length l ≡ 0 → Err NoBytes ≡ parse (line l e)
  unfolding parse sound_line
  parse_empty true h = simp (empty l h)
  parse_empty false h = refl

  pub parse_unpaired : (e : Bool) → digit_pairs l ≡ false → Err NoBytes ≡ parse (line l e)
  unfolding parse sound_line
  parse_unpaired e h = rw h (unsound e (non_empty l) (frame_of (to_bytes l)))

  pub parse_pairs : (e : Bool) → e ≡ true → (length l ≡ 0 → ⊥) → digit_pairs l ≡ true → frame_of (to_bytes l) ≡ parse (line l e)
  unfolding parse sound_line
  parse_pairs e p h q = simp (p, some l h, q)

pub ruleset line_laws = (parse_unended, parse_empty, parse_unpaired, parse_pairs)

-- ---- the line that starts at p, by where it ends, and the lines after it
pub no_lines : (t : List ℕ) → length t ≡ 0 → parsed_lines t ≡ []
unfolding parsed_lines lines
no_lines [] e = refl
no_lines (b ∷ t) e = absurd (omega arith)

-- a line feed stands after it in the rest of the text if one does in the text
same_test : (a b c d : ℕ) → (a < b → c < d) → (c < d → a < b) → ltb a b ≡ ltb c d
same_test a b c d there back =
    elim (dec_lt a b) [
      | yes l ↦ rw (lt-ltb a b l, lt-ltb c d (there l)) refl
      | no n ↦ let m : c < d → ⊥ = λ l. n (back l) in rw (le-ltb a b (omega arith), le-ltb c d (omega arith)) refl
    ]

-- "each ended by one line feed": the line's bytes, whether a line feed ends it, and the lines after that
pub line_ends : (t : List ℕ) (p e : ℕ) → p < length t → e ≡ p + line_end (drop p t) 1 →
    lines (drop p t) ≡ line (take (e - p) (drop p t)) (ltb e (length t)) ∷ lines (drop (e + 1) t)
line_ends t p e more ends =
    let d : List ℕ = drop p t in
    let size : length d ≡ length t - p = length-drop p t in
    let last : e - p ≡ line_end d 1 = omega arith in
    let fed : ltb (e - p) (length d) ≡ ltb e (length t) = same_test _ _ _ _ (λ l. omega arith) (λ l. omega arith) in
    let behind : p + suc (e - p) ≡ e + 1 = omega arith in
    rw (drop-drop, behind, fed) at (first_ends d (e - p) (omega arith) last)

pub line_found : (t : List ℕ) (p e : ℕ) (x : Parsed) → p < length t → (e ≡ p + line_end (drop p t) 1) × (e ≤ length t) →
    x ≡ parse (line (take (e - p) (drop p t)) (ltb e (length t))) → FoundAt t p (record { parsed = x; next = e + 1 })
unfolding parsed_lines
line_found t p e x more ends is =
    record {
      onward = omega (arith, ends.0);
      near = omega (arith, ends.1);
      first = ap (map parse) (line_ends t p e more ends.0) ∙ ap (λ (y : Parsed). y ∷ parsed_lines (drop (e + 1) t)) (sym is);
    }

-- the lines after it, where no place past the text's end is handed on
lines_on : (t : List ℕ) (n m : ℕ) → m ≡ min (length t) n → drop n t ≡ drop m t
lines_on t n m h =
    elim (dec_le n (length t)) [
      | yes l ↦ let same : n ≡ m = omega arith in rw same
      | no l ↦ drop_of_length-le t {i = n} (omega arith) ∙ sym (drop_of_length-le t {i = m} (omega arith))
    ]

pub first_line : (t : List ℕ) (f : Found) (n : ℕ) → FoundAt t 0 f → n ≡ min (length t) f.next → parsed_lines t ≡ f.parsed ∷ parsed_lines (drop n t)
first_line t f n found next = found.first ∙ rw (lines_on t f.next n next)
