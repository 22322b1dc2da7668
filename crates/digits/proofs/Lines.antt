-- A text is its lines, one after the other, cut at its line feeds; the line of some bytes is read back as it was made.
use Prim.Native.Nat.{ℕ, zero, suc, ◌/◌, ◌%◌, ◌<◌}
use mathlib.Core.Path.{◌≡◌, ap, refl, ◌∙◌}
use mathlib.Core.Logic.{◌≢◌}
use mathlib.Core.Bool.{Bool, true, false, cond}
use mathlib.Core.List.{List, [], ◌∷◌, ◌++◌, append_assoc}
use native.Mathlib.Nat.{le_of_suc-le-suc}
use native.Mathlib.Omega.{arith}
use native.Mathlib.Decide.{dec_lt}
use lib.Dec.{eqb}
use lib.ListN.{length, get_or}
use borrow.Author.Tests.{eqb-true, eqb-false, ne_eqb}
use Rattle.digits.specs.Digit.{digit_byte, to_digits}
use Rattle.digits.specs.Line.{Line, line, feed, no_line, joined, lines, line_of}
use Rattle.digits.proofs.Digits.{byte_decimal, byte_letter}

-- a line as it stands in the text, with its line feed if it has one
unfoldable pub line_text : Line → List ℕ
line_text l = l.bytes ++ cond l.ended (feed ∷ []) []

unfoldable pub whole : List Line → List ℕ
whole [] = []
whole (l ∷ ls) = line_text l ++ whole ls

joined_whole : (b : ℕ) (ls : List Line) → whole (joined b ls) ≡ b ∷ whole ls
unfolding joined whole line_text
joined_whole b [] = refl
joined_whole b (l ∷ ls) = refl

pub whole_lines : (t : List ℕ) → whole (lines t) ≡ t
unfolding lines whole line_text
whole_lines [] = refl
whole_lines (b ∷ t) = go (eqb b feed) refl (whole_lines t)
  where
    go : (x : Bool) → eqb b feed ≡ x → whole (lines t) ≡ t → whole (cond x (line [] true ∷ lines t) (joined b (lines t))) ≡ b ∷ t
    go true e h = rw (h, eqb-true b feed e)
    go false e h = joined_whole b (lines t) ∙ rw h

-- a byte that is no line feed goes in front of the first line
pub lines_joined : (b : ℕ) (t : List ℕ) → (b ≡ feed → ⊥) → lines (b ∷ t) ≡ joined b (lines t)
unfolding lines
lines_joined b t other = rw (ne_eqb b feed other)

digit_no_feed : (v : ℕ) → digit_byte v ≡ feed → ⊥
digit_no_feed v e = elim (dec_lt v 10) [ yes d ↦ omega (arith, byte_decimal v d) | no l ↦ omega (arith, byte_letter v (omega arith)) ]

digits_line : (bs t : List ℕ) → lines (to_digits bs ++ (feed ∷ t)) ≡ line (to_digits bs) true ∷ lines t
unfolding to_digits lines joined
digits_line [] t = refl
digits_line (b ∷ bs) t =
    let rest : List ℕ = to_digits bs ++ (feed ∷ t) in
    lines_joined (digit_byte (b / 16)) (digit_byte (b % 16) ∷ rest) (digit_no_feed (b / 16))
    ∙ ap (joined (digit_byte (b / 16))) (lines_joined (digit_byte (b % 16)) rest (digit_no_feed (b % 16)))
    ∙ rw (digits_line bs t)

pub first_line : (bs t : List ℕ) → lines (line_of bs ++ t) ≡ line (to_digits bs) true ∷ lines t
unfolding line_of
first_line bs t = ap lines (append_assoc (to_digits bs) (feed ∷ []) t) ∙ digits_line bs t

-- ---- a text is cut at its line feeds, and nowhere else
-- no line has a line feed inside it
abbrev pub NoneInside : List Line → Type 0
NoneInside ls = (k i : ℕ) → i < length (get_or ls k no_line).bytes → get_or (get_or ls k no_line).bytes i 0 ≢ feed

joined_inside : (b : ℕ) (ls : List Line) → b ≢ feed → NoneInside ls → NoneInside (joined b ls)
unfolding joined
joined_inside b [] other inside zero zero h = other
joined_inside b [] other inside zero (suc i) h = absurd (omega arith)
joined_inside b [] other inside (suc k) i h = absurd (omega arith)
joined_inside b (l ∷ ls) other inside zero zero h = other
joined_inside b (l ∷ ls) other inside zero (suc i) h = inside 0 i (le_of_suc-le-suc h)
joined_inside b (l ∷ ls) other inside (suc k) i h = inside (suc k) i h

-- and only the last may lack the line feed that ends it
abbrev pub EndedBefore : List Line → Type 0
EndedBefore ls = (k : ℕ) → suc k < length ls → (get_or ls k no_line).ended ≡ true

joined_ended : (b : ℕ) (ls : List Line) → EndedBefore ls → EndedBefore (joined b ls)
unfolding joined
joined_ended b [] ended k h = absurd (omega arith)
joined_ended b (l ∷ ls) ended zero h = ended 0 h
joined_ended b (l ∷ ls) ended (suc k) h = ended (suc k) h

pub lines_cut : (t : List ℕ) → NoneInside (lines t) × EndedBefore (lines t)
unfolding lines
lines_cut [] = (λ k i h. absurd (omega arith), λ k h. absurd (omega arith))
lines_cut (b ∷ t) = go (eqb b feed) refl (lines_cut t).0 (lines_cut t).1
  where
    ended_first : NoneInside (lines t) → NoneInside (line [] true ∷ lines t)
    ended_first inside zero i h = absurd (omega arith)
    ended_first inside (suc k) i h = inside k i h

    first_ended : EndedBefore (lines t) → EndedBefore (line [] true ∷ lines t)
    first_ended ended zero h = refl
    first_ended ended (suc k) h = ended k (le_of_suc-le-suc h)

    go : (x : Bool) → eqb b feed ≡ x → NoneInside (lines t) → EndedBefore (lines t) →
        NoneInside (cond x (line [] true ∷ lines t) (joined b (lines t))) × EndedBefore (cond x (line [] true ∷ lines t) (joined b (lines t)))
    go true e inside ended = (ended_first inside, first_ended ended)
    go false e inside ended = (joined_inside b (lines t) (eqb-false b feed e) inside, joined_ended b (lines t) ended)
