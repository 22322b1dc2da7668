-- Frames and their bytes, lines and texts, there and back.
use Prim.Native.Nat.{ℕ}
use mathlib.Core.Path.{◌≡◌, ap, ap₂, refl, sym, ◌∙◌}
use mathlib.Core.Bool.{Bool, true, false, cond, ◌&&◌}
use mathlib.Core.List.{List, [], ◌∷◌, ◌++◌, map}
use native.Mathlib.Omega.{arith}
use lib.Dec.{eqb}
use borrow.Author.Tests.{eqb-true}
use Rattle.std.specs.Prelude.{Ok, Err}
use Rattle.answers.specs.declared.refused.Refused.TheVariants.{NoBytes, NoFrame}
use Rattle.digits.specs.Digit.{digit_pairs, to_bytes, to_digits}
use Rattle.digits.specs.Line.{Line, line, lines, non_empty, sound_line, line_of}
use Rattle.digits.proofs.Digits.{Bytes, both_true, digits_back, bytes_back, pairs_bytes, bytes_pairs}
use Rattle.digits.proofs.Lines.{line_text, whole, whole_lines, first_line}
use Rattle.frames.specs.declared.Frame.{Frame}
use Rattle.frames.specs.declared.Frame.TheVariants.{Header, Assign, Permit, Separate, End}
use Rattle.frames.specs.Frame.{frame_bytes, of_three, of_four, frame_of, parse, text_of, Parsed}
use Rattle.frames.specs.Check.{parsed_lines}

-- the numbers of every frame are bytes
unfoldable pub FrameBytes : List Frame → Type 0
FrameBytes [] = Unit {0}
FrameBytes (f ∷ fs) = Bytes (frame_bytes f) × FrameBytes fs

-- ---- a frame and its bytes
-- "one frame a line": the bytes of a frame are read as that frame
pub frame_back : (f : Frame) → frame_of (frame_bytes f) ≡ Ok f
unfolding frame_of frame_bytes of_three of_four
frame_back (Header s o r) = refl
frame_back (Assign s r) = refl
frame_back (Permit r o m) = refl
frame_back (Separate x y) = refl
frame_back (End h l) = refl

same_frame : (f g : Frame) (bs : List ℕ) → ◌≡◌ {A = Parsed} (Ok g) (Ok f) → frame_bytes g ≡ bs → frame_bytes f ≡ bs
same_frame f g bs e h = let i : g ≡ f = cc in ap frame_bytes (sym i) ∙ h

no_frame : {f : Frame} → ◌≡◌ {A = Parsed} (Err NoFrame) (Ok f) → ⊥
no_frame e = let z : ◌≡◌ {A = ℕ} 0 1 = cc in omega arith

kind : (k n : ℕ) (rest : List ℕ) → eqb k n ≡ true → n ∷ rest ≡ k ∷ rest
kind k n rest e = ap (λ (x : ℕ). x ∷ rest) (sym (eqb-true k n e))

three_bytes : (k a b : ℕ) (f : Frame) → of_three k a b ≡ Ok f → frame_bytes f ≡ k ∷ a ∷ b ∷ []
unfolding of_three frame_bytes
three_bytes k a b f = go (eqb k 2) (eqb k 4) (eqb k 5) refl refl refl
  where
    go : (x y z : Bool) → eqb k 2 ≡ x → eqb k 4 ≡ y → eqb k 5 ≡ z →
        cond x (Ok (Assign a b)) (cond y (Ok (Separate a b)) (cond z (Ok (End a b)) (Err NoFrame))) ≡ Ok f → frame_bytes f ≡ k ∷ a ∷ b ∷ []
    go true y z p q r e = same_frame f (Assign a b) _ e (kind k 2 _ p)
    go false true z p q r e = same_frame f (Separate a b) _ e (kind k 4 _ q)
    go false false true p q r e = same_frame f (End a b) _ e (kind k 5 _ r)
    go false false false p q r e = absurd (no_frame e)

four_bytes : (k a b c : ℕ) (f : Frame) → of_four k a b c ≡ Ok f → frame_bytes f ≡ k ∷ a ∷ b ∷ c ∷ []
unfolding of_four frame_bytes
four_bytes k a b c f = go (eqb k 1) (eqb k 3) refl refl
  where
    go : (x y : Bool) → eqb k 1 ≡ x → eqb k 3 ≡ y →
        cond x (Ok (Header a b c)) (cond y (Ok (Permit a b c)) (Err NoFrame)) ≡ Ok f → frame_bytes f ≡ k ∷ a ∷ b ∷ c ∷ []
    go true y p q e = same_frame f (Header a b c) _ e (kind k 1 _ p)
    go false true p q e = same_frame f (Permit a b c) _ e (kind k 3 _ q)
    go false false p q e = absurd (no_frame e)

-- "Bytes of a frame": bytes that `frame_of` takes for a frame are the bytes of that frame
pub frame_bytes_lem : (bs : List ℕ) (f : Frame) → frame_of bs ≡ Ok f → frame_bytes f ≡ bs
unfolding frame_of
frame_bytes_lem [] f e = absurd (no_frame e)
frame_bytes_lem (k ∷ []) f e = absurd (no_frame e)
frame_bytes_lem (k ∷ a ∷ []) f e = absurd (no_frame e)
frame_bytes_lem (k ∷ a ∷ b ∷ []) f e = three_bytes k a b f e
frame_bytes_lem (k ∷ a ∷ b ∷ c ∷ []) f e = four_bytes k a b c f e
frame_bytes_lem (k ∷ a ∷ b ∷ c ∷ d ∷ t) f e = absurd (no_frame e)

-- ---- a frame and its line
some_digits : (f : Frame) → non_empty (to_digits (frame_bytes f)) ≡ true
unfolding non_empty to_digits frame_bytes
some_digits (Header s o r) = refl
some_digits (Assign s r) = refl
some_digits (Permit r o m) = refl
some_digits (Separate x y) = refl
some_digits (End h l) = refl

pub line_written : (f : Frame) → Bytes (frame_bytes f) → parse (line (to_digits (frame_bytes f)) true) ≡ Ok f
unfolding parse sound_line
line_written f h = rw (some_digits f, bytes_pairs (frame_bytes f) h, bytes_back (frame_bytes f) h) (frame_back f)

-- a line that reads as a frame is that frame's line
pub line_read : (l : Line) (f : Frame) → parse l ≡ Ok f → (line_text l ≡ line_of (frame_bytes f)) × Bytes (frame_bytes f)
unfolding parse sound_line line_text line_of
line_read l f = go (sound_line l) refl
  where
    go : (x : Bool) → sound_line l ≡ x → cond x (frame_of (to_bytes l.bytes)) (Err NoBytes) ≡ Ok f →
        (line_text l ≡ line_of (frame_bytes f)) × Bytes (frame_bytes f)
    go true s e =
        let a = both_true (l.ended && non_empty l.bytes) (digit_pairs l.bytes) s in
        let b = both_true l.ended (non_empty l.bytes) a.0 in
        let g = frame_bytes_lem (to_bytes l.bytes) f e in
        (rw (b.0, g, digits_back l.bytes a.1), rw g (pairs_bytes l.bytes a.1))
    go false s e = let z : ◌≡◌ {A = ℕ} 0 1 = cc in absurd (omega arith)

-- ---- frames and their text
pub text_written : (fs : List Frame) → FrameBytes fs → parsed_lines (text_of fs) ≡ map Ok fs
unfolding parsed_lines text_of FrameBytes lines
text_written [] h = refl
text_written (f ∷ fs) h =
    ap (map parse) (first_line (frame_bytes f) (text_of fs))
    ∙ ap₂ (λ (p : Parsed) (ps : List Parsed). p ∷ ps) (line_written f h.0) (text_written fs h.1)

lines_read : (ls : List Line) (fs : List Frame) → map parse ls ≡ map Ok fs → (text_of fs ≡ whole ls) × FrameBytes fs
unfolding whole text_of FrameBytes
lines_read [] [] e = (refl, tt)
lines_read [] (f ∷ fs) e = let z : ◌≡◌ {A = ℕ} 0 1 = cc in absurd (omega arith)
lines_read (l ∷ ls) [] e = let z : ◌≡◌ {A = ℕ} 0 1 = cc in absurd (omega arith)
lines_read (l ∷ ls) (f ∷ fs) e =
    let here = line_read l f (cc) in
    let rest = lines_read ls fs (cc) in
    (ap₂ (λ (a b : List ℕ). a ++ b) (sym here.0) rest.0, (here.1, rest.1))

-- a text whose lines all read as frames is the text of those frames
pub text_read : (t : List ℕ) (fs : List Frame) → parsed_lines t ≡ map Ok fs → (text_of fs ≡ t) × FrameBytes fs
unfolding parsed_lines
text_read t fs e = let r = lines_read (lines t) fs e in (r.0 ∙ whole_lines t, r.1)
