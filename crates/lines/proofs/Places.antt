-- Where line number k lies: the bytes from its start to its end are its own, and a line that is not there lies at the end.
use Prim.Native.Nat.{ℕ, zero, suc, ◌+◌, ◌-◌, ◌≤◌}
use mathlib.Core.Path.{◌≡◌, ap, refl, ◌∙◌}
use mathlib.Core.Bool.{Bool, true, false, cond}
use mathlib.Core.List.{List, [], ◌∷◌, append_assoc}
use native.Mathlib.Omega.{arith}
use lib.ListN.{length, get_or, take, drop, length-append, get_or-eq_default}
use lib.Seq.{take_all, take-append_seam, drop-append-add}
use Rattle.digits.specs.Line.{line_bytes, Line, feed, no_line, lines, line_size, size_of, line_start, line_end}
use Rattle.digits.proofs.Lines.{line_text, whole, whole_lines}

text_size : (l : Line) → length (line_text l) ≡ line_size l
unfolding line_text line_size
text_size l = length-append l.bytes _ ∙ go l.ended
  where
    go : (b : Bool) → length l.bytes + length (cond b (feed ∷ []) []) ≡ length l.bytes + cond b 1 0
    go true = refl
    go false = refl

whole_size : (ls : List Line) → size_of ls ≡ length (whole ls)
unfolding size_of whole
whole_size [] = refl
whole_size (l ∷ ls) = omega (arith, text_size l, whole_size ls, length-append (line_text l) (whole ls))

-- "a part of the caller's own text": the lines with their line feeds have together as many bytes as the text
pub size_lines : (t : List ℕ) → size_of (lines t) ≡ length t
size_lines t = whole_size (lines t) ∙ ap length (whole_lines t)

-- ---- the start and the end are places of the text
ends_within : (ls : List Line) (k : ℕ) → size_of (take k ls) + length (get_or ls k no_line).bytes ≤ size_of ls
unfolding size_of line_size
ends_within [] zero = omega arith
ends_within [] (suc k) = omega arith
ends_within (l ∷ ls) zero = omega arith
ends_within (l ∷ ls) (suc k) = omega (arith, ends_within ls k)

pub end_within : (t : List ℕ) (k : ℕ) → line_end t k ≤ length t
unfolding line_end line_start
end_within t zero = omega arith
end_within t (suc k) = omega (arith, ends_within (lines t) k, size_lines t)

pub start_first : (t : List ℕ) (k : ℕ) → line_start t k ≤ line_end t k
unfolding line_end line_start
start_first t zero = omega arith
start_first t (suc k) = omega arith

-- ---- "without its line feed": the part is the bytes of the line
bytes_at : (ls : List Line) (k : ℕ) → let bytes : List ℕ = (get_or ls k no_line).bytes in take (length bytes) (drop (size_of (take k ls)) (whole ls)) ≡ bytes
unfolding size_of whole line_text
bytes_at [] zero = refl
bytes_at [] (suc k) = refl
bytes_at (l ∷ ls) zero = rw append_assoc (take-append_seam l.bytes _)
bytes_at (l ∷ ls) (suc k) = rw (← text_size l, drop-append-add) (bytes_at ls k)

-- "without its line feed", "Lines count from 1": from start to end of line number k + 1 stand the bytes of that line, or none if it is missing
pub line_bytes_lem : (t : List ℕ) (k : ℕ) → take (line_end t (suc k) - line_start t (suc k)) (drop (line_start t (suc k)) t) ≡ line_bytes t k
unfolding line_end line_start
line_bytes_lem t k =
    let start : ℕ = size_of (take k (lines t)) in
    let size : start + length (line_bytes t k) - start ≡ length (line_bytes t k) = omega arith in
    rw size (rw (whole_lines t) at (bytes_at (lines t) k))

-- "If there is no such line, the part is the empty one at the text's end"
pub line_zero : (t : List ℕ) → (line_start t 0 ≡ length t) × (line_end t 0 ≡ length t)
unfolding line_end line_start
line_zero t = (refl, refl)

-- "If there is no such line, the part is the empty one at the text's end": a number above the count of lines starts and ends there
pub line_missing : (t : List ℕ) (k : ℕ) → length (lines t) ≤ k → (line_start t (suc k) ≡ length t) × (line_end t (suc k) ≡ length t)
unfolding line_end line_start
line_missing t k h =
    let start : size_of (take k (lines t)) ≡ length t = rw (take_all k (lines t) h) (size_lines t) in
    (start, rw (start, get_or-eq_default (lines t) no_line {n = k} h) (omega arith))
