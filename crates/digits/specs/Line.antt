-- The lines of a text, and where each lies.
use Rattle.std.specs.Prelude.{ℕ, zero, suc, ◌+◌, Bool, true, false, cond, ◌&&◌, List, [], ◌∷◌, ◌++◌, eqb, length, get_or, take}
use Rattle.digits.specs.Digit.{digit_pairs, to_digits}

-- the byte that ends a line
abbrev pub feed : ℕ
feed = 10

-- "each ended by one line feed": what stands before it, and whether it is there; "An unfinished last line counts"
pub record Line : Type 0 where
  pub bytes : List ℕ
  pub ended : Bool

-- a line of these bytes
abbrev pub line : List ℕ → Bool → Line
line bytes ended = record { bytes = bytes; ended = ended }

-- one byte in front of a text's first line
unfoldable pub joined : ℕ → List Line → List Line
joined b [] = line (b ∷ []) false ∷ []
joined b (l ∷ ls) = line (b ∷ l.bytes) l.ended ∷ ls

-- "Lines of lowercase hexadecimal, one frame a line": the lines of a text
unfoldable pub lines : List ℕ → List Line
lines [] = []
lines (b ∷ t) = cond (eqb b feed) (line [] true ∷ lines t) (joined b (lines t))

-- not "no digits"
unfoldable pub non_empty : List ℕ → Bool
non_empty [] = false
non_empty (a ∷ t) = true

-- "2 | a line has a byte outside 0-9 and a-f, an odd count of digits, no digits, or no line feed": it has none of these
unfoldable pub sound_line : Line → Bool
sound_line l = l.ended && non_empty l.bytes && digit_pairs l.bytes

-- "Each line is lowercase hexadecimal and a line feed": the line of some bytes
unfoldable pub line_of : List ℕ → List ℕ
line_of bytes = to_digits bytes ++ (feed ∷ [])

-- ---- where line number k lies: "Lines count from 1"
-- how many bytes of the text a line has, with its line feed
unfoldable pub line_size : Line → ℕ
line_size l = length l.bytes + cond l.ended 1 0

-- how many bytes lines have together
unfoldable pub size_of : List Line → ℕ
size_of [] = 0
size_of (l ∷ ls) = line_size l + size_of ls

-- "If there is no such line, the part is the empty one at the text's end"
unfoldable pub line_start : List ℕ → ℕ → ℕ
line_start t zero = length t
line_start t (suc k) = size_of (take k (lines t))

-- what stands where there is no such line
abbrev pub no_line : Line
no_line = line [] false

-- "without its line feed"
unfoldable pub line_end : List ℕ → ℕ → ℕ
line_end t zero = length t
line_end t (suc k) = line_start t (suc k) + length (get_or (lines t) k no_line).bytes

-- "that line .., without its line feed": the bytes of line number k + 1; none where there is no such line
abbrev pub line_bytes : List ℕ → ℕ → List ℕ
line_bytes t k = (get_or (lines t) k no_line).bytes
