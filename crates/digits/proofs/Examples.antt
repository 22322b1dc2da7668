-- Digits, bytes and lines, computed.
use mathlib.Core.Path.{◌≡◌, refl}
use mathlib.Core.Bool.{true, false}
use mathlib.Core.List.{[], ◌∷◌, map}
use Rattle.digits.specs.Digit.{is_digit, digit_value, digit_byte, digit_pairs, to_bytes, to_digits}
use Rattle.digits.specs.Line.{line, joined, lines, non_empty, sound_line, line_of, line_size, size_of, line_start, line_end}
use Rattle.digits.specs.Text.{codes}

-- the first and the last digit of each range, and the bytes next to them
are_digits : map is_digit (codes "09af") ≡ true ∷ true ∷ true ∷ true ∷ []
unfolding is_digit codes
are_digits = refl

are_none : map is_digit (codes "/:`gA") ≡ false ∷ false ∷ false ∷ false ∷ false ∷ []
unfolding is_digit codes
are_none = refl

values : map digit_value (codes "09af") ≡ 0 ∷ 9 ∷ 10 ∷ 15 ∷ []
unfolding digit_value codes
values = refl

digits : map digit_byte (0 ∷ 9 ∷ 10 ∷ 15 ∷ []) ≡ codes "09af"
unfolding digit_byte codes
digits = refl

-- the high digit first
bytes : to_bytes (codes "01af") ≡ 1 ∷ 175 ∷ []
unfolding to_bytes digit_value codes
bytes = refl

a_line : line_of (1 ∷ 175 ∷ []) ≡ codes "01af\n"
unfolding line_of to_digits digit_byte codes
a_line = refl

-- ---- lines
-- "An unfinished last line counts"
two_lines : lines (codes "ab\nc") ≡ line (codes "ab") true ∷ line (codes "c") false ∷ []
unfolding lines joined codes
two_lines = refl

-- a line feed at the end begins no line, an empty line counts, and a carriage return stays in its line
no_more_lines : lines (codes "ab\n") ≡ line (codes "ab") true ∷ []
unfolding lines joined codes
no_more_lines = refl

empty_lines : lines (codes "\n\nab\n") ≡ line [] true ∷ line [] true ∷ line (codes "ab") true ∷ []
unfolding lines joined codes
empty_lines = refl

with_return : lines (codes "ab\r\n") ≡ line (codes "ab\r") true ∷ []
unfolding lines joined codes
with_return = refl

-- "a byte outside 0-9 and a-f, an odd count of digits, no digits, or no line feed"
sound : map sound_line (lines (codes "01af\n01a/\n01AA\n01a\n\n01\r\n01")) ≡ true ∷ false ∷ false ∷ false ∷ false ∷ false ∷ false ∷ []
unfolding sound_line non_empty digit_pairs is_digit lines joined codes
sound = refl

-- where lines 0, 1, 2 and 3 of two lines start and end
starts : map (line_start (codes "ab\nc")) (0 ∷ 1 ∷ 2 ∷ 3 ∷ []) ≡ 4 ∷ 0 ∷ 3 ∷ 4 ∷ []
unfolding line_start size_of line_size lines joined codes
starts = refl

ends : map (line_end (codes "ab\nc")) (0 ∷ 1 ∷ 2 ∷ 3 ∷ []) ≡ 4 ∷ 2 ∷ 4 ∷ 4 ∷ []
unfolding line_end line_start size_of line_size lines joined codes
ends = refl

-- and of an empty line between two
empty_starts : map (line_start (codes "ab\n\nc\n")) (1 ∷ 2 ∷ 3 ∷ 4 ∷ []) ≡ 0 ∷ 3 ∷ 4 ∷ 6 ∷ []
unfolding line_start size_of line_size lines joined codes
empty_starts = refl

empty_ends : map (line_end (codes "ab\n\nc\n")) (1 ∷ 2 ∷ 3 ∷ 4 ∷ []) ≡ 2 ∷ 3 ∷ 5 ∷ 6 ∷ []
unfolding line_end line_start size_of line_size lines joined codes
empty_ends = refl
