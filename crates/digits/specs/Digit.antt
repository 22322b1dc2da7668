-- A digit of lowercase hexadecimal, as a byte of the text: 0-9 are the bytes 48 to 57, a-f are 97 to 102.
use Rattle.std.specs.Prelude.{ℕ, ◌+◌, ◌*◌, ◌-◌, ◌/◌, ◌%◌, Bool, true, false, cond, ◌&&◌, ◌||◌, List, [], ◌∷◌, leb, ltb}

-- "a byte outside 0-9 and a-f" is no digit
unfoldable pub is_digit : ℕ → Bool
is_digit b = (leb 48 b && leb b 57) || (leb 97 b && leb b 102)

-- the value of a byte that is a digit
unfoldable pub digit_value : ℕ → ℕ
digit_value b = cond (leb b 57) (b - 48) (b - 87)

-- the digit of a value below 16
unfoldable pub digit_byte : ℕ → ℕ
digit_byte v = cond (ltb v 10) (48 + v) (87 + v)

-- "lowercase hexadecimal": digits only, and no odd count of them
unfoldable pub digit_pairs : List ℕ → Bool
digit_pairs [] = true
digit_pairs (a ∷ []) = false
digit_pairs (a ∷ b ∷ t) = is_digit a && is_digit b && digit_pairs t

-- the bytes that pairs of digits stand for, the high digit first
unfoldable pub to_bytes : List ℕ → List ℕ
to_bytes [] = []
to_bytes (a ∷ []) = []
to_bytes (a ∷ b ∷ t) = (digit_value a * 16 + digit_value b) ∷ to_bytes t

-- the digits of bytes
unfoldable pub to_digits : List ℕ → List ℕ
to_digits [] = []
to_digits (b ∷ t) = digit_byte (b / 16) ∷ digit_byte (b % 16) ∷ to_digits t
