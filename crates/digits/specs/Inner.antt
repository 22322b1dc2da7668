-- What functions that read or write a text tell each other. No promise: it only ties functions together.
use Rattle.std.specs.Prelude.{ℕ, ◌+◌, ◌*◌, ◌<◌, ◌≡◌, true, cond, Option, Some, None, List, length, get_or}
use Rattle.std.proofs.lemmas.List.Edits.{sets}
use Rattle.digits.specs.Digit.{is_digit, digit_value}

-- a byte of the text, read as a digit
unfoldable pub digit_of : ℕ → Option ℕ
digit_of b = cond (is_digit b) (Some (digit_value b)) None

-- two digits stand at i
pub record DigitsAt (line : List ℕ) (i : ℕ) : Type 0 where
  pub within : i + 1 < length line
  pub high : is_digit (get_or line i 0) ≡ true
  pub low : is_digit (get_or line (i + 1) 0) ≡ true

-- the byte that they stand for
unfoldable pub byte_at : List ℕ → ℕ → ℕ
byte_at line i = digit_value (get_or line i 0) * 16 + digit_value (get_or line (i + 1) 0)

-- bytes are written at a place of the text, and the next place is past them
pub record Put (bytes : List ℕ) (at : ℕ) (before : List ℕ) (next : ℕ) (after : List ℕ) : Type 0 where
  pub place : next ≡ at + length bytes
  pub text : after ≡ sets before at bytes
