-- A digit and its value, and digits and the bytes that they stand for, there and back.
use Prim.Native.Nat.{ℕ, ◌+◌, ◌-◌, ◌/◌, ◌%◌, ◌≤◌, ◌<◌}
use mathlib.Core.Path.{◌≡◌, ap₂, refl, ◌∙◌}
use mathlib.Core.Bool.{Bool, true, false, ◌&&◌, ◌||◌, false≢true}
use mathlib.Core.List.{List, [], ◌∷◌}
use mathlib.Core.Logic.{◌⊎◌, inl, inr, ⊎_elim}
use native.Mathlib.Omega.{arith}
use native.Mathlib.Nat.{div-add-mod'}
use native.Mathlib.Decide.{dec_lt}
use lib.Arith.{digits_div, digits_mod}
use lib.Dec.{leb}
use borrow.Author.Tests.{leb-true, le-leb, lt-leb, lt-ltb, le-ltb}
use Rattle.digits.specs.Digit.{is_digit, digit_value, digit_byte, digit_pairs, to_bytes, to_digits}

-- every number is a byte
unfoldable pub Bytes : List ℕ → Type 0
Bytes [] = Unit {0}
Bytes (b ∷ t) = (b < 256) × Bytes t

pub both_true : (a b : Bool) → a && b ≡ true → (a ≡ true) × (b ≡ true)
both_true true b e = (refl, e)
both_true false b e = absurd (false≢true e)

one_true : (a b : Bool) → a || b ≡ true → (a ≡ true) ⊎ (b ≡ true)
one_true true b e = inl refl
one_true false b e = inr e

between : (lo b hi : ℕ) → leb lo b && leb b hi ≡ true → (lo ≤ b) × (b ≤ hi)
between lo b hi e = let x = both_true (leb lo b) (leb b hi) e in (leb-true lo b x.0, leb-true b hi x.1)

-- ---- digits one by one
-- "0-9 and a-f": a digit is in one of two ranges
pub ranges : (b : ℕ) → is_digit b ≡ true → ((48 ≤ b) × (b ≤ 57)) ⊎ ((97 ≤ b) × (b ≤ 102))
unfolding is_digit
ranges b e =
    ⊎_elim (λ (l : leb 48 b && leb b 57 ≡ true). inl (between 48 b 57 l)) (λ (r : leb 97 b && leb b 102 ≡ true). inr (between 97 b 102 r))
    (one_true (leb 48 b && leb b 57) (leb 97 b && leb b 102) e)

pub in_ranges : (b : ℕ) → ((48 ≤ b) × (b ≤ 57)) ⊎ ((97 ≤ b) × (b ≤ 102)) → is_digit b ≡ true
unfolding is_digit
in_ranges b (inl d) = simp (le-leb 48 b d.0, le-leb b 57 d.1)
in_ranges b (inr l) = simp (le-leb 48 b (omega arith), lt-leb b 57 (omega arith), le-leb 97 b l.0, le-leb b 102 l.1)

pub value_decimal : (b : ℕ) → b ≤ 57 → digit_value b ≡ b - 48
unfolding digit_value
value_decimal b h = rw (le-leb b 57 h)

pub value_letter : (b : ℕ) → 57 < b → digit_value b ≡ b - 87
unfolding digit_value
value_letter b h = rw (lt-leb b 57 h)

pub byte_decimal : (v : ℕ) → v < 10 → digit_byte v ≡ 48 + v
unfolding digit_byte
byte_decimal v h = rw (lt-ltb v 10 h)

pub byte_letter : (v : ℕ) → 10 ≤ v → digit_byte v ≡ 87 + v
unfolding digit_byte
byte_letter v h = rw (le-ltb v 10 h)

pub value_low : (b : ℕ) → is_digit b ≡ true → digit_value b < 16
value_low b e =
    ⊎_elim (λ (d : (48 ≤ b) × (b ≤ 57)). omega (arith, value_decimal b d.1))
    (λ (l : (97 ≤ b) × (b ≤ 102)). omega (arith, value_letter b (omega arith)))
    (ranges b e)

pub byte_of_value : (b : ℕ) → is_digit b ≡ true → digit_byte (digit_value b) ≡ b
byte_of_value b e =
    ⊎_elim
    (λ (d : (48 ≤ b) × (b ≤ 57)). rw (value_decimal b d.1) (byte_decimal (b - 48) (omega arith) ∙ omega arith))
    (λ (l : (97 ≤ b) × (b ≤ 102)). rw (value_letter b (omega arith)) (byte_letter (b - 87) (omega arith) ∙ omega arith))
    (ranges b e)

pub value_of_byte : (v : ℕ) → v < 16 → digit_value (digit_byte v) ≡ v
value_of_byte v h =
    elim (dec_lt v 10) [
      | yes d ↦ rw (byte_decimal v d) (value_decimal (48 + v) (omega arith) ∙ omega arith)
      | no l ↦ rw (byte_letter v (omega arith)) (value_letter (87 + v) (omega arith) ∙ omega arith)
    ]

pub byte_digit : (v : ℕ) → v < 16 → is_digit (digit_byte v) ≡ true
byte_digit v h =
    elim (dec_lt v 10) [
      | yes d ↦ rw (byte_decimal v d) (in_ranges (48 + v) (inl (omega arith)))
      | no l ↦ rw (byte_letter v (omega arith)) (in_ranges (87 + v) (inr (omega arith)))
    ]

-- ---- digits and bytes
-- the two digits at the head, and the rest
pub pair : (a b : ℕ) (t : List ℕ) → digit_pairs (a ∷ b ∷ t) ≡ true → (is_digit a ≡ true) × (is_digit b ≡ true) × (digit_pairs t ≡ true)
unfolding digit_pairs
pair a b t e =
    let x = both_true (is_digit a && is_digit b) (digit_pairs t) e in
    let y = both_true (is_digit a) (is_digit b) x.0 in
    (y.0, y.1, x.1)

-- "lowercase hexadecimal": an even count of digits 0-9 and a-f, read as bytes and written again, is the same digits
pub digits_back : (ds : List ℕ) → digit_pairs ds ≡ true → to_digits (to_bytes ds) ≡ ds
unfolding to_digits to_bytes digit_pairs
digits_back [] e = refl
digits_back (a ∷ []) e = absurd (false≢true e)
digits_back (a ∷ b ∷ t) e =
    let x = pair a b t e in
    let low : digit_value b < 16 = value_low b x.1 in
    rw (digits_div (digit_value a) low, digits_mod (digit_value a) low, byte_of_value a x.0, byte_of_value b x.1, digits_back t x.2)

-- "lowercase hexadecimal": bytes written as two digits each and read again are the same bytes
pub bytes_back : (bs : List ℕ) → Bytes bs → to_bytes (to_digits bs) ≡ bs
unfolding to_digits to_bytes Bytes
bytes_back [] h = refl
bytes_back (b ∷ t) h =
    ap₂ (λ (x : ℕ) (l : List ℕ). x ∷ l)
    (rw (value_of_byte (b / 16) (omega arith), value_of_byte (b % 16) (omega arith)) (div-add-mod' b 16))
    (bytes_back t h.1)

-- what pairs of digits stand for are bytes
pub pairs_bytes : (ds : List ℕ) → digit_pairs ds ≡ true → Bytes (to_bytes ds)
unfolding to_bytes digit_pairs Bytes
pairs_bytes [] e = tt
pairs_bytes (a ∷ []) e = absurd (false≢true e)
pairs_bytes (a ∷ b ∷ t) e = let x = pair a b t e in (omega (arith, value_low a x.0, value_low b x.1), pairs_bytes t x.2)

-- and the digits of bytes are pairs of digits
pub bytes_pairs : (bs : List ℕ) → Bytes bs → digit_pairs (to_digits bs) ≡ true
unfolding to_digits digit_pairs Bytes
bytes_pairs [] h = refl
bytes_pairs (b ∷ t) h = rw (byte_digit (b / 16) (omega arith), byte_digit (b % 16) (omega arith)) (bytes_pairs t h.1)
