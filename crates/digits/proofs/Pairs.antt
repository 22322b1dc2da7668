-- Pairs of digits by their place in a line: for a loop over the pairs, and for the byte of a pair.
use Prim.Native.Nat.{ℕ, zero, suc, ◌+◌, ◌*◌, ◌/◌, ◌%◌, ◌≤◌, ◌<◌}
use mathlib.Core.Path.{◌≡◌, refl, sym, ◌∙◌}
use mathlib.Core.Bool.{true, false, ◌&&◌, false≢true}
use mathlib.Core.List.{List, [], ◌∷◌}
use native.Mathlib.Numerals.{add-one, add-two}
use native.Mathlib.Omega.{arith}
use lib.ListN.{length, get_or, drop, drop_of_length-le}
use lib.Seq.{drop-cons}
use Rattle.std.specs.List.{list_all}
use Rattle.std.proofs.Math.Bool.{and_assoc, and-false}
use Rattle.digits.specs.Digit.{is_digit, digit_pairs, to_bytes}
use Rattle.digits.specs.Inner.{DigitsAt, byte_at}
use Rattle.digits.proofs.Digits.{both_true, pair}

-- the pair at i, and the pairs after it
pairs_at : (l : List ℕ) (i : ℕ) → suc i < length l → digit_pairs (drop i l) ≡ is_digit (get_or l i 0) && is_digit (get_or l (i + 1) 0) && digit_pairs (drop (i + 2) l)
unfolding digit_pairs
pairs_at l i h = rw (drop-cons l i 0 (omega arith), drop-cons l (suc i) 0 h, add-one, add-two)

-- ---- a line as a loop passes it: an even count of bytes, and all of them digits
pub pairs_even : (l : List ℕ) → length l % 2 ≡ 0 → digit_pairs l ≡ list_all is_digit l
unfolding digit_pairs
pairs_even [] e = refl
pairs_even (a ∷ []) e = absurd (omega arith)
pairs_even (a ∷ b ∷ t) e = rw (pairs_even t (omega arith)) (and_assoc (is_digit a) (is_digit b) (list_all is_digit t))

pub pairs_odd : (l : List ℕ) → (length l % 2 ≡ 0 → ⊥) → digit_pairs l ≡ false
unfolding digit_pairs
pairs_odd [] e = absurd (e refl)
pairs_odd (a ∷ []) e = refl
pairs_odd (a ∷ b ∷ t) e = rw (pairs_odd t (λ h. e (omega arith))) (and-false (is_digit a && is_digit b))

-- ---- the digits and the byte of pair number n of a line of pairs
pairs_split : (l : List ℕ) (i : ℕ) → digit_pairs (drop i l) ≡ true → suc i < length l → (DigitsAt l i) × (digit_pairs (drop (i + 2) l) ≡ true)
pairs_split l i e h =
    let x = both_true (is_digit (get_or l i 0) && is_digit (get_or l (i + 1) 0)) (digit_pairs (drop (i + 2) l)) (sym (pairs_at l i h) ∙ e) in
    let y = both_true (is_digit (get_or l i 0)) (is_digit (get_or l (i + 1) 0)) x.0 in
    (record { within = omega arith; high = y.0; low = y.1 }, x.1)

pairs_after : (n : ℕ) (l : List ℕ) → digit_pairs l ≡ true → n + n ≤ length l → digit_pairs (drop (n + n) l) ≡ true
pairs_after zero l e h = e
pairs_after (suc n) l e h =
    let i : suc n + suc n ≡ n + n + 2 = omega arith in
    rw i (pairs_split l (n + n) (pairs_after n l e (omega arith)) (omega arith)).1

pub digits_at : (l : List ℕ) (i : ℕ) → digit_pairs l ≡ true → i % 2 ≡ 0 → i + 1 < length l → DigitsAt l i
digits_at l i e even h =
    let n : ℕ = i / 2 in
    let twice : i ≡ n + n = omega arith in
    rw twice (pairs_split l (n + n) (pairs_after n l e (omega arith)) (omega arith)).0

pub bytes_at : (l : List ℕ) (i : ℕ) → suc i < length l → to_bytes (drop i l) ≡ byte_at l i ∷ to_bytes (drop (i + 2) l)
unfolding to_bytes byte_at
bytes_at l i h = rw (drop-cons l i 0 (omega arith), drop-cons l (suc i) 0 h, add-one, add-two)

pub bytes_none : (l : List ℕ) (i : ℕ) → length l ≤ i → to_bytes (drop i l) ≡ []
unfolding to_bytes
bytes_none l i h = rw (drop_of_length-le l {i = i} h)

-- two digits to a byte
pub bytes_count : (l : List ℕ) → digit_pairs l ≡ true → 2 * length (to_bytes l) ≡ length l
unfolding to_bytes digit_pairs
bytes_count [] e = refl
bytes_count (a ∷ []) e = absurd (false≢true e)
bytes_count (a ∷ b ∷ t) e = omega (arith, bytes_count t (pair a b t e).2)
