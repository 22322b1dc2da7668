-- Bytes written one after another: what was written first and then more is written as one.
use Prim.Native.Nat.{ℕ, suc, ◌+◌, ◌*◌, ◌≤◌, ◌<◌}
use mathlib.Core.Path.{◌≡◌, refl, sym, ap, ◌∙◌}
use mathlib.Core.List.{List, [], ◌∷◌, ◌++◌, append_assoc}
use native.Mathlib.Nat.{add-zero, zero-add, suc-add, add-suc}
use native.Mathlib.Numerals.{add-one}
use native.Mathlib.Omega.{arith}
use lib.ListN.{length, get_or, take, set, length-append}
use lib.Seq.{sets, length-sets, sets-eq, take-suc}
use Rattle.answers.specs.Rows.{over}
use Rattle.digits.specs.Digit.{to_digits}
use Rattle.digits.specs.Line.{feed, line_of}
use Rattle.digits.specs.Inner.{Put}

-- ---- any bytes
pub sets_append : (l : List ℕ) (i : ℕ) (a b : List ℕ) → sets l i (a ++ b) ≡ sets (sets l i a) (i + length a) b
sets_append l i [] b = rw add-zero
sets_append l i (x ∷ a) b = sets_append (set l i x) (suc i) a b ∙ rw (suc-add, add-suc)

-- nothing
pub put_none : (at : ℕ) (text : List ℕ) → Put [] at text at text
put_none at text = record { place = omega arith; text = refl }

module _ {bytes : List ℕ} {at : ℕ} {before : List ℕ} {next : ℕ} {after : List ℕ} (p : Put bytes at before next after) where
  -- the text keeps its length
  pub put_long : length after ≡ length before
  put_long = ap length p.text ∙ length-sets before at bytes

  -- and then more
  pub put_then : {more : List ℕ} {last : ℕ} {end : List ℕ} → Put more next after last end → Put (bytes ++ more) at before last end
  put_then {more} {last} {end} q =
      record {
        place = omega (arith, p.place, q.place, length-append bytes more);
        text = q.text ∙ rw (p.text, p.place) (sym (sets_append before at bytes more));
      }

-- ---- digits of bytes
pub digits_append : (a b : List ℕ) → to_digits (a ++ b) ≡ to_digits a ++ to_digits b
unfolding to_digits
digits_append [] b = refl
digits_append (x ∷ a) b = rw (digits_append a b)

pub digits_long : (bytes : List ℕ) → length (to_digits bytes) ≡ 2 * length bytes
unfolding to_digits
digits_long [] = refl
digits_long (b ∷ bytes) = omega (arith, digits_long bytes)

pub line_long : (bytes : List ℕ) → length (line_of bytes) ≡ 2 * length bytes + 1
unfolding line_of
line_long bytes = omega (arith, length-append (to_digits bytes) (feed ∷ []), digits_long bytes)

-- digits and then a line are one line
line_append : (a b : List ℕ) → line_of (a ++ b) ≡ to_digits a ++ line_of b
unfolding line_of
line_append a b = rw (digits_append a b, append_assoc)

pub line_then : (a b : List ℕ) {at : ℕ} {before : List ℕ} {mid : ℕ} {text : List ℕ} {next : ℕ} {after : List ℕ} → Put (to_digits a) at before mid text →
    Put (line_of b) mid text next after → Put (line_of (a ++ b)) at before next after
line_then a b p q = rw (line_append a b) (put_then p q)

-- ---- the digits of the first k of some bytes
module _ (bytes : List ℕ) (at : ℕ) (before : List ℕ) where
  pub digits_none : Put (to_digits (take 0 bytes)) at before (at + 2 * 0) before
  unfolding to_digits
  digits_none = rw add-zero (put_none at before)

  pub digits_more : (k : ℕ) (text after : List ℕ) → k < length bytes → Put (to_digits (take k bytes)) at before (at + 2 * k) text →
      after ≡ sets text (at + 2 * k) (to_digits (get_or bytes k 0 ∷ [])) → Put (to_digits (take (k + 1) bytes)) at before (at + 2 * (k + 1)) after
  unfolding to_digits
  digits_more k text after h p e =
      rw (add-one k, take-suc bytes k 0 h, digits_append (take k bytes) (get_or bytes k 0 ∷ []))
      (put_then p (record { place = omega arith; text = e }))

  -- a line feed ends them
  pub line_ended : (next : ℕ) (text : List ℕ) → Put (to_digits bytes) at before next text → Put (line_of bytes) at before (next + 1) (set text next feed)
  unfolding line_of
  line_ended next text p = put_then p (record { place = refl; text = refl })

-- ---- at the start of a buffer
pub put_over : {bytes before : List ℕ} {next : ℕ} {after : List ℕ} → length bytes ≤ length before → Put bytes 0 before next after →
    (next ≡ length bytes) × (after ≡ over bytes before)
unfolding over
put_over {bytes} {before} fits p = (omega (arith, p.place), p.text ∙ sets-eq bytes before 0 (omega arith) ∙ rw zero-add)
