-- The key of the line that a byte of a table has: it ascends with the byte's index, and leads back to it.
use Prim.Native.Nat.{ℕ, suc, ◌+◌, ◌*◌, ◌/◌, ◌%◌, ◌≤◌, ◌<◌}
use mathlib.Core.Path.{◌≡◌, ap}
use mathlib.Core.Logic.{⊎_elim}
use native.Mathlib.Nat.{suc-mul, mul-zero, mul-le-mul_right, mod-lt, div-lt_iff_lt-mul, div-add-mod', eq-or-lt_of_le, eq-zero-or-pos, le_of_eq}
use native.Mathlib.Decide.{dec_lt}
use native.Mathlib.Omega.{arith}
use lib.Arith.{digits_div, digits_mod}
use Rattle.tables.specs.Sheet.{pair_key}

-- "by first byte, then by the two bytes after it"
abbrev pub line_key : ℕ → ℕ → ℕ → ℕ
line_key kind a b = kind * 65536 + pair_key a b

-- of the byte at index i in a table of rows of w bytes
unfoldable pub place : ℕ → ℕ → ℕ → ℕ
place kind w i = line_key kind (i / w) (i % w)

-- a byte of a table stands in one of its rows
pub row_wide : (i rows w : ℕ) → i < rows * w → 0 < w
row_wide i rows w h = ⊎_elim (λ (e : w ≡ 0). absurd (omega (arith, mul-zero rows, ap (λ (x : ℕ). rows * x) e))) (λ (p : 0 < w). p) (eq-zero-or-pos w)

pub in_row : (i rows w : ℕ) → i < rows * w → (i / w < rows) × (i % w < w)
in_row i rows w h = ((div-lt_iff_lt-mul (row_wide i rows w h)).1 h, mod-lt i (row_wide i rows w h))

-- the larger index has the larger row, or the same and the larger place in it
rows_ascend : (kind w q r p s : ℕ) → w ≤ 256 → r < w → s < w → q * w + r < p * w + s → line_key kind q r < line_key kind p s
rows_ascend kind w q r p s fit hr hs h =
    elim (dec_lt q p) [
      | yes lt ↦ omega arith
      | no ge ↦ elim (dec_lt p q) [ yes gt ↦ absurd (omega (arith, suc-mul p w, mul-le-mul_right w gt)) | no le ↦ same (omega arith) ]
    ]
  where
    same : q ≡ p → line_key kind q r < line_key kind p s
    same e = let u : q * w ≡ p * w = ap (λ (x : ℕ). x * w) e in omega arith

pub place_lt : (kind w i j : ℕ) → 0 < w → w ≤ 256 → i < j → place kind w i < place kind w j
unfolding place
place_lt kind w i j pos fit h =
    rows_ascend kind w (i / w) (i % w) (j / w) (j % w) fit (mod-lt i pos) (mod-lt j pos) (omega (arith, div-add-mod' i w, div-add-mod' j w))

pub place_le : (kind w i j : ℕ) → 0 < w → w ≤ 256 → i ≤ j → place kind w i ≤ place kind w j
place_le kind w i j pos fit h =
    ⊎_elim (λ (e : i ≡ j). le_of_eq (ap (place kind w) e))
    (λ (lt : i < j). let l : place kind w i < place kind w j = place_lt kind w i j pos fit lt in omega arith)
    (eq-or-lt_of_le h)

pub place_at : (kind w a b : ℕ) → b < w → place kind w (a * w + b) ≡ line_key kind a b
unfolding place
place_at kind w a b h = simp (digits_div a h, digits_mod a h)

-- the lines of a table stand between the least key of their kind and that of the next
pub place_low : (kind w i : ℕ) → line_key kind 0 0 ≤ place kind w i
unfolding place
place_low kind w i = omega arith

pub place_high : (kind rows w i : ℕ) → i < rows * w → rows ≤ 256 → w ≤ 256 → place kind w i < line_key (suc kind) 0 0
unfolding place
place_high kind rows w i h short fit = omega (arith, in_row i rows w h)
