-- A label that is written byte by byte, and its size.
use Prim.Native.Nat.{ℕ, ◌+◌, ◌≤◌, ◌<◌}
use mathlib.Core.Path.{◌≡◌, refl, ap, ◌∙◌}
use mathlib.Core.Bool.{cond}
use mathlib.Core.List.{List, ◌++◌}
use native.Mathlib.Omega.{arith}
use lib.Dec.{eqb}
use lib.ListN.{length, set, take, drop}
use lib.Seq.{length-take-le}
use Rattle.std.proofs.lemmas.List.{take_more_set, take_all}
use Rattle.answers.specs.Call.{told}
use Rattle.answers.specs.Rows.{Bytes, Mark, one, none, count, over}
use Rattle.answers.proofs.Written.{count_more, count_within}
use Rattle.answers.proofs.FilledBytes.{FilledBytes, no_bytes, one_byte_more, bytes_row}
use Rattle.theory.specs.Order.{InLabel}
use Rattle.labels.specs.Labelled.{Labelled}

marked_count : {P : Type 0} {b : ℕ} → Mark P b → cond (eqb b 1) 1 0 ≡ b
marked_count (one e p) = rw e
marked_count (none e p) = rw e

module _ (n : ℕ) (table : List ℕ) (x : ℕ) where
  -- the bytes of the entities below y are written, and size says how many of them are 1
  pub record LabelTo (y size : ℕ) (row : List ℕ) : Type 0 where
    pub marks : FilledBytes (λ z byte. Mark (InLabel (Bytes n table) x z) byte) y row
    pub counted : size ≡ count 1 (take y row)

  pub label_none : (row : List ℕ) → LabelTo 0 0 row
  unfolding count
  label_none row = record { marks = no_bytes _ row; counted = refl }

  module _ (y size : ℕ) (row : List ℕ) (l : LabelTo y size row) where
    pub label_few : y ≤ length row → size ≤ y
    label_few h = omega (arith, l.counted, count_within 1 (take y row), length-take-le y row h)

    pub label_more : (b : ℕ) → y < length row → Mark (Bytes n table y x) b → LabelTo (y + 1) (size + b) (set row y b)
    label_more b h m = record { marks = one_byte_more l.marks h m; counted = rw (take_more_set, count_more, ← l.counted, marked_count m) }

  pub label_done : (size : ℕ) (row before : List ℕ) → length row ≡ n → LabelTo n size row → Labelled n table x before (told 0 size, row ++ drop n before)
  unfolding over
  label_done size row before long l =
      let size_is : size ≡ count 1 row = l.counted ∙ ap (count 1) (take_all n row (omega arith)) in
      record { row = row; label = bytes_row long l.marks; written = rw (size_is, long) }
