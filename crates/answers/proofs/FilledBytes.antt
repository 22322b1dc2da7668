-- A row that is filled byte by byte from the front: with no byte, with one byte more, and with all.
use mathlib.Core.Path.{◌≡◌}
use mathlib.Core.List.{List}
use Prim.Native.Nat.{ℕ, ◌+◌, ◌<◌}
use native.Mathlib.Omega.{arith}
use lib.ListN.{length, get_or, set}
use lib.Seq.{get_or-set_same, get_or-set_other}
use borrow.Author.Count.{below_more}
use Rattle.answers.specs.Rows.{Row}

-- the first `filled` bytes, each as Q says of its place
pub record FilledBytes (Q : ℕ → ℕ → Type 0) (filled : ℕ) (row : List ℕ) : Type 0 where
  pub bytes : (k : ℕ) → k < filled → Q k (get_or row k 0)

pub no_bytes : (Q : ℕ → ℕ → Type 0) (row : List ℕ) → FilledBytes Q 0 row
no_bytes Q row = record { bytes = λ k h. absurd (omega arith) }

-- the next is stored
pub one_byte_more : {Q : ℕ → ℕ → Type 0} {i v : ℕ} {row : List ℕ} → FilledBytes Q i row → i < length row → Q i v → FilledBytes Q (i + 1) (set row i v)
one_byte_more {Q} {i} {v} {row} f inside this = record { bytes = below_more (λ k. Q k (get_or (set row i v) k 0)) i earlier newest }
  where
    earlier : (k : ℕ) → k < i → Q k (get_or (set row i v) k 0)
    earlier k h = rw (get_or-set_other row i k v 0 (λ e. omega arith)) (f.bytes k h)

    newest : Q i (get_or (set row i v) i 0)
    newest = rw (get_or-set_same row i v 0 inside) this

-- all bytes are those of a row
pub bytes_row : {n : ℕ} {Q : ℕ → ℕ → Type 0} {row : List ℕ} → length row ≡ n → FilledBytes Q n row → Row n Q row
bytes_row e f = record { size = e; bytes = f.bytes }
