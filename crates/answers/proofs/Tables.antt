-- Laws of tables that stand in front of what a buffer held: where a row lies, what its bytes are, and how a table is filled row by
-- row, each row in its own part of the buffer, which is lent on and comes back (`put_mid`).
use mathlib.Core.Path.{◌≡◌, refl, sym, ◌∙◌}
use mathlib.Core.List.{List, [], ◌++◌, append_assoc}
use Prim.Native.Nat.{ℕ, ◌+◌, ◌-◌, ◌*◌, ◌≤◌, ◌<◌}
use native.Mathlib.Nat.{mul-le-mul_right, zero-mul}
use native.Mathlib.Omega.{arith}
use lib.ListN.{length, drop, get_or, length-append, get_or-append}
use lib.Seq.{take_at, drop_at, drop-drop, get_or-append-add, get_or-drop}
use borrow.Author.Count.{below_more}
use borrow.Rule.Slice.PartMut.{put_mid}
use Rattle.answers.specs.Rows.{at, Mark, Row, Marked, Filled, over}
use Rattle.answers.proofs.Products.{place_below}

-- the row of i ends within what the table is within
pub row_within : (i m n l : ℕ) → i < m → m * n ≤ l → i * n + n ≤ l
row_within i m n l p h = omega (arith, mul-le-mul_right n p)

-- a byte of the table is the buffer's byte at its place
pub at_over : {n x y : ℕ} (table buffer : List ℕ) → length table ≡ n * n → x < n → y < n → at (over table buffer) n x y ≡ at table n x y
unfolding over
at_over {n} {x} {y} table buffer e h l =
    get_or-append table (drop (length table) buffer) 0 (x * n + y) (place_below x y n n (length table) h l (omega arith))

over_past : (used buffer : List ℕ) (k : ℕ) → get_or (over used buffer) (length used + k) 0 ≡ get_or buffer (length used + k) 0
unfolding over
over_past used buffer k = get_or-append-add used (drop (length used) buffer) k 0 ∙ get_or-drop (length used) buffer k 0

-- "Bytes past the used part are neither judged nor altered": past a table of n rows the buffer is as it was
pub past_the_table : {n : ℕ} {R : ℕ → ℕ → Type 0} {before after : List ℕ} → Filled n R before after → (k : ℕ) → n * n ≤ k →
    get_or after k 0 ≡ get_or before k 0
past_the_table {before = before} f k h =
    let place : length f.table + (k - length f.table) ≡ k = omega (arith, f.marked.size) in
    rw f.written (rw place at (over_past f.table before (k - length f.table)))

-- ---- row by row
-- the first `filled` rows of n bytes, each byte as Q says of its row and place, in front of what the buffer held behind them
pub record FilledRows (n : ℕ) (Q : ℕ → ℕ → ℕ → Type 0) (filled : ℕ) (before after : List ℕ) : Type 0 where
  pub rows : List ℕ
  pub size : length rows ≡ filled * n
  pub bytes : (x : ℕ) → x < filled → (y : ℕ) → y < n → Q x y (at rows n x y)
  pub written : after ≡ over rows before

pub no_rows : (n : ℕ) (Q : ℕ → ℕ → ℕ → Type 0) (before : List ℕ) → FilledRows n Q 0 before before
unfolding over
no_rows n Q before = record { rows = []; size = sym (zero-mul n); bytes = λ x h. absurd (omega arith); written = refl }

module _ {n x : ℕ} {Q : ℕ → ℕ → ℕ → Type 0} {before after part : List ℕ} (f : FilledRows n Q x before after) (r : Row n (Q x) part) where
  -- the rows with one more behind them
  longer : List ℕ
  longer = f.rows ++ part

  longer_size : length longer ≡ x * n + n
  unfolding longer
  longer_size = length-append f.rows part ∙ omega (arith, f.size, r.size)

  earlier_rows : (a : ℕ) → a < x → (y : ℕ) → y < n → Q a y (at longer n a y)
  unfolding longer
  earlier_rows a h y l =
      let inside : a * n + y < length f.rows = omega (arith, f.size, row_within a x n (x * n) h (omega arith)) in
      rw (get_or-append f.rows part 0 (a * n + y) inside) (f.bytes a h y l)

  this_row : (y : ℕ) → y < n → Q x y (at longer n x y)
  unfolding longer
  this_row y l = rw (← f.size, get_or-append-add) (r.bytes y l)

  put_written : put_mid (x * n) (x * n + n - x * n) after part ≡ over longer before
  unfolding over longer
  put_written =
      let width : x * n + n - x * n ≡ n = omega arith in
      let front = take_at f.rows (drop (x * n) before) (x * n) f.size in
      let behind = drop_at f.rows (drop (x * n) before) (x * n) f.size in
      rw (width, f.written, f.size, front, behind, drop-drop, append_assoc, longer_size)

  -- the part of row x, of as many bytes as a row has, is back
  pub one_row_more : FilledRows n Q (x + 1) before (put_mid (x * n) (x * n + n - x * n) after part)
  unfolding longer
  one_row_more =
      record {
        rows = longer;
        size = longer_size ∙ omega arith;
        bytes = below_more (λ a. (y : ℕ) → y < n → Q a y (at longer n a y)) x earlier_rows this_row;
        written = put_written;
      }

-- all rows are those of a table whose bytes mark a relation
pub rows_marked : {n : ℕ} {R : ℕ → ℕ → Type 0} {before after : List ℕ} (f : FilledRows n (λ x y byte. Mark (R x y) byte) n before after) →
    Marked n R f.rows
rows_marked f = record { size = f.size; bytes = λ x y h l. f.bytes x h y l }
