-- Bytes in rows and tables.
use Rattle.std.specs.Prelude.{◌≡◌, Bool, false, ◌||◌, cond, List, [], ◌∷◌, ◌++◌, ℕ, zero, suc, ◌+◌, ◌*◌, ◌<◌, ltb, eqb, length, get_or, drop}

-- "at s x R + r", "at r x O + o", "at x x N + y": the byte in row i at place j of a table whose rows have n bytes
abbrev pub at : List ℕ → ℕ → ℕ → ℕ → ℕ
at table n i j = get_or table (i * n + j) 0

-- "bytes, 0 or 1": the byte is 1 and P holds, or it is 0 and P does not hold
pub data Mark (P : Type 0) (byte : ℕ) : Type 0 where
  one : byte ≡ 1 → P → Mark P byte
  none : byte ≡ 0 → (P → ⊥) → Mark P byte

-- n bytes, of which each is as Q says of its place
pub record Row (n : ℕ) (Q : ℕ → ℕ → Type 0) (row : List ℕ) : Type 0 where
  pub size : length row ≡ n
  pub bytes : (k : ℕ) → k < n → Q k (get_or row k 0)

-- "N x N bytes, 0 or 1, at x x N + y": the byte marks whether R holds from x to y
pub record Marked (n : ℕ) (R : ℕ → ℕ → Type 0) (table : List ℕ) : Type 0 where
  pub size : length table ≡ n * n
  pub bytes : (x y : ℕ) → x < n → y < n → Mark (R x y) (at table n x y)

-- the relation that the bytes of a table of n rows give: x to y where the byte is 1
pub record Bytes (n : ℕ) (table : List ℕ) (x y : ℕ) : Type 0 where
  pub source : x < n
  pub target : y < n
  pub byte : at table n x y ≡ 1

-- "Bytes past the used part are neither judged nor altered": the used part, and behind it what the buffer held there
unfoldable pub over : List ℕ → List ℕ → List ℕ
over used buffer = used ++ drop (length used) buffer

-- "Bytes past the used part are neither judged nor altered": two buffers of one length that differ past their first n bytes at most
pub record SameUsed (n : ℕ) (buffer buffer' : List ℕ) : Type 0 where
  pub same_length : length buffer ≡ length buffer'
  pub same_bytes : (k : ℕ) → k < n → get_or buffer k 0 ≡ get_or buffer' k 0

-- a table of n rows that marks R, in front of what the buffer held behind it
pub record Filled (n : ℕ) (R : ℕ → ℕ → Type 0) (before after : List ℕ) : Type 0 where
  pub table : List ℕ
  pub marked : Marked n R table
  pub written : after ≡ over table before

-- how many of the bytes are v
unfoldable pub count : ℕ → List ℕ → ℕ
count v [] = 0
count v (b ∷ bytes) = cond (eqb b v) 1 0 + count v bytes

-- ---- tests, which refusals cite

-- the test holds of some number below n
unfoldable pub any_below : ℕ → (ℕ → Bool) → Bool
any_below zero test = false
any_below (suc n) test = any_below n test || test n

-- "1 | a lent buffer is shorter than its least length"
abbrev pub shorter : List ℕ → ℕ → Bool
shorter buffer least = ltb (length buffer) least

-- "5 | a count .., a text or a transfer list is over its size"
abbrev pub exceeds : ℕ → ℕ → Bool
exceeds count most = ltb most count

-- "11 | an assignment byte above 1 or a permission byte above 3": one of the first `used` bytes is above `most`
abbrev pub some_above : List ℕ → ℕ → ℕ → Bool
some_above bytes used most = any_below used (λ i. ltb most (get_or bytes i 0))
