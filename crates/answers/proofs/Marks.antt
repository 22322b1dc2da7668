-- Laws of `Mark`, `Row` and `Marked`: each determines its bytes.
use mathlib.Core.Path.{◌≡◌, sym, ◌∙◌}
use mathlib.Core.List.{List}
use Prim.Native.Nat.{ℕ, ◌*◌, ◌/◌, ◌%◌, ◌≤◌, ◌<◌}
use native.Mathlib.Omega.{arith}
use native.Mathlib.Nat.{not-suc-le-zero, div-add-mod', div-lt_iff_lt-mul, mod-lt, mul-zero, pos_of_ne-zero}
use lib.ListN.{length, get_or}
use lib.Seq.{ext_get_or}
use Rattle.answers.specs.Rows.{Mark, one, none, Row, Marked}

-- one statement has one mark
pub one_mark : {P : Type 0} {a b : ℕ} → Mark P a → Mark P b → a ≡ b
one_mark (one e p) (one f q) = e ∙ sym f
one_mark (one e p) (none f q) = absurd (q p)
one_mark (none e p) (one f q) = absurd (p q)
one_mark (none e p) (none f q) = e ∙ sym f

-- what marks a statement marks another that holds exactly if it does
pub mark_agrees : {P Q : Type 0} {b : ℕ} → (P → Q) → (Q → P) → Mark P b → Mark Q b
mark_agrees to back (one e p) = one e (to p)
mark_agrees to back (none e p) = none e (λ q. p (back q))

-- a byte that is 1 tells that the statement holds, and a statement that holds has the byte 1
pub marked_yes : {P : Type 0} {b : ℕ} → Mark P b → b ≡ 1 → P
marked_yes (one e p) f = p
marked_yes (none e p) f = absurd (omega arith)

pub marked_no : {P : Type 0} {b : ℕ} → Mark P b → b ≡ 0 → P → ⊥
marked_no (one e p) f q = omega arith
marked_no (none e p) f q = p q

pub mark_of : {P : Type 0} {b : ℕ} → Mark P b → P → b ≡ 1
mark_of (one e p) q = e
mark_of (none e p) q = absurd (p q)

pub marked_other : {P : Type 0} {b : ℕ} → Mark P b → (b ≡ 0 → ⊥) → P
marked_other (one e p) other = p
marked_other (none e p) other = absurd (other e)

-- a statement that is marked holds or does not
pub mark_decides : {P : Type 0} {b : ℕ} → Mark P b → Dec P
mark_decides (one e p) = yes p
mark_decides (none e p) = no p

pub mark_bit : {P : Type 0} {b : ℕ} → Mark P b → b ≤ 1
mark_bit (one e p) = omega arith
mark_bit (none e p) = omega arith

pub one_row : {n : ℕ} {Q : ℕ → ℕ → Type 0} → ((k a b : ℕ) → Q k a → Q k b → a ≡ b) → {l m : List ℕ} → Row n Q l → Row n Q m → l ≡ m
one_row {n} single {l} {m} p q = ext_get_or 0 l m (p.size ∙ sym q.size) same
  where
    same : (k : ℕ) → k < length l → get_or l k 0 ≡ get_or m k 0
    same k h =
        let below : k < n = omega (arith, p.size) in
        single k _ _ (p.bytes k below) (q.bytes k below)

-- a table is known by its cells
pub one_marked : {n : ℕ} {R : ℕ → ℕ → Type 0} {l m : List ℕ} → Marked n R l → Marked n R m → l ≡ m
one_marked {n} {R} {l} {m} p q = ext_get_or 0 l m (p.size ∙ sym q.size) same
  where
    same : (k : ℕ) → k < length l → get_or l k 0 ≡ get_or m k 0
    same k h =
        let within : k < n * n = omega (arith, p.size) in
        let some : 0 < n = pos_of_ne-zero (λ e. not-suc-le-zero (rw (e, mul-zero) at within)) in
        let row : k / n < n = (div-lt_iff_lt-mul some).1 within in
        let place : k % n < n = mod-lt k some in
        rw (div-add-mod' k n) at (one_mark (p.bytes (k / n) (k % n) row place) (q.bytes (k / n) (k % n) row place))
