-- A row that is written byte by byte in front of what a buffer held: `written_none` at the start, `written_more` after a store.
use mathlib.Core.Path.{◌≡◌, refl, sym, ap, ◌∙◌}
use mathlib.Core.Bool.{Bool, true, false, cond}
use mathlib.Core.List.{List, [], ◌∷◌, ◌++◌, append_assoc}
use Prim.Native.Nat.{ℕ, suc, ◌+◌, ◌≤◌, ◌<◌}
use native.Mathlib.Decide.{ℕ_discrete}
use native.Mathlib.Nat.{add_assoc}
use native.Mathlib.Numerals.{add-one}
use native.Mathlib.Omega.{arith}
use lib.Dec.{eqb}
use lib.ListN.{length, set, drop, get_or, length-append, get_or-append}
use lib.Seq.{drop-cons, set_at, get_or_at}
use Rattle.answers.specs.Rows.{Row, over, count}

-- the first k bytes are as Q says of their places, and the others are those before
pub record Written (k : ℕ) (Q : ℕ → ℕ → Type 0) (before after : List ℕ) : Type 0 where
  pub row : List ℕ
  pub bytes : Row k Q row
  pub written : after ≡ over row before

unfoldable pub written_none : (Q : ℕ → ℕ → Type 0) (before : List ℕ) → Written 0 Q before before
unfolding over
written_none Q before = record { row = []; bytes = record { size = refl; bytes = λ k h. absurd (omega arith) }; written = refl }

longer : (row : List ℕ) (b : ℕ) → length (row ++ (b ∷ [])) ≡ suc (length row)
longer row b = length-append row (b ∷ []) ∙ add-one (length row)

pub row_more : {k : ℕ} {Q : ℕ → ℕ → Type 0} {row : List ℕ} (b : ℕ) → Row k Q row → Q k b → Row (k + 1) Q (row ++ (b ∷ []))
row_more {k} {Q} {row} b r q = record { size = longer row b ∙ ap suc r.size ∙ sym (add-one k); bytes = λ i h. byte i h (ℕ_discrete i k) }
  where
    byte : (i : ℕ) → i < k + 1 → Dec (i ≡ k) → Q i (get_or (row ++ (b ∷ [])) i 0)
    byte i h (yes e) = rw (e, get_or_at row b [] 0 k r.size) q
    byte i h (no e) =
        let below : i < k = omega arith in
        let inside : i < length row = omega (arith, r.size) in
        rw (get_or-append row (b ∷ []) 0 i inside) (r.bytes i below)

pub over_more : (row before : List ℕ) (k b : ℕ) → length row ≡ k → k < length before → set (over row before) k b ≡ over (row ++ (b ∷ [])) before
unfolding over
over_more row before k b e h =
    rw (longer, e, drop-cons before k 0 h, set_at row (get_or before k 0) (drop (suc k) before) b k e, append_assoc)

unfoldable pub written_more : (Q : ℕ → ℕ → Type 0) (before after : List ℕ) (k b : ℕ) → k < length before → Q k b → Written k Q before after →
    Written (k + 1) Q before (set after k b)
written_more Q before after k b h q w =
    record { row = w.row ++ (b ∷ []); bytes = row_more b w.bytes q; written = rw w.written (over_more w.row before k b w.bytes.size h) }

-- ---- how many of the bytes are v
pub count_more : (v : ℕ) (row : List ℕ) (b : ℕ) → count v (row ++ (b ∷ [])) ≡ count v row + cond (eqb b v) 1 0
unfolding count
count_more v [] b = omega arith
count_more v (a ∷ row) b = rw (count_more v row b, add_assoc)

pub count_within : (v : ℕ) (row : List ℕ) → count v row ≤ length row
unfolding count
count_within v [] = omega arith
count_within v (a ∷ row) = go (eqb a v) (count_within v row)
  where
    go : (t : Bool) → count v row ≤ length row → cond t 1 0 + count v row ≤ suc (length row)
    go true h = omega arith
    go false h = omega arith
