-- A table that was filled for a relation gives that relation by its bytes, in front of what a buffer held.
use Prim.Native.Nat.{ℕ, ◌*◌, ◌≤◌, ◌<◌}
use mathlib.Core.Path.{◌≡◌, ◌∙◌}
use mathlib.Core.List.{List}
use native.Mathlib.Omega.{arith}
use lib.ListN.{length, drop, length-append}
use Rattle.answers.specs.Rows.{at, Mark, Marked, Bytes, Filled, over}
use Rattle.answers.proofs.Marks.{mark_agrees, marked_yes, mark_of}
use Rattle.answers.proofs.Tables.{at_over}
use Rattle.theory.specs.Laws.{Agree, Contains, Inside}

-- bytes of a table join entities below n only
pub bytes_inside : (n : ℕ) (table : List ℕ) → Inside n (Bytes n table)
bytes_inside n table a b c = (c.source, c.target)

-- ---- channels that were written for ch, in front of what a buffer held
module _ {n : ℕ} {ch : ℕ → ℕ → Type 0} {table channels : List ℕ} (filled : Marked n ch table) (buffer : List ℕ)
    (written : channels ≡ over table buffer) where
  byte_is : {x y : ℕ} → x < n → y < n → at channels n x y ≡ at table n x y
  byte_is h l = rw written (at_over table buffer filled.size h l)

  pub bytes_to : Contains ch (Bytes n channels)
  bytes_to a b c = marked_yes (filled.bytes a b c.source c.target) (rw (byte_is c.source c.target) at c.byte)

  pub bytes_from : Inside n ch → Contains (Bytes n channels) ch
  bytes_from inside a b c =
      let i = inside a b c in
      record { source = i.0; target = i.1; byte = byte_is i.0 i.1 ∙ mark_of (filled.bytes a b i.0 i.1) c }

-- ---- a filled buffer
module _ {n : ℕ} {R : ℕ → ℕ → Type 0} {before after : List ℕ} (f : Filled n R before after) where
  pub filled_mark : {x y : ℕ} → x < n → y < n → Mark (R x y) (at after n x y)
  filled_mark {x} {y} h l = rw (f.written, at_over f.table before f.marked.size h l) (f.marked.bytes x y h l)

  -- so R and the bytes agree on the entities
  pub bytes_agree : Agree n R (Bytes n after)
  bytes_agree =
      record {
        there = λ x y hx hy r. record { source = hx; target = hy; byte = mark_of (filled_mark hx hy) r };
        back = λ x y hx hy b. marked_yes (filled_mark hx hy) b.byte;
      }

  -- it has room for all rows
  pub filled_room : n * n ≤ length after
  unfolding over
  filled_room = rw f.written (omega (arith, length-append f.table (drop (length f.table) before), f.marked.size))

-- a table filled for one relation is filled for another with the same pairs
pub filled_agrees : {n : ℕ} {R R' : ℕ → ℕ → Type 0} {before after : List ℕ} → Contains R' R → Contains R R' → Filled n R before after → Filled n R' before after
filled_agrees to back f =
    record {
      table = f.table;
      marked = record { size = f.marked.size; bytes = λ x y h l. mark_agrees (to x y) (back x y) (f.marked.bytes x y h l) };
      written = f.written;
    }
