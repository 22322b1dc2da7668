-- A table that filling wrote is sound, and so is what a call of `fill` left that answered 0; and when it answers 0.
use Prim.Native.Nat.{ℕ, ◌*◌, ◌/◌, ◌%◌, ◌≤◌, ◌<◌}
use mathlib.Core.Path.{◌≡◌, refl}
use mathlib.Core.List.{List}
use native.Mathlib.Nat.{not-suc-le-zero, div-add-mod', div-lt_iff_lt-mul, mod-lt, mul-zero, pos_of_ne-zero}
use native.Mathlib.Omega.{arith}
use borrow.Author.Tests.{le-ltb}
use lib.ListN.{length, get_or, drop, length-append, length-drop}
use Rattle.answers.specs.Call.{first_refusal}
use Rattle.answers.specs.Rows.{at, Marked, over}
use Rattle.answers.specs.Sizes.{most_entities, least_flow}
use Rattle.tables.specs.Sheet.{Lent, Sheet, sheet_of, sheet_in, entities}
use Rattle.answers.proofs.Calls.{answered}
use Rattle.answers.proofs.Marks.{mark_of, mark_bit}
use Rattle.answers.proofs.Tables.{at_over}
use Rattle.theory.specs.Flow.{here}
use Rattle.tables.proofs.Sounds.{entities_fit}
use Rattle.flow.specs.Fill.{FlowFilled, fill_refusals, Fills}
use Rattle.flow.proofs.Closing.{fillable}
use Rattle.tables.specs.Refusals.{Sized}
use Rattle.tables.specs.FlowTable.{SoundFlow}
use Rattle.tables.proofs.Accepted.{tables_pass}

-- ---- a filled table is accepted: its bytes are 0 or 1, and each entity flows to itself
module _ {n : ℕ} {R : ℕ → ℕ → Type 0} {table : List ℕ} (m : Marked n R table) (buffer : List ℕ) where
  marked_bits : (k : ℕ) → k < n * n → get_or (over table buffer) k 0 ≤ 1
  marked_bits k h =
      let some : 0 < n = pos_of_ne-zero (λ e. not-suc-le-zero (rw (e, mul-zero) at h)) in
      let row : k / n < n = (div-lt_iff_lt-mul some).1 h in
      let place : k % n < n = mod-lt k some in
      let bit : at (over table buffer) n (k / n) (k % n) ≤ 1 = rw (at_over table buffer m.size row place) (mark_bit (m.bytes (k / n) (k % n) row place)) in
      rw (div-add-mod' k n) at bit

  marked_diagonal : ((x : ℕ) → R x x) → (x : ℕ) → x < n → at (over table buffer) n x x ≡ 0 → ⊥
  marked_diagonal reflexive x h e = omega (arith, at_over table buffer m.size h h, mark_of (m.bytes x x h h) (reflexive x))

-- "Calls on a flow table: 1, 5, 12, 10": a filled table of at most 112 entities, in 12,544 bytes or more, passes 1, 5 and 12
pub filled_accepted : (t : Sheet) (before after : List ℕ) → FlowFilled t before after → entities t.counts ≤ most_entities → least_flow ≤ length after →
    SoundFlow (entities t.counts) after
filled_accepted t before after f few room =
    record {
      sized = record { few = few; room = room };
      bits = rw f.written (marked_bits f.marked before);
      diagonal = rw f.written (marked_diagonal f.marked before (λ x. here));
    }

-- ---- a call that answered 0
filled_long : (t : Sheet) (before after : List ℕ) → FlowFilled t before after → length before ≤ length after
unfolding over
filled_long t before after f =
    rw f.written (omega (arith, length-append f.table (drop (length f.table) before), length-drop (length f.table) before))

module _ (l : Lent) (before table : List ℕ) (fills : Fills l before (0, table)) where
  pub none_refused : first_refusal (fill_refusals l before) ≡ 0
  none_refused = answered (λ r. r.0) (λ _. refl) fills refl

  pub table_filled : FlowFilled (sheet_in l) before table
  table_filled = (fills.done none_refused).1

  pub table_sound : SoundFlow (entities l.counts) table
  unfolding fill_refusals sheet_of
  table_sound =
      let p = fillable l before none_refused in
      filled_accepted (sheet_in l) before table table_filled (entities_fit l p.sized)
      (omega (arith, p.room, filled_long (sheet_in l) before table table_filled))

-- tables that pass, and a buffer of its least length, are filled: the answer is 0
pub sized_filled : (l : Lent) (before : List ℕ) (result : ℕ × List ℕ) → Fills l before result → Sized l → least_flow ≤ length before →
    (result.0 ≡ 0) × FlowFilled (sheet_in l) before result.1
unfolding fill_refusals
sized_filled l before result call sized room = call.done (tables_pass _ _ l (record { not_short = le-ltb _ _ room; not_long = refl; sized = sized }))
