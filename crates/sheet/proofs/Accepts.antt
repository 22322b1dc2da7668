-- `write` refuses nothing exactly if the sheet in the tables is sound, all its separations are lent, and every lent buffer has its least
-- length.
use Prim.Native.Nat.{ℕ, ◌*◌, ◌≤◌}
use mathlib.Core.Path.{◌≡◌, refl}
use mathlib.Core.List.{List}
use native.Mathlib.Omega.{arith}
use borrow.Author.Tests.{le-ltb}
use lib.ListN.{length}
use Rattle.answers.specs.Call.{first_refusal}
use Rattle.answers.proofs.Calls.{passed_then, pass_then}
use Rattle.tables.specs.Sheet.{Lent, Sound, sheet_of}
use Rattle.tables.specs.Refusals.{no_list}
use Rattle.tables.proofs.Accepted.{sheet_numbered, tables_pass, separations_passed, separations_pass}
use Rattle.tables.proofs.Sounds.{sound_of, sized_of, listed_of}
use Rattle.sheet.specs.Write.{write_refusals, LongToWrite}
use Rattle.sheet.proofs.Wrote.{past_tables}

module _ (l : Lent) (count : ℕ) (separations text : List ℕ) where
  -- "comes exactly where that document says": `write` refuses no sound sheet whose separations are all lent, where no buffer is short
  pub refuses_none : Sound (sheet_of l count separations) → 2 * count ≤ length separations → LongToWrite l separations text →
      first_refusal (write_refusals l count separations text) ≡ 0
  unfolding write_refusals
  refuses_none p room long =
      pass_then _ _ (sheet_numbered _ no_list l)
      (tables_pass _ no_list l
      (record {
        not_short = rw (le-ltb _ _ long.tables_long.separations_long, le-ltb _ _ long.text_long);
        not_long = refl;
        sized = sized_of l count separations p long.tables_long.assignment_long long.tables_long.permission_long;
      }))
      (separations_pass _ separations count (listed_of l count separations p room))

  -- "comes exactly where that document says": `write` refuses nothing only of a sound sheet, its separations all lent, and no buffer short
  pub refused_none : first_refusal (write_refusals l count separations text) ≡ 0 → Sound (sheet_of l count separations) × (2 * count ≤ length separations) × LongToWrite l separations text
  unfolding write_refusals
  refused_none e =
      let parts = passed_then _ _ (sheet_numbered _ no_list l) e in
      let p = past_tables l count separations text parts.0 in
      let listed = separations_passed _ separations count parts.1 in
      let room : 2 * count ≤ length separations = omega (arith, listed.few, p.separations_long) in (
        sound_of l count separations p.sized room listed,
        room,
        record {
          tables_long = record { assignment_long = p.sized.assignment; permission_long = p.sized.permission; separations_long = p.separations_long };
          text_long = p.text_long;
        },
      )
