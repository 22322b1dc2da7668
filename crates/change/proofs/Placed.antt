-- The byte to be set lies in its table.
use mathlib.Core.Path.{◌≡◌}
use Prim.Native.Nat.{ℕ, ◌+◌, ◌*◌, ◌≤◌, ◌<◌}
use borrow.Author.Tests.{leb-false}
use lib.ListN.{length}
use Rattle.answers.specs.Call.{first_refusal}
use Rattle.tables.specs.Sheet.{Lent}
use Rattle.tables.specs.Refusals.{no_other, no_list, sheet_refusals}
use Rattle.answers.proofs.Calls.{passed, passed_then}
use Rattle.tables.proofs.Accepted.{sheet_numbered, tables_passed}
use Rattle.answers.proofs.Products.{place_below, product_within}
use Rattle.change.specs.Change.{range_refusals, assignment_place, permission_place, change_refusals}

-- a byte that passed 6 lies in a column of the table
pub column_below : (rows columns most i j value : ℕ) → first_refusal (range_refusals rows columns most i j value) ≡ 0 → j < columns
unfolding range_refusals
column_below rows columns most i j value e = leb-false _ _ (passed _ _ _ tt (passed _ _ _ tt e).1).0

-- and within what the table's rows and columns are within
pub in_table : (rows columns most i j value m n l : ℕ) → rows ≤ m → columns ≤ n → m * n ≤ l →
    first_refusal (range_refusals rows columns most i j value) ≡ 0 → i * columns + j < l
unfolding range_refusals
in_table rows columns most i j value m n l hr hc hl e =
    let a = passed _ _ _ tt e in
    let b = passed _ _ _ tt a.1 in
    place_below i j rows columns l (leb-false _ _ a.0) (leb-false _ _ b.0) (product_within rows columns m n l hr hc hl)

-- what a change has that no refusal met: its byte lies in its table
module _ (l : Lent) (i j value : ℕ) where
  pub assignment_inside : first_refusal (change_refusals l l.counts.subjects l.counts.roles 1 i j value) ≡ 0 →
      assignment_place l.counts i j < length l.assignment
  unfolding change_refusals
  assignment_inside e =
      let p = passed_then (sheet_refusals no_other no_list l) _ (sheet_numbered no_other no_list l) e in
      let sized = (tables_passed no_other no_list l p.0).sized in
      in_table _ _ 1 i j value 48 48 _ sized.counts_fit.subjects sized.counts_fit.roles sized.assignment p.1

  pub permission_inside : first_refusal (change_refusals l l.counts.roles l.counts.objects 3 i j value) ≡ 0 →
      permission_place l.counts i j < length l.permission
  unfolding change_refusals
  permission_inside e =
      let p = passed_then (sheet_refusals no_other no_list l) _ (sheet_numbered no_other no_list l) e in
      let sized = (tables_passed no_other no_list l p.0).sized in
      in_table _ _ 3 i j value 48 64 _ sized.counts_fit.roles sized.counts_fit.objects sized.permission p.1
