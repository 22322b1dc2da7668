-- `sheet::write` meets its contract: each return by the refusals that led there.
use mathlib.Core.Path.{◌≡◌, sym}
use mathlib.Core.Bool.{◌||◌}
use borrow.Author.Tests.{lt-ltb, le-ltb}
use Rattle.answers.specs.Sizes.{least_separations, least_text}
use Rattle.answers.specs.Rows.{shorter}
use Rattle.answers.proofs.Exits.{exit, some_number}
use Rattle.tables.specs.Sheet.{lent_by}
use Rattle.sheet.proofs.Wrote.{Writable, tables_refusal, past_tables, past_all, refused_by_tables, refused_by_pairs, wrote}
use Rattle.sheet.proofs.write.Goals as goal
use Rattle.sheet.proofs.write.Goals.{Joined-separations-lt-LEAST_SEPARATIONS, then-separations-lt-LEAST_SEPARATIONS, else-separations-lt-LEAST_SEPARATIONS, In_ok-check_sheet}

short_is : (c : Joined-separations-lt-LEAST_SEPARATIONS) →
    c.if-separations-lt-LEAST_SEPARATIONS.short ≡ (shorter c.args.separations.pairs.now least_separations || shorter c.args.text.now least_text)
short_is c =
    elim c.if-separations-lt-LEAST_SEPARATIONS.branch [
      | then-separations-lt-LEAST_SEPARATIONS w ↦ rw (w.short-is, lt-ltb _ _ w.if-separations-lt-LEAST_SEPARATIONS.true)
      | else-separations-lt-LEAST_SEPARATIONS w ↦ rw (w.short-is, le-ltb _ _ w.if-separations-lt-LEAST_SEPARATIONS.false)
    ]

-- 1, 5 and 11 have passed
none_of_tables : (c : In_ok-check_sheet) → tables_refusal (lent_by c.args.sheet) c.args.separations.count c.args.separations.pairs.now c.args.text.now ≡ 0
none_of_tables c = sym (rw (short_is (goal.at.In_ok-check_sheet c).Joined-separations-lt-LEAST_SEPARATIONS) at c.in_ok-check_sheet.ensures)

passed : (c : In_ok-check_sheet) → Writable (lent_by c.args.sheet) c.args.separations.count c.args.separations.pairs.now c.args.text.now
passed c = past_tables _ _ _ _ (none_of_tables c)

pub returns-in_err-check_sheet : goal.returns-in_err-check_sheet
returns-in_err-check_sheet c =
    rw (exit _ _ c.from_residual.ensures.1)
    (refused_by_tables _ _ _ _ _ (rw (short_is (goal.at.returns-in_err-check_sheet c).Joined-separations-lt-LEAST_SEPARATIONS) at c.in_err-check_sheet.ensures) (some_number _))

pub entities-requires : goal.entities-requires
entities-requires c = (passed (goal.at.entities-requires c).In_ok-check_sheet).sized.counts_fit

pub check_separations-requires : goal.check_separations-requires
check_separations-requires c = (passed (goal.at.check_separations-requires c).In_ok-check_sheet).separations_long

pub returns-in_err-check_separations : goal.returns-in_err-check_separations
returns-in_err-check_separations c =
    rw (exit _ _ c.from_residual-in_err-check_separations.ensures.1)
    (refused_by_pairs _ _ _ _ _ (none_of_tables (goal.at.returns-in_err-check_separations c).In_ok-check_sheet) (rw c.entities.ensures at c.in_err-check_separations.ensures) (some_number _))

pub write_tables-size-requires : goal.write_tables-size-requires
write_tables-size-requires c =
    past_all _ _ _ _ (none_of_tables (goal.at.write_tables-size-requires c).In_ok-check_sheet) (sym (rw c.entities.ensures at c.in_ok-check_separations.ensures))

pub returns : goal.returns
returns c =
    wrote _ _ _ _ _ _ (none_of_tables (goal.at.returns c).In_ok-check_sheet) (sym (rw c.entities.ensures at c.in_ok-check_separations.ensures)) c.write_tables-size.ensures
