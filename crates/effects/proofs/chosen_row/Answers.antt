-- `effects::chosen_row` meets its contract: a row in range lies within either table, and each return is one of the three answers.
use mathlib.Core.Path.{refl, sym, ◌∙◌}
use native.Mathlib.Omega.{arith}
use Rattle.std.proofs.Common.{rules}
use Rattle.effects.proofs.Chosen.{Fitting, fitting, row_before, row_after, row_none}
use Rattle.effects.proofs.chosen_row.Goals as goal
use Rattle.effects.proofs.chosen_row.Goals.{Else-not-can_choose}

-- what is known where the row is in range
fits : (c : Else-not-can_choose) → Fitting c.args.before.now c.args.after.now c.args.n c.args.x
fits c = fitting _ _ _ c.args.choice _ (sym c.can_choose.ensures ∙ c.if-not-can_choose.false)

pub returns-then-not-can_choose : goal.returns-then-not-can_choose
returns-then-not-can_choose c =
    let a = c.args in
    row_none a.before a.after a.n a.choice a.x (sym c.can_choose.ensures ∙ c.if-not-can_choose.true)
    (record { bytes = search rules; block = refl; place = omega arith })

pub overflow_mul-from : goal.overflow_mul-from
overflow_mul-from c = omega (arith, fits (goal.at.overflow_mul-from c).Else-not-can_choose)

pub overflow_add-to : goal.overflow_add-to
overflow_add-to c = omega (arith, fits (goal.at.overflow_add-to c).Else-not-can_choose)

pub slice_bounds-result-end-in-0 : goal.slice_bounds-result-end-in-0
slice_bounds-result-end-in-0 c = omega (arith, fits (goal.at.slice_bounds-result-end-in-0 c).Else-not-can_choose)

pub slice_bounds-result-end-in_default : goal.slice_bounds-result-end-in_default
slice_bounds-result-end-in_default c = omega (arith, fits (goal.at.slice_bounds-result-end-in_default c).Else-not-can_choose)

pub returns-in-0 : goal.returns-in-0
returns-in-0 c =
    let a = c.args in
    row_before a.before a.after a.n a.choice a.x (sym c.can_choose.ensures ∙ c.if-not-can_choose.false) c.in-0.is (record { bytes = refl; block = refl; place = refl })

pub returns-in_default : goal.returns-in_default
returns-in_default c =
    let a = c.args in
    row_after a.before a.after a.n a.choice a.x (sym c.can_choose.ensures ∙ c.if-not-can_choose.false) (search rules) (record { bytes = refl; block = refl; place = refl })
