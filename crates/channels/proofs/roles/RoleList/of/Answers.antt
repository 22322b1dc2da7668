-- `channels::roles::RoleList::of` meets its contract. After a turn for each role below `role` the list has those of them that the subject has.
use Rattle.std.proofs.Common.{◌<◌, ◌∙◌, ◌∷◌, [], ◌++◌, length, refl, sym, ap, arith}
use Rattle.std.proofs.lemmas.List.{take_more_set}
use lib.ListN.{length-set}
use borrow.Author.Tests.{eq-eqb, ne_eqb}
use Rattle.channels.proofs.Passing.{pass_none, pass_one, pass_over}
use Rattle.channels.proofs.roles.RoleList.of.Goals as goal
use Rattle.channels.proofs.roles.RoleList.of.Goals.{then-assigned, else-assigned}

pub loop-role-init : goal.loop-role-init
loop-role-init c = record { few = omega arith; places = refl; all = pass_none _ }

-- the role is stored behind the others, or passed over
pub loop-role-preserved : goal.loop-role-preserved
loop-role-preserved c =
    let inv = c.loop-role.invariant in
    let places = c.loop-role.places in
    let count = c.loop-role.count in
    let role = c.loop-role.role in
    elim c.if-assigned.branch [
      | then-assigned w ↦
          let inside : count < length places = omega arith in
          rw (w.places-is, w.count-is)
          (record {
            few = omega arith;
            places = length-set places count role ∙ inv.places;
            all = take_more_set places count role inside ∙ ap (λ k. k ++ (role ∷ [])) inv.all ∙ sym (pass_one _ role (eq-eqb _ _ w.if-assigned.true));
          })
      | else-assigned w ↦
          rw (w.places-is, w.count-is)
          (record { few = omega arith; places = inv.places; all = inv.all ∙ sym (pass_over _ role (ne_eqb _ _ w.if-assigned.false)) })
    ]
