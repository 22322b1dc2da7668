-- "Between filled tables", of the calls: `fill`, one change, `fill` again, and `effect` of the two tables, each answered by 0.
use Prim.Native.Nat.{ℕ, ◌<◌}
use mathlib.Core.Path.{◌≡◌, refl, ap}
use mathlib.Core.Logic.{◌⊎◌, ◌≢◌}
use mathlib.Core.List.{List}
use native.Mathlib.Nat.{le_refl}
use native.Mathlib.Omega.{arith}
use lib.ListN.{length, get_or, drop, get_or-append}
use Rattle.answers.specs.Call.{first_refusal}
use Rattle.answers.specs.Rows.{Bytes, over}
use Rattle.tables.specs.Sheet.{Lent, lent, sheet_of, sheet_in, entities, assigned_byte, mode_byte}
use Rattle.tables.specs.Refusals.{no_other, no_list, sheet_refusals}
use Rattle.answers.proofs.Calls.{answered, passed_then}
use Rattle.tables.proofs.Accepted.{sheet_numbered}
use Rattle.theory.specs.Flow.{Flow}
use Rattle.theory.specs.Effect.{Effect}
use Rattle.theory.proofs.Effects.{adding_loses_nothing, taking_gains_nothing}
use Rattle.access.specs.Channel.{Channel}
use Rattle.flow.specs.Fill.{Fills, FlowFilled}
use Rattle.effects.specs.Effects.{Affects}
use Rattle.flow.proofs.Filled.{filled_agrees, tables_effect}
use Rattle.change.specs.Change.{with_assignment, with_permission, AssignmentAdds, AssignmentTakes, PermissionAdds, PermissionTakes, range_refusals, set_assignment_refusals, set_permission_refusals, SetsAssignment, SetsPermission, Between, change_refusals}
use Rattle.change.proofs.Changes.{assignment_adds, assignment_takes, permission_adds, permission_takes, sheet_with_assignment, sheet_with_permission}
use Rattle.change.proofs.Turning.{assignment_never_both, permission_never_both}
use Rattle.change.proofs.Placed.{in_table, column_below}

-- ---- what each call has done
fill_done : (l : Lent) {b flow : List ℕ} → Fills l b (0, flow) → FlowFilled (sheet_in l) b flow
fill_done l f = (f.done (answered (λ r. r.0) (λ _. refl) f refl)).1

effect_at : (n : ℕ) (before after unwritten : List ℕ) {bytes : List ℕ} → Affects n before after unwritten (0, bytes) → {x : ℕ} → x < n →
    Effect n (Bytes n before) (Bytes n after) x (get_or bytes x 0)
unfolding over
effect_at n before after unwritten f {x} hx =
    let d = f.done (answered (λ r. r.0) (λ _. refl) f refl) in
    let written = ap (λ (r : ℕ × List ℕ). r.1) d.written in
    rw (written, get_or-append d.row (drop (length d.row) unwritten) 0 x (omega (arith, d.effects.size))) (d.effects.bytes x hx)

-- the effect byte of x is that between the flows of the two sheets
between : (l : Lent) (a p : List ℕ) {before after bytes : List ℕ} → Between l (lent l.counts a p) before after bytes → {x : ℕ} → x < entities l.counts →
    Effect (entities l.counts) (Flow (Channel (sheet_in l))) (Flow (Channel (sheet_in (lent l.counts a p)))) x (get_or bytes x 0)
unfolding sheet_of
between l a p {before} {after} b hx =
    tables_effect (filled_agrees (sheet_in l) b.unfilled before (fill_done l b.filled))
    (filled_agrees (sheet_in (lent l.counts a p)) b.unfilled' after (fill_done (lent l.counts a p) b.filled'))
    hx (effect_at _ before after b.unwritten b.affected hx)

-- ---- an accepted change of an assignment
module _ (l : Lent) (s r value : ℕ) (assignment : List ℕ) (call : SetsAssignment l s r value (0, assignment)) where
  -- "A change sets one assignment byte .. and no other": the sheet in what `set_assignment` left, answering 0, is the old one so changed
  pub changed_assignment : sheet_in (lent l.counts assignment l.permission) ≡ with_assignment (sheet_in l) s r value
  unfolding set_assignment_refusals change_refusals range_refusals
  changed_assignment =
      let none = answered (λ r. r.0) (λ _. refl) call refl in
      let own = (passed_then (sheet_refusals no_other no_list l) _ (sheet_numbered no_other no_list l) none).1 in
      let place = in_table l.counts.subjects l.counts.roles 1 s r value _ _ _ (le_refl _) (le_refl _) (le_refl _) own in
      rw (ap (λ (p : ℕ × List ℕ). p.1) (call.done none)) (sheet_with_assignment l.counts l.assignment l.permission s r value place)

  module _ {before after bytes : List ℕ} (b : Between l (lent l.counts assignment l.permission) before after bytes) {x : ℕ} (hx : x < entities l.counts) where
    assignment_effect : Effect (entities l.counts) (Flow (Channel (sheet_in l))) (Flow (Channel (with_assignment (sheet_in l) s r value))) x (get_or bytes x 0)
    assignment_effect = rw changed_assignment at (between l _ _ b hx)

    -- "Between filled tables, a change that only adds .. assignment never gives 2 or 3": of what `set_assignment`, both fills and `effect` left
    pub assignment_added : AssignmentAdds (assigned_byte (sheet_in l) s r) value → (get_or bytes x 0 ≡ 0) ⊎ (get_or bytes x 0 ≡ 1)
    assignment_added adds = adding_loses_nothing hx assignment_effect (assignment_adds (sheet_in l) s r value adds)

    -- "one that only takes away never gives 1 or 3": of an assignment, by what `set_assignment`, both fills and `effect` left
    pub assignment_taken : AssignmentTakes (assigned_byte (sheet_in l) s r) value → (get_or bytes x 0 ≡ 0) ⊎ (get_or bytes x 0 ≡ 2)
    assignment_taken takes = taking_gains_nothing hx assignment_effect (assignment_takes (sheet_in l) s r value takes)

    -- "3 both": between filled tables no single change of an assignment gives it, whatever the value that `set_assignment` accepted
    pub assignment_not_3 : get_or bytes x 0 ≢ 3
    assignment_not_3 = assignment_never_both (sheet_in l) s r value hx assignment_effect

-- ---- an accepted change of a permission
module _ (l : Lent) (r o mode : ℕ) (permission : List ℕ) (call : SetsPermission l r o mode (0, permission)) where
  unrefused : first_refusal (range_refusals l.counts.roles l.counts.objects 3 r o mode) ≡ 0
  unfolding set_permission_refusals change_refusals range_refusals
  unrefused = (passed_then (sheet_refusals no_other no_list l) _ (sheet_numbered no_other no_list l) (answered (λ r. r.0) (λ _. refl) call refl)).1

  -- "or one permission byte of the lent tables and no other": the sheet in what `set_permission` left, answering 0, is the old one so changed
  pub changed_permission : sheet_in (lent l.counts l.assignment permission) ≡ with_permission (sheet_in l) r o mode
  changed_permission =
      let none = answered (λ r. r.0) (λ _. refl) call refl in
      let place = in_table l.counts.roles l.counts.objects 3 r o mode _ _ _ (le_refl _) (le_refl _) (le_refl _) unrefused in
      rw (ap (λ (p : ℕ × List ℕ). p.1) (call.done none)) (sheet_with_permission l.counts l.assignment l.permission r o mode place)

  module _ {before after bytes : List ℕ} (b : Between l (lent l.counts l.assignment permission) before after bytes) {x : ℕ} (hx : x < entities l.counts) where
    permission_effect : Effect (entities l.counts) (Flow (Channel (sheet_in l))) (Flow (Channel (with_permission (sheet_in l) r o mode))) x (get_or bytes x 0)
    permission_effect = rw changed_permission at (between l _ _ b hx)

    -- "Between filled tables, a change that only adds permission .. never gives 2 or 3": of what `set_permission`, both fills and `effect` left
    pub permission_added : PermissionAdds (mode_byte (sheet_in l) r o) mode → (get_or bytes x 0 ≡ 0) ⊎ (get_or bytes x 0 ≡ 1)
    permission_added adds = adding_loses_nothing hx permission_effect (permission_adds (sheet_in l) r o mode adds)

    -- "one that only takes away never gives 1 or 3": of a permission, by what `set_permission`, both fills and `effect` left
    pub permission_taken : PermissionTakes (mode_byte (sheet_in l) r o) mode → (get_or bytes x 0 ≡ 0) ⊎ (get_or bytes x 0 ≡ 2)
    permission_taken takes = taking_gains_nothing hx permission_effect (permission_takes (sheet_in l) r o mode takes)

    -- "3 both": between filled tables no single change of a permission gives it, whatever the mode that `set_permission` accepted
    pub permission_not_3 : get_or bytes x 0 ≢ 3
    unfolding sheet_of
    permission_not_3 = permission_never_both (sheet_in l) r o mode (column_below _ _ _ _ _ _ unrefused) hx permission_effect
