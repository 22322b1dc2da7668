-- One subject, two objects and one role, which reads object 0: its mode there becomes 2, so that what was read is written.
use Prim.Native.Nat.{ℕ}
use mathlib.Core.Path.{◌≡◌, refl}
use mathlib.Core.Logic.{inl, inr}
use mathlib.Core.List.{[], ◌∷◌}
use native.Mathlib.Omega.{arith}
use lib.ListN.{replicate}
use Rattle.answers.specs.Call.{first_refusal, ◌then◌}
use Rattle.answers.specs.Rows.{any_below}
use Rattle.tables.specs.Sheet.{sheet, Lent, lent, Sheet, counts}
use Rattle.tables.specs.Refusals.{size_refusals, used_refusals, sheet_refusals}
use Rattle.access.specs.Channel.{Has}
use Rattle.change.specs.Change.{with_assignment, with_permission, PermissionAdds, range_refusals, set_assignment_refusals, set_permission_refusals, change_refusals}

abbrev pub reader : Sheet
reader = sheet (counts 1 2 1) (1 ∷ []) (1 ∷ 0 ∷ []) []

-- two subjects and two roles, which nobody has
abbrev two : Sheet
two = sheet (counts 2 0 2) (0 ∷ 0 ∷ 0 ∷ 0 ∷ []) [] []

-- "A change sets one assignment byte or one permission byte of the lent tables and no other"
pub record OneByte : Type 0 where
  assigned : (with_assignment two 0 1 1).assignment ≡ 0 ∷ 1 ∷ 0 ∷ 0 ∷ []
  permitted : (with_permission reader 0 0 2).permission ≡ 2 ∷ 0 ∷ []
  last_permitted : (with_permission reader 0 1 3).permission ≡ 1 ∷ 3 ∷ []

pub one_byte : OneByte
unfolding with_assignment with_permission
one_byte = record { assigned = refl; permitted = refl; last_permitted = refl }

-- a mode of 3 has what 1 has, and more; a mode of 2 has not
pub three_adds : PermissionAdds 1 3
three_adds = record { reading = λ _. inr refl; writing = λ _. inr refl }

pub two_does_not_add : PermissionAdds 1 2 → ⊥
two_does_not_add p = go (p.reading (inl refl))
  where
    go : Has 2 1 → ⊥
    go (inl e) = omega arith
    go (inr e) = omega arith

-- ---- 6 comes last: the lent tables, with the assignment byte b
tables : ℕ → Lent
tables b = lent (counts 1 2 1) (replicate 2304 b) (replicate 3072 1)

pub record SixLast : Type 0 where
  subject_outside : first_refusal (set_assignment_refusals (tables 1) 1 0 1) ≡ 6
  role_outside : first_refusal (set_assignment_refusals (tables 1) 0 1 1) ≡ 6
  value_2 : first_refusal (set_assignment_refusals (tables 1) 0 0 2) ≡ 6
  value_1 : first_refusal (set_assignment_refusals (tables 1) 0 0 1) ≡ 0
  short_first : first_refusal (set_assignment_refusals (lent (counts 49 2 1) [] []) 99 9 9) ≡ 1
  count_second : first_refusal (set_permission_refusals (lent (counts 49 2 1) (replicate 2304 2) (replicate 3072 4)) 9 9 9) ≡ 5
  faulty_table_third : first_refusal (set_assignment_refusals (tables 2) 9 9 9) ≡ 11
  permitted_role_outside : first_refusal (set_permission_refusals (tables 1) 1 0 1) ≡ 6
  object_outside : first_refusal (set_permission_refusals (tables 1) 0 2 1) ≡ 6
  mode_4 : first_refusal (set_permission_refusals (tables 1) 0 1 4) ≡ 6
  mode_3 : first_refusal (set_permission_refusals (tables 1) 0 1 3) ≡ 0

-- "A single change puts 6 last", in cases: 6 for a subject, role, object, value or mode out of range, 11 where an assignment byte is 2 too
pub six_last : SixLast
unfolding first_refusal ◌then◌ any_below sheet_refusals size_refusals used_refusals range_refusals set_assignment_refusals set_permission_refusals change_refusals tables
six_last =
    record {
      subject_outside = refl;
      role_outside = refl;
      value_2 = refl;
      value_1 = refl;
      short_first = refl;
      count_second = refl;
      faulty_table_third = refl;
      permitted_role_outside = refl;
      object_outside = refl;
      mode_4 = refl;
      mode_3 = refl;
    }
