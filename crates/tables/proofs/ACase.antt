-- Where each number of a sheet stands, and which number wins where several tests hold, of the tables of a sheet, of separations and of a
-- flow table.
use mathlib.Core.Path.{◌≡◌, refl}
use mathlib.Core.Bool.{true, false}
use mathlib.Core.List.{List, [], ◌∷◌}
use Prim.Native.Nat.{ℕ}
use lib.ListN.{replicate}
use Rattle.answers.specs.Call.{first_refusal, ◌then◌, each_below}
use Rattle.answers.specs.Rows.{any_below, count}
use Rattle.tables.specs.Sheet.{Lent, lent, counts, entities, object_entity, Sheet, sheet, assigned_byte, mode_byte, from, to, pair_key}
use Rattle.tables.specs.Refusals.{no_other, no_list, size_refusals, used_refusals, sheet_refusals, pair_refusals, separation_refusals}
use Rattle.tables.specs.FlowTable.{byte_refusals, flow_size_refusals, flow_refusals, entity_refusals, pair_asked_refusals}

-- two subjects, three objects and four roles
abbrev small : Sheet
small =
    sheet (counts 2 3 4)
    (10 ∷ 11 ∷ 12 ∷ 13
    ∷ 14 ∷ 15 ∷ 16 ∷ 17 ∷ [])
    (20 ∷ 21 ∷ 22
    ∷ 23 ∷ 24 ∷ 25
    ∷ 26 ∷ 27 ∷ 28
    ∷ 29 ∷ 30 ∷ 31 ∷ [])
    (40 ∷ 41
    ∷ 42 ∷ 43 ∷ [])

-- "subjects first, then objects, so object o is entity S + o"; "at s x R + r", "at r x O + o", "two entity numbers each"
pub record Places : Type 0 where
  all_entities : entities small.counts ≡ 5
  object_1 : object_entity small.counts 1 ≡ 3
  subject_1_role_0 : assigned_byte small 1 0 ≡ 14
  role_1_object_0 : mode_byte small 1 0 ≡ 23
  second_from : from small.separations 1 ≡ 42
  second_to : to small.separations 1 ≡ 43
  two_bytes : pair_key 2 5 ≡ 0x205

pub places : Places
places =
    record { all_entities = refl; object_1 = refl; subject_1_role_0 = refl; role_1_object_0 = refl; second_from = refl; second_to = refl; two_bytes = refl }

-- every byte of both tables is too large
tables : ℕ → ℕ → ℕ → Lent
tables s o r = lent (counts s o r) (replicate 2304 2) (replicate 3072 4)

refusal : Lent → ℕ
unfolding first_refusal ◌then◌ sheet_refusals size_refusals used_refusals any_below
refusal l = first_refusal (sheet_refusals no_other no_list l)

-- 1 before 5 before 11; bytes past the used part are not judged
pub record TableOrder : Type 0 where
  all_faults : first_refusal (sheet_refusals true true (lent (counts 49 65 49) [] [])) ≡ 1
  assignment_short : refusal (lent (counts 49 65 49) [] (replicate 3072 4)) ≡ 1
  permission_short : refusal (lent (counts 49 65 49) (replicate 2304 2) (replicate 3071 4)) ≡ 1
  subjects_over : refusal (tables 49 1 1) ≡ 5
  objects_over : refusal (tables 1 65 1) ≡ 5
  roles_over : refusal (tables 1 1 49) ≡ 5
  list_over : first_refusal (sheet_refusals false true (tables 1 1 1)) ≡ 5
  assigned_2 : refusal (tables 1 0 1) ≡ 11
  mode_4 : refusal (tables 0 1 1) ≡ 11
  assigned_1 : refusal (lent (counts 1 0 1) (replicate 2304 1) (replicate 3072 4)) ≡ 0
  mode_3 : refusal (lent (counts 0 1 1) (replicate 2304 2) (replicate 3072 3)) ≡ 0
  none_used : refusal (tables 48 0 0) ≡ 0

pub table_order : TableOrder
unfolding first_refusal ◌then◌ sheet_refusals size_refusals used_refusals any_below tables refusal
table_order =
    record {
      all_faults = refl;
      assignment_short = refl;
      permission_short = refl;
      subjects_over = refl;
      objects_over = refl;
      roles_over = refl;
      list_over = refl;
      assigned_2 = refl;
      mode_4 = refl;
      assigned_1 = refl;
      mode_3 = refl;
      none_used = refl;
    }

-- of two entities
list_refusal : ℕ → List ℕ → ℕ
unfolding first_refusal separation_refusals pair_refusals ◌then◌ each_below
list_refusal count separations = first_refusal (separation_refusals 2 count separations)

-- 8 before all pairs; the first faulty pair, and in it 6 before 7; a pair from x to x is no fault
pub record PairOrder : Type 0 where
  too_many : list_refusal 65 (9 ∷ 9 ∷ []) ≡ 8
  first_outside : list_refusal 1 (2 ∷ 0 ∷ []) ≡ 6
  second_outside : list_refusal 1 (0 ∷ 2 ∷ []) ≡ 6
  twice : list_refusal 2 (0 ∷ 1 ∷ 0 ∷ 1 ∷ []) ≡ 7
  falling : list_refusal 2 (1 ∷ 0 ∷ 0 ∷ 1 ∷ []) ≡ 7
  outside_and_falling : list_refusal 2 (1 ∷ 0 ∷ 0 ∷ 2 ∷ []) ≡ 6
  first_pair_decides : list_refusal 3 (1 ∷ 0 ∷ 0 ∷ 1 ∷ 9 ∷ 9 ∷ []) ≡ 7
  by_first_number : list_refusal 2 (0 ∷ 1 ∷ 1 ∷ 0 ∷ []) ≡ 0
  to_itself : list_refusal 2 (0 ∷ 0 ∷ 0 ∷ 1 ∷ []) ≡ 0
  no_pair : list_refusal 0 (9 ∷ 9 ∷ []) ≡ 0

pub pair_order : PairOrder
unfolding first_refusal separation_refusals pair_refusals ◌then◌ each_below list_refusal
pair_order =
    record {
      too_many = refl;
      first_outside = refl;
      second_outside = refl;
      twice = refl;
      falling = refl;
      outside_and_falling = refl;
      first_pair_decides = refl;
      by_first_number = refl;
      to_itself = refl;
      no_pair = refl;
    }

-- ---- a flow table of two entities: four bytes, and what the buffer has behind them
flow_table : ℕ → ℕ → ℕ → ℕ → List ℕ
flow_table a b c d = a ∷ b ∷ c ∷ d ∷ replicate 12540 255

-- 1 before 5 before 12; bytes past the used part are not judged
pub record FlowOrder : Type 0 where
  other_short : first_refusal (flow_refusals true 113 (flow_table 2 2 2 2)) ≡ 1
  table_short : first_refusal (flow_refusals false 113 (replicate 12543 2)) ≡ 1
  n_over : first_refusal (flow_refusals false 113 (flow_table 2 2 2 2)) ≡ 5
  byte_2 : first_refusal (flow_refusals false 2 (flow_table 1 2 0 1)) ≡ 12
  diagonal_0 : first_refusal (flow_refusals false 2 (flow_table 1 1 1 0)) ≡ 12
  sound : first_refusal (flow_refusals false 2 (flow_table 1 1 0 1)) ≡ 0
  entity_2 : first_refusal (entity_refusals 2 2) ≡ 10
  entity_1 : first_refusal (entity_refusals 2 1) ≡ 0
  first_outside : first_refusal (pair_asked_refusals 2 2 0) ≡ 10
  second_outside : first_refusal (pair_asked_refusals 2 0 2) ≡ 10
  both_inside : first_refusal (pair_asked_refusals 2 1 0) ≡ 0

pub flow_order : FlowOrder
unfolding first_refusal ◌then◌ any_below byte_refusals flow_size_refusals flow_refusals entity_refusals pair_asked_refusals flow_table
flow_order =
    record {
      other_short = refl;
      table_short = refl;
      n_over = refl;
      byte_2 = refl;
      diagonal_0 = refl;
      sound = refl;
      entity_2 = refl;
      entity_1 = refl;
      first_outside = refl;
      second_outside = refl;
      both_inside = refl;
    }
