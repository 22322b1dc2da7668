-- Which of two refusals wins, what a refusal leaves, what stays past the used part, and how sizes hang together.
use mathlib.Core.Path.{◌≡◌, refl}
use mathlib.Core.Bool.{true, false}
use mathlib.Core.List.{[], ◌∷◌}
use Prim.Native.Nat.{◌+◌, ◌*◌}
use lib.Dec.{lit<}
use Rattle.answers.specs.Sizes.{most_subjects, most_objects, most_roles, most_separations, most_entities, most_text, most_transfers, most_transfer_bytes, least_assignment, least_permission, least_separations, least_flow, least_chain, least_label, least_effect, least_text, least_marks, least_verdicts}
use Rattle.answers.specs.Call.{◌if◌, first_refusal, ◌then◌, each_below, told, left, told_and_left}
use Rattle.answers.specs.Rows.{Bytes, over, count, any_below, some_above}

-- the first whose test holds, and of two lists the first that refuses
pub record FirstOf : Type 0 where
  none_holds : first_refusal ((1 if false) ∷ (5 if false) ∷ []) ≡ 0
  second_holds : first_refusal ((1 if false) ∷ (5 if true) ∷ []) ≡ 5
  both_hold : first_refusal ((1 if true) ∷ (5 if true) ∷ []) ≡ 1
  both_lists : first_refusal (((11 if true) ∷ []) then ((6 if true) ∷ [])) ≡ 11
  lowest_number : first_refusal (each_below 3 (λ i. (i + 1 if true) ∷ [])) ≡ 1

pub first_of : FirstOf
unfolding first_refusal ◌then◌ each_below
first_of = record { none_holds = refl; second_holds = refl; both_hold = refl; both_lists = refl; lowest_number = refl }

-- the used part in front, and the rest as it was
pub past_the_used_part : over (1 ∷ 2 ∷ []) (9 ∷ 8 ∷ 7 ∷ []) ≡ 1 ∷ 2 ∷ 7 ∷ []
unfolding over
past_the_used_part = refl

-- "Bytes past the used part are neither judged nor altered": of two bytes the first is used
pub rest_not_judged : some_above (1 ∷ 9 ∷ []) 1 3 ≡ false
unfolding any_below
rest_not_judged = refl

-- how many bytes are 1
pub counted : count 1 (1 ∷ 0 ∷ 1 ∷ 2 ∷ []) ≡ 2
unfolding count
counted = refl

-- in a table of two rows, the byte at 0 x 2 + 1 is that of 0 to 1
pub entity_0_to_1 : Bytes 2 (0 ∷ 1 ∷ 0 ∷ 0 ∷ []) 0 1
entity_0_to_1 = record { source = lit< tt; target = lit< tt; byte = refl }

-- "Every refusal changes no lent byte, number or tally. Every other number in its answer .. is 0"
pub record Unchanged : Type 0 where
  a_buffer : left (7 ∷ 8 ∷ []) 5 ≡ (5, 7 ∷ 8 ∷ [])
  a_value_and_a_buffer : told_and_left (7 ∷ 8 ∷ []) 5 ≡ (told 5 0, 7 ∷ 8 ∷ [])

pub unchanged : Unchanged
unchanged = record { a_buffer = refl; a_value_and_a_buffer = refl }

-- "entities N = S + O", "S x R bytes", "R x O bytes", "two entity numbers each", "N x N bytes", "three each": "a buffer's least length is
-- that of its largest use". A text has at most a header, a line for each byte of both tables, for each separation, and the end line.
pub record LargestUse : Type 0 where
  entities : most_entities ≡ most_subjects + most_objects
  assignment : least_assignment ≡ most_subjects * most_roles
  permission : least_permission ≡ most_roles * most_objects
  separations : least_separations ≡ 2 * most_separations
  flow : least_flow ≡ most_entities * most_entities
  chain : least_chain ≡ most_entities
  label : least_label ≡ most_entities
  effect : least_effect ≡ most_entities
  marks : least_marks ≡ most_entities
  verdicts : least_verdicts ≡ most_transfers
  flat_list : most_transfer_bytes ≡ 3 * most_transfers
  text_read : most_text ≡ 9 + 7 * least_assignment + 9 * least_permission + 7 * most_separations + 7
  text_written : least_text ≡ most_text

pub largest_use : LargestUse
largest_use =
    record {
      entities = refl;
      assignment = refl;
      permission = refl;
      separations = refl;
      flow = refl;
      chain = refl;
      label = refl;
      effect = refl;
      marks = refl;
      verdicts = refl;
      flat_list = refl;
      text_read = refl;
      text_written = refl;
    }
