-- "Bytes past the used part are neither judged nor altered": for each call, lent tables that differ past the used parts at most, and other
-- buffers of the same lengths, give the same refusals.
use Prim.Native.Nat.{ℕ, ◌*◌}
use mathlib.Core.Path.{◌≡◌, refl}
use mathlib.Core.List.{List, [], ◌∷◌, ◌++◌}
use lib.ListN.{length, replicate, length-append, length-replicate, get_or-append}
use Rattle.answers.specs.Rows.{SameUsed}
use Rattle.answers.proofs.Unjudged.{shorter_same}
use Rattle.tables.specs.Sheet.{Lent, lent, counts, SameTables}
use Rattle.tables.proofs.Unjudged.{sheet_unjudged, separations_unjudged, bytes_unjudged, flow_unjudged}
use Rattle.transfers.specs.declared.Transfer.{Transfer}
use Rattle.transfers.specs.declared.Tally.{Tally}
use Rattle.reader.specs.Fill.{Tables}
use Rattle.sheet.specs.Read.{read_refusals}
use Rattle.sheet.specs.Write.{write_refusals}
use Rattle.flow.specs.Fill.{fill_refusals}
use Rattle.questions.specs.Questions.{asked_refusals, both_asked_refusals, label_refusals}
use Rattle.effects.specs.Effects.{effect_refusals}
use Rattle.effects.specs.ChosenRow.{can_choose}
use Rattle.change.specs.Change.{change_refusals, set_assignment_refusals, set_permission_refusals}
use Rattle.verdict.specs.Chain.{chain_refusals}
use Rattle.verdict.specs.Judge.{judge_refusals}
use Rattle.rehearsal.specs.Calls.{rehearse_refusals, record_refusals}

-- ---- calls on tables
module _ (l l' : Lent) (same : SameTables l l') where
  -- "Bytes past the used part are neither judged" by `fill`: whatever they are, its refusals are the same, for flow buffers of one length
  pub fill_unjudged : (flow flow' : List ℕ) → length flow ≡ length flow' → fill_refusals l flow ≡ fill_refusals l' flow'
  unfolding fill_refusals
  fill_unjudged flow flow' e = rw (e, sheet_unjudged _ _ l l' same)

  -- "Bytes past the used part are neither judged" by `chain`: whatever they are, its refusals are the same, for chain buffers of one length
  pub chain_unjudged : (x y : ℕ) (chain chain' : List ℕ) → length chain ≡ length chain' → chain_refusals l x y chain ≡ chain_refusals l' x y chain'
  unfolding chain_refusals
  chain_unjudged x y chain chain' e = rw (e, sheet_unjudged _ _ l l' same, same.same_counts)

  pub change_unjudged : (rows columns most i j value : ℕ) → change_refusals l rows columns most i j value ≡ change_refusals l' rows columns most i j value
  unfolding change_refusals
  change_unjudged rows columns most i j value = rw (sheet_unjudged _ _ l l' same)

  -- "Bytes past the used part are neither judged" by `set_assignment`: whatever they are, its refusals are the same
  pub assignment_unjudged : (s r value : ℕ) → set_assignment_refusals l s r value ≡ set_assignment_refusals l' s r value
  unfolding set_assignment_refusals
  assignment_unjudged s r value = rw (change_unjudged _ _ _ s r value, same.same_counts)

  -- "Bytes past the used part are neither judged" by `set_permission`: whatever they are, its refusals are the same
  pub permission_unjudged : (r o mode : ℕ) → set_permission_refusals l r o mode ≡ set_permission_refusals l' r o mode
  unfolding set_permission_refusals
  permission_unjudged r o mode = rw (change_unjudged _ _ _ r o mode, same.same_counts)

  module _ (count : ℕ) (separations separations' : List ℕ) (listed : SameUsed (2 * count) separations separations') where
    -- "Bytes past the used part are neither judged" by `judge`, in tables and separations: its refusals are the same, for chain buffers of one length
    pub judge_unjudged : (chain chain' : List ℕ) → length chain ≡ length chain' → judge_refusals l count separations chain ≡ judge_refusals l' count separations' chain'
    unfolding judge_refusals
    judge_unjudged chain chain' e =
        rw (e, shorter_same listed _, sheet_unjudged _ _ l l' same, separations_unjudged _ count separations separations' listed, same.same_counts)

    -- "Bytes past the used part are neither judged" by `write`, in tables and separations: its refusals are the same, for text buffers of one length
    pub write_unjudged : (text text' : List ℕ) → length text ≡ length text' → write_refusals l count separations text ≡ write_refusals l' count separations' text'
    unfolding write_refusals
    write_unjudged text text' e =
        rw (e, shorter_same listed _, sheet_unjudged _ _ l l' same, separations_unjudged _ count separations separations' listed, same.same_counts)

  module _ (marks marks' verdicts verdicts' : List ℕ) (m : length marks ≡ length marks') (v : length verdicts ≡ length verdicts') (t : Tally) where
    -- "Bytes past the used part are neither judged" by `rehearse`: its refusals are the same, for marks, and verdict bytes, of one length
    pub rehearse_unjudged : (transfers : List ℕ) → rehearse_refusals l transfers marks verdicts t ≡ rehearse_refusals l' transfers marks' verdicts' t
    unfolding rehearse_refusals
    rehearse_unjudged transfers = rw (m, v, sheet_unjudged _ _ l l' same)

    -- "Bytes past the used part are neither judged" by `rehearse_records`: its refusals are the same, for marks, and verdict bytes, of one length
    pub records_unjudged : (transfers : List Transfer) → record_refusals l transfers marks verdicts t ≡ record_refusals l' transfers marks' verdicts' t
    unfolding record_refusals
    records_unjudged transfers = rw (m, v, sheet_unjudged _ _ l l' same)

-- ---- calls on a flow table
module _ (n : ℕ) (table table' : List ℕ) (same : SameUsed (n * n) table table') where
  -- "Bytes past the used part are neither judged" by `class_name` and `greatest`, past N x N of a flow table: their refusals are the same
  pub asked_unjudged : (x : ℕ) → asked_refusals n table x ≡ asked_refusals n table' x
  unfolding asked_refusals
  asked_unjudged x = rw (flow_unjudged _ n table table' same)

  -- "Bytes past the used part are neither judged" by `flows` and `compare`, past N x N of a flow table: their refusals are the same
  pub both_unjudged : (x y : ℕ) → both_asked_refusals n table x y ≡ both_asked_refusals n table' x y
  unfolding both_asked_refusals
  both_unjudged x y = rw (flow_unjudged _ n table table' same)

  -- "Bytes past the used part are neither judged" by `label`, past N x N of a flow table: its refusals are the same, for label buffers of one length
  pub label_unjudged : (x : ℕ) (label label' : List ℕ) → length label ≡ length label' → label_refusals n table x label ≡ label_refusals n table' x label'
  label_unjudged x label label' e = rw (e, flow_unjudged _ n table table' same)

  -- "Bytes past the used part are neither judged" by `effect`, past N x N of both tables: its refusals are the same, for effect buffers of one length
  pub effect_unjudged : (after after' : List ℕ) → SameUsed (n * n) after after' → (effect effect' : List ℕ) → length effect ≡ length effect' →
      effect_refusals n table after effect ≡ effect_refusals n table' after' effect'
  unfolding effect_refusals
  effect_unjudged after after' same_after effect effect' e =
      rw (e, shorter_same same_after _, flow_unjudged _ n table table' same, bytes_unjudged n after after' same_after)

-- ---- calls that judge lengths alone
-- "Bytes past the used part are neither judged": a row is chosen, or not, by the lengths of both tables and never by their bytes
pub row_unjudged : (before before' after after' : List ℕ) → length before ≡ length before' → length after ≡ length after' → (n choice x : ℕ) →
    can_choose before after n choice x ≡ can_choose before' after' n choice x
unfolding can_choose
row_unjudged before before' after after' b a n choice x = rw (b, a)

-- "Bytes past the used part are neither judged" by `read`: its refusal by 1 is the same for any buffers, to be filled, of the same three lengths
pub read_unjudged : (t t' : Tables) → length t.assignment ≡ length t'.assignment → length t.permission ≡ length t'.permission →
    length t.separations ≡ length t'.separations → read_refusals t ≡ read_refusals t'
unfolding read_refusals
read_unjudged t t' a p s = rw (a, p, s)

-- ---- at lendings whose bytes past the used parts differ, and would be refused if they were judged
behind : (front rest rest' : List ℕ) → length rest ≡ length rest' → SameUsed (length front) (front ++ rest) (front ++ rest')
behind front rest rest' e =
    record {
      same_length = rw (length-append front rest, length-append front rest', e);
      same_bytes = λ k h. rw (get_or-append front rest 0 k h, get_or-append front rest' 0 k h);
    }

tables : ℕ → Lent
tables b = lent (counts 1 1 1) (1 ∷ replicate 2303 b) (2 ∷ replicate 3071 b)

two_lendings : SameTables (tables 9) (tables 8)
unfolding tables
two_lendings =
    record {
      same_counts = refl;
      assignment = behind (1 ∷ []) (replicate 2303 9) (replicate 2303 8) (rw (length-replicate {A = ℕ} 2303 9, length-replicate {A = ℕ} 2303 8));
      permission = behind (2 ∷ []) (replicate 3071 9) (replicate 3071 8) (rw (length-replicate {A = ℕ} 3071 9, length-replicate {A = ℕ} 3071 8));
    }

-- met by one separation, 0 to 1, in two buffers of 128 bytes: the 126 behind it are 9 in one and 8 in the other
two_lists : SameUsed 2 (0 ∷ 1 ∷ replicate 126 9) (0 ∷ 1 ∷ replicate 126 8)
two_lists = behind (0 ∷ 1 ∷ []) (replicate 126 9) (replicate 126 8) refl

-- met by one flow table, 1 1 0 1, in two buffers of 12,544 bytes: those behind it are 9 in one and 8 in the other
two_tables : SameUsed 4 (1 ∷ 1 ∷ 0 ∷ 1 ∷ replicate 12540 9) (1 ∷ 1 ∷ 0 ∷ 1 ∷ replicate 12540 8)
two_tables = behind (1 ∷ 1 ∷ 0 ∷ 1 ∷ []) (replicate 12540 9) (replicate 12540 8) (rw (length-replicate {A = ℕ} 12540 9, length-replicate {A = ℕ} 12540 8))

-- met by tables and separations with 9 in one lending and 8 in the other past the used parts: the refusals of `judge` are the same
judged_alike : judge_refusals (tables 9) 1 (0 ∷ 1 ∷ replicate 126 9) (replicate 112 7) ≡ judge_refusals (tables 8) 1 (0 ∷ 1 ∷ replicate 126 8) (replicate 112 6)
judged_alike = judge_unjudged (tables 9) (tables 8) two_lendings 1 _ _ two_lists _ _ refl

-- met by flow tables with 9 in one and 8 in the other past the first four bytes: the refusals of a question on 0 are the same
asked_alike : asked_refusals 2 (1 ∷ 1 ∷ 0 ∷ 1 ∷ replicate 12540 9) 0 ≡ asked_refusals 2 (1 ∷ 1 ∷ 0 ∷ 1 ∷ replicate 12540 8) 0
asked_alike = asked_unjudged 2 _ _ two_tables 0
