-- What the refusals of both entries look at: lengths, counts and the tally. Both refuse alike, and what passes has room for its marks.
use Prim.Native.Nat.{ℕ, ◌*◌, ◌%◌, ◌≤◌, ◌<◌}
use native.Mathlib.Decide.{dec_lt}
use native.Mathlib.Omega.{arith}
use mathlib.Core.Path.{◌≡◌, sym, ◌∙◌}
use mathlib.Core.Bool.{Bool, false}
use mathlib.Core.List.{List}
use lib.Dec.{ltb}
use lib.ListN.{length}
use borrow.Author.Tests.{ltb-false, lt-ltb, le-ltb}
use Rattle.answers.specs.Sizes.{most_entities, most_transfers, most_transfer_bytes, least_marks}
use Rattle.answers.specs.Call.{Refusal, ◌then◌, first_refusal}
use Rattle.tables.specs.Sheet.{Lent, entities}
use Rattle.tables.specs.Refusals.{size_refusals, used_refusals, sheet_refusals}
use Rattle.answers.proofs.Calls.{passed_then, pass_then}
use Rattle.answers.proofs.Joined.{neither}
use Rattle.tables.proofs.Accepted.{sheet_numbered, tables_passed}
use Rattle.tables.proofs.Sounds.{entities_fit}
use Rattle.transfers.specs.declared.Transfer.{Transfer}
use Rattle.transfers.specs.declared.Tally.{Tally}
use Rattle.transfers.specs.Rehearse.{tally_refusals, rehearsal_short}
use Rattle.rehearsal.specs.Calls.{rehearse_refusals, record_refusals}
use Rattle.transfers.specs.Transfers.{flat_bytes}
use Rattle.transfers.specs.Demand3.{TwoLendings}
use Rattle.rehearsal.specs.Demand3.{Ready}
use Rattle.transfers.proofs.FlatBytes.{flat_length}

-- few entities, and a mark for each
pub record Room (l : Lent) (marks : List ℕ) : Type 0 where
  pub few : entities l.counts ≤ most_entities
  pub room : entities l.counts ≤ length marks

module _ (l : Lent) (marks verdicts : List ℕ) (long : Bool) where
  pub sheet_room : first_refusal (sheet_refusals (rehearsal_short (length marks) (length verdicts)) long l) ≡ 0 → Room l marks
  unfolding rehearsal_short
  sheet_room none =
      let p = tables_passed _ _ l none in
      let few = entities_fit l p.sized in
      let m : least_marks ≤ length marks = ltb-false _ _ (neither _ _ p.not_short).0 in
      record { few = few; room = omega arith }

  -- whatever else the call refuses
  pub passed_room : (own : List Refusal) → first_refusal (sheet_refusals (rehearsal_short (length marks) (length verdicts)) long l then own) ≡ 0 →
      Room l marks
  passed_room own none = sheet_room (passed_then _ own (sheet_numbered _ long l) none).0

-- ---- lengths are all that is looked at of marks and verdict bytes
module _ {n x : ℕ} {marks marks' verdicts verdicts' : List ℕ} (two : TwoLendings n x marks marks' verdicts verdicts') (l : Lent) (t : Tally) where
  same_short : rehearsal_short (length marks) (length verdicts) ≡ rehearsal_short (length marks') (length verdicts')
  unfolding rehearsal_short
  same_short = rw (two.starts.apart.same_length, two.same_verdict_length)

  pub flat_refused_alike : (transfers : List ℕ) →
      rehearse_refusals l transfers marks verdicts t ≡ rehearse_refusals l transfers marks' verdicts' t
  unfolding rehearse_refusals
  flat_refused_alike transfers = rw same_short

  pub records_refused_alike : (ts : List Transfer) → record_refusals l ts marks verdicts t ≡ record_refusals l ts marks' verdicts' t
  unfolding record_refusals
  records_refused_alike ts = rw same_short

-- ---- the two entries
threes_over : (n : ℕ) → ltb most_transfer_bytes (3 * n) ≡ ltb most_transfers n
threes_over n = go (dec_lt most_transfers n)
  where
    go : Dec (most_transfers < n) → ltb most_transfer_bytes (3 * n) ≡ ltb most_transfers n
    go (yes h) = lt-ltb _ (3 * n) (omega arith) ∙ sym (lt-ltb _ n h)
    go (no h) = le-ltb _ (3 * n) (omega arith) ∙ sym (le-ltb _ n (omega arith))

module _ (l : Lent) (ts : List Transfer) (marks verdicts : List ℕ) (t : Tally) where
  pub entries_refuse_alike : first_refusal (rehearse_refusals l (flat_bytes ts) marks verdicts t)
      ≡ first_refusal (record_refusals l ts marks verdicts t)
  unfolding rehearse_refusals record_refusals sheet_refusals size_refusals used_refusals tally_refusals first_refusal ◌then◌
  entries_refuse_alike =
      let whole : 3 * length ts % 3 ≡ 0 = omega arith in
      rw (flat_length ts, threes_over (length ts), whole)

  -- a list that is not over its size is refused only for the sheet, the buffers or the tally
  pub records_pass : Ready l marks verdicts t → length ts ≤ most_transfers → first_refusal (record_refusals l ts marks verdicts t) ≡ 0
  unfolding record_refusals
  records_pass ready fits =
      rw (le-ltb most_transfers (length ts) fits)
      (pass_then _ (tally_refusals t) (sheet_numbered (rehearsal_short (length marks) (length verdicts)) false l) ready.sheet ready.tally)
