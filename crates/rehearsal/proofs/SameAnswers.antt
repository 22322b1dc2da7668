-- Demand 3, first half, for the calls as they are: from marks that differ at x only, both calls answer and count the same, and an entity
-- whose label lacks x ends with equal marks.
use Prim.Native.Nat.{ℕ, ◌/◌}
use mathlib.Core.List.{List}
use lib.ListN.{length}
use Rattle.tables.specs.Sheet.{Lent, sheet_of, sheet_in, entities}
use Rattle.access.specs.Channel.{Channel}
use Rattle.access.proofs.Channels.{channel_inside}
use Rattle.transfers.specs.declared.Transfer.{Transfer}
use Rattle.transfers.specs.declared.Tally.{Tally}
use Rattle.transfers.specs.Demand3.{TwoLendings, Alike}
use Rattle.transfers.specs.Rehearse.{Rehearsed}
use Rattle.rehearsal.specs.Calls.{rehearse_refusals, record_refusals, RehearsesFlat, RehearsesRecords}
use Rattle.transfers.proofs.Acting.{comes_along, one_act}
use Rattle.transfers.proofs.AlikeRuns.{outcomes_alike}
use Rattle.transfers.proofs.FlatBytes.{transfers_length}
use Rattle.rehearsal.proofs.Accepted.{passed_room, flat_refused_alike, records_refused_alike}

-- "Both rehearsals give equal answers and counts, and an entity whose label lacks x ends with equal marks", also where they are refused
module _ (l : Lent) {marks marks' verdicts verdicts' : List ℕ} (t : Tally) {x : ℕ}
    (two : TwoLendings (entities l.counts) x marks marks' verdicts verdicts') {r r' : Rehearsed} where
  -- "Both rehearsals give equal answers and counts, and an entity whose label lacks x ends with equal marks": of two calls of `rehearse`
  pub flat_alike : (transfers : List ℕ) →
      RehearsesFlat l transfers marks verdicts t r → RehearsesFlat l transfers marks' verdicts' t r' →
      Alike (entities l.counts) (Channel (sheet_in l)) x (length transfers / 3) r r'
  unfolding sheet_of rehearse_refusals
  flat_alike transfers p q =
      rw (← transfers_length transfers)
      (outcomes_alike channel_inside comes_along one_act two.starts (flat_refused_alike two l t transfers)
      (λ none. (passed_room l marks verdicts _ _ none).room) p q)

  -- "equal answers and counts, and an entity whose label lacks x ends with equal marks": of two calls of `rehearse_records`
  pub records_alike : (ts : List Transfer) →
      RehearsesRecords l ts marks verdicts t r → RehearsesRecords l ts marks' verdicts' t r' →
      Alike (entities l.counts) (Channel (sheet_in l)) x (length ts) r r'
  unfolding sheet_of record_refusals
  records_alike ts p q =
      outcomes_alike channel_inside comes_along one_act two.starts (records_refused_alike two l t ts)
      (λ none. (passed_room l marks verdicts _ _ none).room) p q
