-- The laws of demand 3 at the small sheet and its network: their premises are met.
use mathlib.Core.Path.{◌≡◌, refl}
use mathlib.Core.List.{[], ◌∷◌}
use lib.Dec.{lit<}
use lib.ListN.{get_or}
use Rattle.answers.specs.Rows.{count}
use Rattle.tables.specs.Sheet.{sheet_in}
use Rattle.theory.proofs.Chains.{chain_flow, one_best}
use Rattle.access.specs.Channel.{Channel}
use Rattle.transfers.specs.Acts.{verdict_byte, verdict_bytes, plus, acted, after}
use Rattle.transfers.specs.Demand3.{transfer_of, chain_transfers, Alike, Reached, chain_moves}
use Rattle.rehearsal.specs.Demand3.{RehearsesChain, RehearsesChainFlat}
use Rattle.transfers.specs.Transfers.{flat_transfers, flat_bytes}
use Rattle.transfers.specs.Rehearse.{tally, new_tally, Rehearsed, rehearsed, raised}
use Rattle.rehearsal.specs.Calls.{RehearsesRecords}
use Rattle.rehearsal.proofs.Determined.{rehearse_determined, rehearse_records_determined}
use Rattle.rehearsal.proofs.Entries.{threes_as_records}
use Rattle.rehearsal.proofs.SameAnswers.{flat_alike, records_alike}
use Rattle.rehearsal.proofs.ShownChain.{accepted_records_reach, accepted_flat_reach, records_reach, flat_reach, label_reaches_records, label_reaches_flat}
use Rattle.transfers.proofs.SmallNetwork.{marks, chain}
use Rattle.rehearsal.proofs.SmallSheet.{sheet, sheet_best, entity_1_not_to_2}
use Rattle.rehearsal.proofs.SmallCalls.{verdicts, lent_0, lent_1, ready, result, call, call_flat, unchanged, refused}

one_answer : {r : Rehearsed} → RehearsesChainFlat sheet chain (marks 7 0) (verdicts 9) new_tally r → r ≡ result 7 0 9
one_answer p = rehearse_determined sheet _ p (call_flat 7 0 9)

one_answer_records : {r : Rehearsed} → RehearsesChain sheet chain (marks 7 0) (verdicts 9) new_tally r → r ≡ result 7 0 9
one_answer_records p = rehearse_records_determined sheet _ p (call 7 0 9)

-- six flat bytes, and the two records that they are
as_records : RehearsesRecords sheet (flat_transfers (0 ∷ 0 ∷ 2 ∷ 1 ∷ 0 ∷ 1 ∷ [])) (marks 7 0) (verdicts 9) new_tally (result 7 0 9)
unfolding sheet chain_transfers transfer_of flat_bytes
as_records = threes_as_records sheet (marks 7 0) (verdicts 9) new_tally (0 ∷ 0 ∷ 2 ∷ 1 ∷ 0 ∷ 1 ∷ []) refl (call_flat 7 0 9)

-- met by the shown chain's transfers as records, from marks that differ at entity 1 only: both rehearsals are alike
alike : Alike 3 (Channel (sheet_in sheet)) 1 2 (result 7 0 9) (result 7 3 5)
unfolding sheet chain_transfers
alike = records_alike sheet new_tally lent_1 _ (call 7 0 9) (call 7 3 5)

-- met by the shown chain's transfers as flat bytes, from marks that differ at entity 1 only: both rehearsals are alike
alike_flat : Alike 3 (Channel (sheet_in sheet)) 1 2 (result 7 0 9) (result 7 3 5)
unfolding sheet chain_transfers flat_bytes
alike_flat = flat_alike sheet new_tally lent_1 _ (call_flat 7 0 9) (call_flat 7 3 5)

-- met by a flat list of one byte, which both calls refuse by 15, from marks that differ at entity 1 only: they too are alike
alike_refused : Alike 3 (Channel (sheet_in sheet)) 1 0 (unchanged 7 0 9) (unchanged 7 3 5)
unfolding sheet
alike_refused = flat_alike sheet new_tally lent_1 (0 ∷ []) (refused 7 0 9) (refused 7 3 5)

still_equal : get_or (result 7 0 9).marks 2 0 ≡ get_or (result 7 3 5).marks 2 0
still_equal = alike.same_marks 2 (lit< tt) entity_1_not_to_2

-- met by the shown chain 0, 2, 1 as records, from marks 7 and 9 of entity 0: both transfers are applied, different marks at 1
reached : Reached 2 1 (result 7 0 9) (result 9 0 5)
reached = records_reach sheet sheet_best new_tally lent_0 (ready 7 0 9) (call 7 0 9) (call 9 0 5)

-- met by the shown chain 0, 2, 1 as flat bytes, from marks 7 and 9 of entity 0: both transfers are applied, different marks at 1
reached_flat : Reached 2 1 (result 7 0 9) (result 9 0 5)
reached_flat = flat_reach sheet sheet_best new_tally lent_0 (ready 7 0 9) (call_flat 7 0 9) (call_flat 9 0 5)

-- met by rehearsals of the shown chain 0, 2, 1 as records that answered 0, from marks 7 and 9 of entity 0: different marks at 1
reached_accepted : Reached 2 1 (result 7 0 9) (result 9 0 5)
unfolding result rehearsed
reached_accepted = accepted_records_reach sheet sheet_best new_tally lent_0 refl (call 7 0 9) (call 9 0 5)

-- met by rehearsals of the shown chain 0, 2, 1 as flat bytes that answered 0, from marks 7 and 9 of entity 0: different marks at 1
reached_accepted_flat : Reached 2 1 (result 7 0 9) (result 9 0 5)
unfolding result rehearsed
reached_accepted_flat = accepted_flat_reach sheet sheet_best new_tally lent_0 refl (call_flat 7 0 9) (call_flat 9 0 5)

-- the label alone leads to that chain
shown : (label_reaches_records sheet new_tally lent_0 (ready 7 0 9) (chain_flow sheet_best.chain)).0 ≡ chain
shown = one_best (label_reaches_records sheet new_tally lent_0 (ready 7 0 9) (chain_flow sheet_best.chain)).1 sheet_best

-- met by the label of 1, which holds 0: the chain that is shown, for the flat bytes too, is 0, 2, 1
shown_flat : (label_reaches_flat sheet new_tally lent_0 (ready 7 0 9) (chain_flow sheet_best.chain)).0 ≡ chain
shown_flat = one_best (label_reaches_flat sheet new_tally lent_0 (ready 7 0 9) (chain_flow sheet_best.chain)).1 sheet_best

-- they end with 7 and 9 at 1, and the tally has counted two
ends : (get_or (result 7 0 9).marks 1 0 ≡ 7) × (get_or (result 9 0 5).marks 1 0 ≡ 9) × ((result 7 0 9).tally ≡ tally 2 0 0)
unfolding result rehearsed chain_moves after acted plus marks raised verdict_bytes verdict_byte count
ends = (refl, refl, refl)
