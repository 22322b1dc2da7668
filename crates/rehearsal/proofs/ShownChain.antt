-- Demand 3, second half, for the calls as they are: the shown chain's transfers are accepted and all applied, and end with different
-- marks at the chain's end.
use Prim.Native.Nat.{ℕ, ◌-◌, ◌≤◌, ◌<◌}
use native.Mathlib.Omega.{arith}
use mathlib.Core.Path.{◌≡◌, refl}
use mathlib.Core.Bool.{false}
use mathlib.Core.List.{List}
use lib.ListN.{length}
use Rattle.answers.specs.Call.{first_refusal}
use Rattle.tables.specs.Sheet.{Lent, sheet_of, sheet_in, entities}
use Rattle.theory.specs.Flow.{Flow}
use Rattle.theory.specs.Order.{InLabel}
use Rattle.theory.specs.Chain.{Best}
use Rattle.theory.proofs.Flows.{flow_inside}
use Rattle.theory.proofs.Distinct.{distinct_fits}
use Rattle.theory.proofs.Chains.{chain_flow, chain_inside, shortest_distinct}
use Rattle.answers.proofs.Calls.{answered}
use Rattle.access.specs.Channel.{Channel, TwoSided}
use Rattle.access.proofs.Channels.{two_sided, channel_inside}
use Rattle.access.proofs.Decided.{sheet_chain_exists}
use Rattle.transfers.specs.declared.Tally.{Tally}
use Rattle.transfers.specs.Rehearse.{Rehearsed}
use Rattle.rehearsal.specs.Calls.{record_refusals}
use Rattle.transfers.specs.Demand3.{chain_transfers, TwoLendings, Reached}
use Rattle.rehearsal.specs.Demand3.{RehearsesChain, RehearsesChainFlat, Ready}
use Rattle.transfers.proofs.Chains.{chain_transfers_length, chain_comes}
use Rattle.transfers.proofs.Acting.{one_act}
use Rattle.transfers.proofs.Reaching.{chain_reached}
use Rattle.rehearsal.proofs.Accepted.{sheet_room, passed_room, records_refused_alike, records_pass}
use Rattle.rehearsal.proofs.Entries.{flat_as_records}

module _ (l : Lent) {x y : ℕ} {chain : List ℕ} (best : Best (Channel (sheet_in l)) x y chain) where
  -- it has at most as many entities as the sheet
  chain_fits : x < entities l.counts → length chain ≤ entities l.counts
  unfolding sheet_of
  chain_fits entity =
      distinct_fits _ _ (shortest_distinct best.chain best.shortest) (chain_inside channel_inside entity best.chain)

  module _ {marks marks' verdicts verdicts' : List ℕ} (t : Tally)
      (two : TwoLendings (entities l.counts) x marks marks' verdicts verdicts') {r r' : Rehearsed} where
    passed_reach : first_refusal (record_refusals l (chain_transfers l.counts chain) marks verdicts t) ≡ 0 →
        RehearsesChain l chain marks verdicts t r → RehearsesChain l chain marks' verdicts' t r' → Reached (length chain - 1) y r r'
    unfolding sheet_of record_refusals
    passed_reach none p q =
        let s = two.starts in
        let room = (passed_room l marks verdicts _ _ none).room in
        let below = flow_inside channel_inside s.entity (chain_flow best.chain) in
        let sides : (a b : ℕ) → Channel (sheet_in l) a b → TwoSided l.counts a b = λ a b h. two_sided h in
        let same = records_refused_alike two l t (chain_transfers l.counts chain) in
        chain_reached one_act chain (chain_comes l.counts sides best.chain) channel_inside below s room best (p.done none)
        (q.done (rw same at none))

    -- "an accepted rehearsal of the shown chain's transfers ends .. with different marks at y"
    pub accepted_records_reach : r.answer ≡ 0 →
        RehearsesChain l chain marks verdicts t r → RehearsesChain l chain marks' verdicts' t r' → Reached (length chain - 1) y r r'
    accepted_records_reach e p q = passed_reach (answered (λ r. r.answer) (λ _. refl) p e) p q

    -- "an accepted rehearsal of the shown chain's transfers ends .. with different marks at y": of two calls of `rehearse`, the first accepted
    pub accepted_flat_reach : r.answer ≡ 0 →
        RehearsesChainFlat l chain marks verdicts t r → RehearsesChainFlat l chain marks' verdicts' t r' → Reached (length chain - 1) y r r'
    accepted_flat_reach e p q =
        accepted_records_reach e (flat_as_records l marks verdicts t _ p) (flat_as_records l marks' verdicts' t _ q)

    -- and where nothing else is refused it is accepted: 5 for the list and 15 cannot come
    pub records_reach : Ready l marks verdicts t →
        RehearsesChain l chain marks verdicts t r → RehearsesChain l chain marks' verdicts' t r' → Reached (length chain - 1) y r r'
    records_reach ready p q =
        let room = sheet_room l marks verdicts false ready.sheet in
        let fits = chain_fits two.starts.entity in
        let size = chain_transfers_length l.counts best.chain in
        passed_reach (records_pass l _ marks verdicts t ready (omega arith)) p q

    -- the same of two calls of `rehearse`: where sheet, buffers and tally pass, both are accepted and end "with different marks at y"
    pub flat_reach : Ready l marks verdicts t →
        RehearsesChainFlat l chain marks verdicts t r → RehearsesChainFlat l chain marks' verdicts' t r' → Reached (length chain - 1) y r r'
    flat_reach ready p q = records_reach ready (flat_as_records l marks verdicts t _ p) (flat_as_records l marks' verdicts' t _ q)

-- "If y's label holds x" there is a shown chain, and it is so of its transfers
module _ (l : Lent) {marks marks' verdicts verdicts' : List ℕ} (t : Tally) {x y : ℕ}
    (two : TwoLendings (entities l.counts) x marks marks' verdicts verdicts') (ready : Ready l marks verdicts t)
    (holds : InLabel (Flow (Channel (sheet_in l))) y x) where
  -- "If y's label holds x" there is a shown chain whose transfers `rehearse_records` accepts, ending "with different marks at y"
  pub label_reaches_records : (chain : List ℕ) × Best (Channel (sheet_in l)) x y chain × ((r r' : Rehearsed) →
      RehearsesChain l chain marks verdicts t r → RehearsesChain l chain marks' verdicts' t r' → Reached (length chain - 1) y r r')
  label_reaches_records =
      let (chain, best) = sheet_chain_exists (sheet_in l) holds in
      (chain, best, λ _ _. records_reach l best t two ready)

  -- "If y's label holds x" there is a shown chain whose transfers, as flat bytes, `rehearse` accepts, ending "with different marks at y"
  pub label_reaches_flat : (chain : List ℕ) × Best (Channel (sheet_in l)) x y chain × ((r r' : Rehearsed) →
      RehearsesChainFlat l chain marks verdicts t r → RehearsesChainFlat l chain marks' verdicts' t r' → Reached (length chain - 1) y r r')
  label_reaches_flat =
      let (chain, best) = sheet_chain_exists (sheet_in l) holds in
      (chain, best, λ _ _. flat_reach l best t two ready)
