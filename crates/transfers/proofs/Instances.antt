-- The laws of demand 3 at the small network: their premises are met, by transfers and by another kind of transfer.
use Prim.Native.Nat.{ℕ, ◌%◌, ◌^◌, ◌≤◌, ◌<◌}
use mathlib.Core.Path.{◌≡◌, refl}
use mathlib.Core.List.{List, [], ◌∷◌}
use native.Mathlib.Omega.{arith}
use lib.Dec.{lit<, lit≤}
use lib.ListN.{length, get_or}
use Rattle.answers.proofs.Calls.{accept, none_left}
use Rattle.theory.proofs.Chains.{shortest_distinct}
use Rattle.transfers.specs.declared.Act.{Act}
use Rattle.transfers.specs.declared.Act.TheVariants.{Moves, OutOfRange}
use Rattle.transfers.specs.Acts.{after, AllCome, none, next, Along, OneAct}
use Rattle.transfers.specs.Transfers.{flat_bytes}
use Rattle.transfers.specs.Rehearse.{new_tally, Rehearsed, rehearsed, Rehearses}
use Rattle.transfers.specs.Demand3.{chain_transfers, Alike, Reached, chain_moves}
use Rattle.transfers.proofs.Moving.{AllMove}
use Rattle.transfers.proofs.Acting.{comes_along, one_act}
use Rattle.transfers.proofs.Shares.{share, weighed}
use Rattle.transfers.proofs.Labels.{chain_along, share_outside, share_along}
use Rattle.transfers.proofs.TwoRuns.{final_mark, label_lacks, label_holds}
use Rattle.transfers.proofs.Chains.{chain_comes, chain_bytes}
use Rattle.transfers.proofs.AlikeRuns.{outcomes_alike}
use Rattle.transfers.proofs.Reaching.{chain_reached}
use Rattle.transfers.proofs.Examples.{Hop, written, read, few}
use Rattle.transfers.proofs.SmallNetwork.{chain, inside, sides, best, entity_1_stays, marks, starts_0, starts_1}

moved : AllMove Hop (chain_moves chain)
moved = chain_along best.chain

room : 3 ≤ length (marks 7 0)
unfolding marks
room = lit≤ tt

final_mark_of_1 : get_or (after (chain_moves chain) (marks 7 0)) 1 0 ≡ weighed 3 (chain_moves chain) (marks 7 0) 1 % 2 ^ 32
final_mark_of_1 = final_mark inside (lit< tt) (marks 7 0) moved room starts_0.bits

share_of_0 : share (chain_moves chain) 0 1 ≡ 1
share_of_0 = share_along best.chain (shortest_distinct best.chain best.shortest)

share_of_1 : share (chain_moves chain) 1 2 ≡ 0
share_of_1 = share_outside moved 1 2 (λ f. omega (arith, entity_1_stays f))

entity_2_lacks_1 : get_or (after (chain_moves chain) (marks 7 0)) 2 0 ≡ get_or (after (chain_moves chain) (marks 7 3)) 2 0
entity_2_lacks_1 = label_lacks inside (lit< tt) starts_1 room comes_along (chain_comes few sides best.chain) (λ f. omega (arith, entity_1_stays f))

entity_1_holds_0 : get_or (after (chain_moves chain) (marks 7 0)) 1 0 ≡ get_or (after (chain_moves chain) (marks 9 0)) 1 0 → ⊥
entity_1_holds_0 = label_holds inside (lit< tt) starts_0 room best

bytes_of_the_chain : (k : ℕ) → get_or (flat_bytes (chain_transfers few chain)) k 0 < 256
bytes_of_the_chain = chain_bytes few sides (lit≤ tt) best.chain

-- ---- rehearsals
abbrev result : ℕ → ℕ → ℕ → Rehearsed
result a b v = rehearsed (chain_moves chain) (marks a b) (v ∷ v ∷ []) new_tally

-- of any transfers that come to the moves along the chain
module _ {T : Type 0} {comes : T → Act → Type 0} {ts : List T} (along : Along comes Hop) (one : OneAct comes)
    (come : AllCome comes ts (chain_moves chain)) where
  rehearses : (a b v : ℕ) → Rehearses comes ts (marks a b) (v ∷ v ∷ []) new_tally (result a b v)
  rehearses a b v = record { acts = chain_moves chain; come = come; result_is = refl }

  alike : Alike 3 Hop 1 (length ts) (result 7 0 9) (result 7 3 5)
  alike =
      outcomes_alike inside along one starts_1 {refusals = []} refl (λ _. room) (accept none_left (rehearses 7 0 9))
      (accept none_left (rehearses 7 3 5))

  reached : Reached 2 1 (result 7 0 9) (result 9 0 5)
  reached = chain_reached one chain come inside (lit< tt) starts_0 room best (rehearses 7 0 9) (rehearses 9 0 5)

-- transfers by subject, object and mode
chain_alike : Alike 3 Hop 1 2 (result 7 0 9) (result 7 3 5)
unfolding chain_transfers
chain_alike = alike comes_along one_act (chain_comes few sides best.chain)

chain_is_reached : Reached 2 1 (result 7 0 9) (result 9 0 5)
chain_is_reached = reached comes_along one_act (chain_comes few sides best.chain)

-- and another kind of transfer: 0 writes, 1 reads
data Numbered : ℕ → Act → Type 0 where
  zeroth : Numbered 0 (Moves 0 2)
  first : Numbered 1 (Moves 2 1)
  further : {n : ℕ} → 2 ≤ n → Numbered n OutOfRange

numbered_along : Along Numbered Hop
numbered_along _ _ _ zeroth = written
numbered_along _ _ _ first = read

numbered_one : OneAct Numbered
numbered_one _ _ _ zeroth zeroth = refl
numbered_one _ _ _ zeroth (further h) = absurd (omega arith)
numbered_one _ _ _ first first = refl
numbered_one _ _ _ first (further h) = absurd (omega arith)
numbered_one _ _ _ (further h) zeroth = absurd (omega arith)
numbered_one _ _ _ (further h) first = absurd (omega arith)
numbered_one _ _ _ (further h) (further k) = refl

numbered_come : AllCome Numbered (0 ∷ 1 ∷ []) (chain_moves chain)
unfolding chain_moves
numbered_come = next zeroth (next first none)

numbered_alike : Alike 3 Hop 1 2 (result 7 0 9) (result 7 3 5)
numbered_alike = alike numbered_along numbered_one numbered_come

numbered_reached : Reached 2 1 (result 7 0 9) (result 9 0 5)
numbered_reached = reached numbered_along numbered_one numbered_come
