-- Demand 3, second half, over any relation of channels and any kind of transfer: transfers that come to the moves along the shown chain
-- are all applied, and end with different marks at the chain's end.
use Prim.Native.Nat.{ℕ, ◌-◌, ◌≤◌, ◌<◌}
use mathlib.Core.Path.{◌≡◌, refl, sym, ap, ◌∙◌}
use mathlib.Core.List.{List}
use lib.ListN.{length, length-replicate}
use Rattle.theory.specs.Chain.{Chain, Best}
use Rattle.transfers.specs.declared.Act.{Act}
use Rattle.transfers.specs.declared.Tally.{Tally}
use Rattle.transfers.specs.Acts.{AllCome, OneAct}
use Rattle.transfers.specs.Rehearse.{Rehearsed, rehearsed, Rehearses}
use Rattle.transfers.specs.Demand3.{Starts, AllApplied, Reached, chain_moves}
use Rattle.transfers.proofs.Moving.{come_length}
use Rattle.transfers.proofs.Determined.{one_list}
use Rattle.transfers.proofs.TwoRuns.{label_holds}
use Rattle.transfers.proofs.Chains.{chain_verdicts, chain_applied}
use Rattle.transfers.proofs.AlikeRuns.{list_verdicts}
use Rattle.theory.specs.Laws.{Inside}

module _ {T : Type 0} {comes : T → Act → Type 0} (one : OneAct comes) {ts : List T} (l : List ℕ) (come : AllCome comes ts (chain_moves l)) where
  chain_rehearsed : {marks verdicts : List ℕ} {t : Tally} {r : Rehearsed} → Rehearses comes ts marks verdicts t r →
      r ≡ rehearsed (chain_moves l) marks verdicts t
  chain_rehearsed {marks} {verdicts} {t} done =
      done.result_is ∙ ap (λ acts. rehearsed acts marks verdicts t) (one_list one done.come come)

  module _ {ch : ℕ → ℕ → Type 0} {x y : ℕ} where
    chain_all_applied : {marks verdicts : List ℕ} {t : Tally} {r : Rehearsed} → Chain ch x y l → Rehearses comes ts marks verdicts t r →
        AllApplied (length l - 1) r
    unfolding rehearsed
    chain_all_applied {verdicts = verdicts} chain done =
        let size : length ts ≡ length l - 1 = sym (come_length come) ∙ ap length (chain_verdicts chain) ∙ length-replicate (length l - 1) 0 in
        rw (chain_rehearsed done)
        record {
          accepted = refl;
          all_counted = chain_applied chain;
          all_zero = rw (← size) (list_verdicts come verdicts) ∙ chain_verdicts chain;
        }

    -- "an accepted rehearsal of the shown chain's transfers ends .. with different marks at y", all applied, if they come to its moves
    pub chain_reached : {n : ℕ} {marks marks' verdicts verdicts' : List ℕ} {t : Tally} {r r' : Rehearsed} → Inside n ch → y < n →
        Starts n x marks marks' → n ≤ length marks → Best ch x y l →
        Rehearses comes ts marks verdicts t r → Rehearses comes ts marks' verdicts' t r' → Reached (length l - 1) y r r'
    unfolding rehearsed
    chain_reached inside below s room best p q =
        record {
          applied = chain_all_applied best.chain p;
          applied' = chain_all_applied best.chain q;
          differ = rw (chain_rehearsed p, chain_rehearsed q) (label_holds inside below s room best);
        }
