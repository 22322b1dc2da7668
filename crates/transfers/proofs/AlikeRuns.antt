-- Demand 3, first half, over any relation of channels and any kind of transfer: from marks that differ at x only, two rehearsals answer
-- and count the same, and an entity whose label lacks x ends with equal marks, also where they are refused.
use Prim.Native.Nat.{ℕ, ◌≤◌}
use native.Mathlib.Decide.{ℕ_discrete}
use mathlib.Core.Path.{◌≡◌, refl, sym, ap, subst, ◌∙◌}
use mathlib.Core.Logic.{◌≢◌}
use mathlib.Core.List.{List}
use lib.ListN.{length, take}
use lib.Seq.{take_at}
use Rattle.answers.specs.Call.{Refusal, first_refusal, Outcome}
use Rattle.answers.specs.Rows.{over}
use Rattle.theory.specs.Flow.{Flow, here}
use Rattle.transfers.specs.declared.Act.{Act}
use Rattle.transfers.specs.declared.Tally.{Tally}
use Rattle.transfers.specs.Acts.{verdict_bytes, AllCome, Along, OneAct}
use Rattle.transfers.specs.Rehearse.{Rehearsed, not_rehearsed, rehearsed, Rehearses}
use Rattle.transfers.specs.Demand3.{Starts, Alike}
use Rattle.transfers.proofs.Moving.{come_length}
use Rattle.transfers.proofs.Determined.{one_list}
use Rattle.transfers.proofs.TwoRuns.{label_lacks}
use Rattle.theory.specs.Laws.{Inside}

-- a verdict byte for each transfer stands at the start of the buffer
pub list_verdicts : {T : Type 0} {comes : T → Act → Type 0} {ts : List T} {acts : List Act} → AllCome comes ts acts →
    (verdicts : List ℕ) → take (length ts) (over (verdict_bytes acts) verdicts) ≡ verdict_bytes acts
unfolding over
list_verdicts come verdicts = take_at _ _ _ (come_length come)

refused_alike : {n x k m : ℕ} {ch : ℕ → ℕ → Type 0} {marks marks' verdicts verdicts' : List ℕ} {t : Tally} {r r' : Rehearsed} →
    Starts n x marks marks' → m ≢ 0 → r ≡ not_rehearsed marks verdicts t m → r' ≡ not_rehearsed marks' verdicts' t m → Alike n ch x k r r'
refused_alike {x = x} {ch = ch} s some p q =
    rw (p, q)
    record {
      same_answer = refl;
      same_applied = refl;
      same_tally = refl;
      same_verdicts = λ none. absurd (some none);
      same_marks = λ y below lacks. s.apart.agree y below (λ e. lacks (subst (Flow ch x) (sym e) here));
    }

module _ {n : ℕ} {ch : ℕ → ℕ → Type 0} (inside : Inside n ch) {T : Type 0} {comes : T → Act → Type 0} (along : Along comes ch)
    (one : OneAct comes) {ts : List T} {marks marks' verdicts verdicts' : List ℕ} {t : Tally} {x : ℕ} (s : Starts n x marks marks')
    {r r' : Rehearsed} where
  done_alike : n ≤ length marks → Rehearses comes ts marks verdicts t r → Rehearses comes ts marks' verdicts' t r' → Alike n ch x (length ts) r r'
  unfolding rehearsed
  done_alike room p q =
      rw (p.result_is, q.result_is, one_list one q.come p.come)
      record {
        same_answer = refl;
        same_applied = refl;
        same_tally = refl;
        same_verdicts = λ _. list_verdicts p.come verdicts ∙ sym (list_verdicts p.come verdicts');
        same_marks = λ y below lacks. label_lacks inside below s room along p.come lacks;
      }

  -- "Both rehearsals give equal answers and counts", refused or not, for any channels and any kind of transfer
  pub outcomes_alike : {refusals refusals' : List Refusal} → refusals ≡ refusals' → (first_refusal refusals ≡ 0 → n ≤ length marks) →
      Outcome refusals (not_rehearsed marks verdicts t) (Rehearses comes ts marks verdicts t) r →
      Outcome refusals' (not_rehearsed marks' verdicts' t) (Rehearses comes ts marks' verdicts' t) r' → Alike n ch x (length ts) r r'
  outcomes_alike {refusals} {refusals'} same room p q = go (ℕ_discrete (first_refusal refusals) 0)
    where
      number : first_refusal refusals' ≡ first_refusal refusals
      number = ap first_refusal (sym same)

      go : Dec (first_refusal refusals ≡ 0) → Alike n ch x (length ts) r r'
      go (yes none) = done_alike (room none) (p.done none) (q.done (number ∙ none))
      go (no some) =
          refused_alike s some (p.refusal some)
          (q.refusal (λ none. some (sym number ∙ none)) ∙ ap (not_rehearsed marks' verdicts' t) number)
