-- Demand 3, second half, of the chains that `chain` and `judge` told.
use Prim.Native.Nat.{ℕ, ◌≤◌, ◌<◌}
use mathlib.Core.Path.{◌≡◌}
use mathlib.Core.List.{List}
use lib.ListN.{length, get_or, take}
use Rattle.answers.specs.declared.Told.{Told}
use Rattle.answers.specs.Sizes.{least_label, least_chain}
use Rattle.answers.proofs.Marks.{marked_yes}
use Rattle.tables.specs.Sheet.{Lent, sheet_of, sheet_in, entities, from, to}
use Rattle.theory.specs.Chain.{Best}
use Rattle.access.specs.Channel.{Channel}
use Rattle.separations.specs.declared.Judged.{Judged}
use Rattle.flow.specs.Fill.{fill_refusals, Fills}
use Rattle.flow.proofs.Closing.{fillable}
use Rattle.flow.proofs.Unrefused.{none_refused}
use Rattle.questions.specs.Questions.{Labels}
use Rattle.verdict.specs.Chain.{Shows}
use Rattle.verdict.specs.Judge.{Judges}
use Rattle.verdict.proofs.Showing.{chain_pass}
use Rattle.verdict.proofs.Findings.{finding_chain, shown_chain, flow_answered}
use Rattle.rehearsal.proofs.ShownChain.{flat_reach, records_reach}
use Rattle.results.specs.Demand3.{ChainTold}
use Rattle.results.proofs.Inclusion.{label_left}

chain_told : (l : Lent) (x y k : ℕ) (buffer : List ℕ) → Best (Channel (sheet_in l)) x y (take k buffer) → length (take k buffer) ≡ k → ChainTold l x y k buffer
chain_told l x y k buffer best counted =
    record {
      shown = best;
      counted = counted;
      flat = λ _ _ _ _ t two ready r r' p q. rw counted at (flat_reach l best t two ready p q);
      records = λ _ _ _ _ t two ready r r' p q. rw counted at (records_reach l best t two ready p q);
    }

-- "an accepted rehearsal of the shown chain's transfers ends .. with different marks at y": of the chain that `chain` answered 0 with
pub shown_chain_reaches : (l : Lent) (x y : ℕ) (before : List ℕ) (t : Told) (after : List ℕ) → Shows l x y before (t, after) → t.answer ≡ 0 →
    ChainTold l x y t.value after
shown_chain_reaches l x y before t after call e =
    let p = shown_chain l x y before t after call e in
    chain_told l x y t.value after p.0 p.1

-- "The first broken one is answered by 14, its position from 0 and its chain": of the chain that `judge` answered 14 with
pub judged_chain_reaches : (l : Lent) (count : ℕ) (separations before : List ℕ) (j : Judged) (after : List ℕ) →
    Judges l count separations before (j, after) → j.answer ≡ 14 →
    ChainTold l (from separations j.position) (to separations j.position) j.count after
unfolding sheet_of
judged_chain_reaches l count separations before j after call e =
    let p = finding_chain l count separations before j after call e in
    chain_told l _ _ j.count after p.0 p.1

-- "If y's label holds x": where `label` wrote a 1 for x, `chain` answers 0, and it is so of its chain
pub label_byte_reaches : (l : Lent) (before table : List ℕ) → Fills l before (0, table) → (x y : ℕ) → x < entities l.counts → y < entities l.counts →
    (before-y : List ℕ) → least_label ≤ length before-y → (r : Told × List ℕ) → Labels (entities l.counts) table y before-y r → get_or r.1 x 0 ≡ 1 →
    (chain : List ℕ) → least_chain ≤ length chain → (t : Told) (after : List ℕ) → Shows l x y chain (t, after) →
    (t.answer ≡ 0) × ChainTold l x y t.value after
unfolding fill_refusals
label_byte_reaches l before table fills x y hx hy before-y label_room r labels byte chain room t after call =
    let of-y = label_left l before table fills y hy before-y label_room r labels in
    let sized = (fillable l before (none_refused l before table fills)).sized in
    let accepted = chain_pass l x y chain (record { sized = sized; first = hx; last = hy; room = room }) in
    let answer = flow_answered l x y chain t after call accepted (marked_yes (of-y.byte x hx) byte) in
    (answer, shown_chain_reaches l x y chain t after call answer)
