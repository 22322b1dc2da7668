-- Demand 2, of the calls: what any result tells that the contract of `judge` or of `chain` allows.
use Prim.Native.Nat.{ℕ, ◌<◌}
use mathlib.Core.Path.{◌≡◌, refl, sym, ap, ◌∙◌}
use mathlib.Core.Logic.{◌≢◌}
use mathlib.Core.List.{List}
use native.Mathlib.Decide.{ℕ_discrete}
use native.Mathlib.Omega.{arith}
use lib.ListN.{length, take}
use Rattle.answers.specs.declared.Told.{Told}
use Rattle.answers.specs.Call.{first_refusal, told}
use Rattle.answers.specs.Rows.{at, Mark}
use Rattle.tables.specs.Sheet.{Lent, Sheet, sheet_in, sheet_of, entities, from, to}
use Rattle.answers.proofs.Calls.{answered}
use Rattle.answers.proofs.Marks.{mark_of, marked_yes}
use Rattle.theory.specs.Flow.{Flow}
use Rattle.theory.specs.Chain.{Best}
use Rattle.rows.specs.Written.{FlowTable}
use Rattle.access.specs.Channel.{Channel}
use Rattle.separations.specs.declared.Judged.{Judged}
use Rattle.separations.specs.Judgement.{Broken, AllHold, judged, Finding}
use Rattle.verdict.specs.Chain.{chain_refusals, Shows}
use Rattle.verdict.specs.Judge.{judge_refusals, Judges}
use Rattle.separations.proofs.Verdicts.{one_first}
use Rattle.verdict.proofs.Bounds.{refusal_not_14}
use Rattle.verdict.proofs.Judging.{judgeable}
use Rattle.separations.proofs.Findings.{told_finding, told_holding, tells_broken, tells_holding, chain_in_front, told_chain, tells_chain, tells_missing, table_marks}

module _ (l : Lent) (count : ℕ) (separations before : List ℕ) (j : Judged) (after : List ℕ) (call : Judges l count separations before (j, after)) where
  -- the sheet that is judged
  abbrev judged_sheet : Sheet
  judged_sheet = sheet_of l count separations

  unless_refused : (first_refusal (judge_refusals l count separations before) ≢ 0 → j.answer ≡ first_refusal (judge_refusals l count separations before) → ⊥) →
      first_refusal (judge_refusals l count separations before) ≡ 0
  unless_refused never = go (ℕ_discrete (first_refusal (judge_refusals l count separations before)) 0)
    where
      go : Dec (first_refusal (judge_refusals l count separations before) ≡ 0) → first_refusal (judge_refusals l count separations before) ≡ 0
      go (yes e) = e
      go (no some) = absurd (never some (ap (λ (r : Judged × List ℕ). r.0.answer) (call.refusal some)))

  -- 14 and 0 are no refusals
  pub accepted_14 : j.answer ≡ 14 → first_refusal (judge_refusals l count separations before) ≡ 0
  accepted_14 q = unless_refused (λ some e. refusal_not_14 l count separations before (sym e ∙ q))

  pub accepted_0 : j.answer ≡ 0 → first_refusal (judge_refusals l count separations before) ≡ 0
  accepted_0 q = unless_refused (λ some e. some (sym e ∙ q))

  -- "The first broken one is answered by 14, its position from 0 and its chain"
  pub finding : j.answer ≡ 14 → Finding (Channel judged_sheet) count separations before j after
  finding q = told_finding (call.done (accepted_14 q)) q

  -- and the chain is the first `count` entities in the buffer
  pub finding_chain : j.answer ≡ 14 →
      Best (Channel judged_sheet) (from separations j.position) (to separations j.position) (take j.count after)
      × (length (take j.count after) ≡ j.count)
  finding_chain q = let f = finding q in chain_in_front before f.best f.counted f.written

  -- where `judge` answers 0 none is broken, "position and chain count where all hold" are 0, and "the chain buffer is then unaltered"
  pub holding : j.answer ≡ 0 → AllHold (Channel judged_sheet) count separations × (j ≡ judged 0 0 0) × (after ≡ before)
  holding q = told_holding (call.done (accepted_0 q)) q

  -- and the other way round, where nothing is refused
  module _ (accepted : first_refusal (judge_refusals l count separations before) ≡ 0) where
    -- "The first broken one is answered by 14": unless `judge` refuses, it answers 14 where one of the separations is broken
    pub broken_answered : (i : ℕ) → i < count → Broken (Channel judged_sheet) separations i → j.answer ≡ 14
    broken_answered = tells_broken (call.done accepted)

    -- "one is broken exactly if such a chain exists": unless `judge` refuses, it answers 0 where none of them is broken
    pub holding_answered : AllHold (Channel judged_sheet) count separations → j.answer ≡ 0
    holding_answered = tells_holding (call.done accepted)

  -- judging agrees with the flow table of the sheet, by the byte of each separation
  module _ {buffer table : List ℕ} (f : FlowTable (entities l.counts) (Channel (sheet_in l)) buffer table) where
    abbrev byte_of : ℕ → ℕ
    byte_of i = at table (entities l.counts) (from separations i) (to separations i)

    sheet_marks : first_refusal (judge_refusals l count separations before) ≡ 0 → (i : ℕ) → i < count → Mark (Broken (Channel judged_sheet) separations i) (byte_of i)
    unfolding sheet_of
    sheet_marks accepted = table_marks f count separations (judgeable l count separations before accepted).listed

    -- "The first broken separation is named": where `judge` answers 14, that one's byte in the sheet's flow table is 1, and none's before it
    pub finding_in_table : j.answer ≡ 14 → (byte_of j.position ≡ 1) × ((i : ℕ) → i < j.position → byte_of i ≡ 1 → ⊥)
    finding_in_table q =
        let p = (finding q).first in
        let m = sheet_marks (accepted_14 q) in
        (mark_of (m j.position p.below) p.broken, λ i h e. p.before i h (marked_yes (m i (omega (arith, p.below))) e))

    -- "one is broken exactly if such a chain exists": where `judge` answers 0, no separation's byte in the sheet's flow table is 1
    pub holding_in_table : j.answer ≡ 0 → (i : ℕ) → i < count → byte_of i ≡ 1 → ⊥
    holding_in_table q i h e = (holding q).0 i h (marked_yes (sheet_marks (accepted_0 q) i h) e)

    -- "The first broken separation is named": unless `judge` refuses, the first whose byte in that table is 1 is named, with 14
    pub table_answered : first_refusal (judge_refusals l count separations before) ≡ 0 → (i : ℕ) → i < count → byte_of i ≡ 1 →
        ((k : ℕ) → k < i → byte_of k ≡ 1 → ⊥) → (j.answer ≡ 14) × (j.position ≡ i)
    table_answered accepted i h e before-it =
        let m = sheet_marks accepted in
        let b = marked_yes (m i h) e in
        let q = broken_answered accepted i h b in
        (q, one_first (finding q).first (record { below = h; broken = b; before = λ k g c. before-it k g (mark_of (m k (omega arith)) c) }))

-- ---- `chain`: what an answer of 0 tells, and where it comes
module _ (l : Lent) (x y : ℕ) (before : List ℕ) (t : Told) (after : List ℕ) (call : Shows l x y before (t, after)) where
  -- "shortest, and among the shortest the smallest": where `chain` answers 0, the first `value` bytes of the buffer are this chain
  pub shown_chain : t.answer ≡ 0 → Best (Channel (sheet_in l)) x y (take t.value after) × (length (take t.value after) ≡ t.value)
  shown_chain q = told_chain (call.done (answered (λ r. r.0.answer) (λ _. refl) call q)) q

  -- unless `chain` refuses, it answers 0 where x flows to y
  pub flow_answered : first_refusal (chain_refusals l x y before) ≡ 0 → Flow (Channel (sheet_in l)) x y → t.answer ≡ 0
  flow_answered accepted = tells_chain (call.done accepted)

  -- "13 | no chain": unless `chain` refuses, where x does not flow to y; nothing is told, and the buffer is unaltered
  pub no_flow_answered : first_refusal (chain_refusals l x y before) ≡ 0 → (Flow (Channel (sheet_in l)) x y → ⊥) → (t ≡ told 13 0) × (after ≡ before)
  no_flow_answered accepted = tells_missing (call.done accepted)
