-- Demand 2: what a judgement tells, what is told of a chain, and what a flow table says of separations.
use Prim.Native.Nat.{ℕ, ◌<◌}
use mathlib.Core.Path.{◌≡◌, sym, ap}
use mathlib.Core.List.{List}
use native.Mathlib.Omega.{arith}
use lib.ListN.{length, take, drop}
use lib.Seq.{take_at}
use Rattle.answers.specs.declared.Told.{Told}
use Rattle.answers.specs.Call.{told}
use Rattle.answers.specs.Rows.{at, Mark, Filled, over}
use Rattle.tables.specs.Sheet.{from, to}
use Rattle.theory.specs.Flow.{Flow}
use Rattle.theory.specs.Chain.{Best}
use Rattle.theory.proofs.Chains.{chain_flow}
use Rattle.theory.proofs.Filled.{filled_mark}
use Rattle.separations.specs.declared.Judged.{Judged}
use Rattle.separations.specs.Shown.{Shown, shown, missing}
use Rattle.separations.specs.Judgement.{Broken, AllHold, judged, Judgement, hold, broken, Finding}
use Rattle.tables.specs.Refusals.{Listed}

module _ {ch : ℕ → ℕ → Type 0} {count : ℕ} {separations before : List ℕ} {j : Judged} {after : List ℕ} where
  -- "The first broken one is answered by 14, its position from 0 and its chain": what a judgement that answers 14 tells, for any channels
  pub told_finding : Judgement ch count separations before (j, after) → j.answer ≡ 14 → Finding ch count separations before j after
  told_finding (hold all e) q = let z = ap (λ (r : Judged × List ℕ). r.0.answer) e in absurd (omega arith)
  told_finding (broken i l p b e) q =
      let here : j.position ≡ i = ap (λ (r : Judged × List ℕ). r.0.position) e in
      record {
        first = rw here p;
        chain = l;
        best = rw here b;
        counted = ap (λ (r : Judged × List ℕ). r.0.count) e;
        written = ap (λ (r : Judged × List ℕ). r.1) e;
      }

  -- where a judgement answers 0 none is broken, there is nothing to tell, and "the chain buffer is then unaltered"
  pub told_holding : Judgement ch count separations before (j, after) → j.answer ≡ 0 → AllHold ch count separations × (j ≡ judged 0 0 0) × (after ≡ before)
  told_holding (hold all e) q = (all, ap (λ (r : Judged × List ℕ). r.0) e, ap (λ (r : Judged × List ℕ). r.1) e)
  told_holding (broken i l p b e) q = let z = ap (λ (r : Judged × List ℕ). r.0.answer) e in absurd (omega arith)

  pub tells_broken : Judgement ch count separations before (j, after) → (i : ℕ) → i < count → Broken ch separations i → j.answer ≡ 14
  tells_broken (hold all e) i h b = absurd (all i h b)
  tells_broken (broken k l p c e) i h b = ap (λ (r : Judged × List ℕ). r.0.answer) e

  pub tells_holding : Judgement ch count separations before (j, after) → AllHold ch count separations → j.answer ≡ 0
  tells_holding (hold all e) a = ap (λ (r : Judged × List ℕ). r.0.answer) e
  tells_holding (broken i l p b e) a = absurd (a i p.below p.broken)

-- ---- a chain that is told stands at the front of the buffer, as many entities as the count says
module _ {ch : ℕ → ℕ → Type 0} {x y : ℕ} where
  pub chain_in_front : (before : List ℕ) {l after : List ℕ} {k : ℕ} → Best ch x y l → k ≡ length l → after ≡ over l before →
      Best ch x y (take k after) × (length (take k after) ≡ k)
  unfolding over
  chain_in_front before {l} {after} {k} best counted written =
      let same : take k after ≡ l = rw written (take_at l (drop (length l) before) k (sym counted)) in
      rw same (best, sym counted)

  module _ {before after : List ℕ} {t : Told} where
    pub told_chain : Shown ch x y before (t, after) → t.answer ≡ 0 → Best ch x y (take t.value after) × (length (take t.value after) ≡ t.value)
    told_chain (shown l best e) q = chain_in_front before best (ap (λ (r : Told × List ℕ). r.0.value) e) (ap (λ (r : Told × List ℕ). r.1) e)
    told_chain (missing none e) q = let z = ap (λ (r : Told × List ℕ). r.0.answer) e in absurd (omega arith)

    pub tells_chain : Shown ch x y before (t, after) → Flow ch x y → t.answer ≡ 0
    tells_chain (shown l best e) f = ap (λ (r : Told × List ℕ). r.0.answer) e
    tells_chain (missing none e) f = absurd (none f)

    -- where x does not flow to y, it is 13, count 0, and the buffer as it was
    pub tells_missing : Shown ch x y before (t, after) → (Flow ch x y → ⊥) → (t ≡ told 13 0) × (after ≡ before)
    tells_missing (shown l best e) none = absurd (none (chain_flow best.chain))
    tells_missing (missing none e) _ = (ap (λ (r : Told × List ℕ). r.0) e, ap (λ (r : Told × List ℕ). r.1) e)

-- ---- a flow table that was filled for the channels says which separations are broken
pub table_marks : {n : ℕ} {ch : ℕ → ℕ → Type 0} {buffer table : List ℕ} → Filled n (Flow ch) buffer table → (count : ℕ) (separations : List ℕ) →
    Listed n count separations → (i : ℕ) → i < count → Mark (Broken ch separations i) (at table n (from separations i) (to separations i))
table_marks f count separations listed i h = let b = listed.below i h in filled_mark f b.0 b.1
