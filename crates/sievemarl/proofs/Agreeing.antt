-- What `sievemarl_judge` returns agrees with the table that `sievemarl_fill_flow` wrote: a separation is reported broken exactly if its
-- byte is 1 and that of each before it is not.
use Prim.Native.Nat.{ℕ, ◌/◌, ◌%◌, ◌<◌}
use mathlib.Core.Path.{◌≡◌, refl, sym, ap, ◌∙◌}
use mathlib.Core.List.{List, [], ◌∷◌}
use native.Mathlib.Decide.{ℕ_discrete}
use native.Mathlib.Omega.{arith}
use lib.Dec.{lit<}
use lib.ListN.{replicate}
use Rattle.answers.specs.Call.{first_refusal, ◌then◌}
use Rattle.answers.specs.Rows.{at, over, any_below}
use Rattle.tables.specs.Sheet.{Lent, sheet_in, sheet_of, entities, from, to}
use Rattle.tables.specs.Refusals.{size_refusals, used_refusals, sheet_refusals}
use Rattle.answers.proofs.Calls.{accept}
use Rattle.rows.specs.Written.{FlowTable}
use Rattle.access.specs.Channel.{Channel}
use Rattle.flow.specs.Fill.{fill_refusals}
use Rattle.separations.specs.Judgement.{judged}
use Rattle.verdict.specs.Judge.{judge_refusals}
use Rattle.verdict.proofs.Findings.{finding_in_table, holding_in_table, table_answered}
use Rattle.verdict.proofs.Instances.{tables, separations, before, filled, accepted, turned, turned_call}
use Rattle.sievemarl.specs.ForC.{FillsForC, JudgesForC}
use Rattle.sievemarl.specs.Packed.{packed}
use Rattle.sievemarl.proofs.Unpacked.{returned_answer, returned_position, small_call}

module _ (l : Lent) (buffer table : List ℕ) (fills : FillsForC l buffer (0, table)) where
  not_refused : first_refusal (fill_refusals l buffer) ≡ 0
  not_refused = go (ℕ_discrete (first_refusal (fill_refusals l buffer)) 0)
    where
      go : Dec (first_refusal (fill_refusals l buffer) ≡ 0) → first_refusal (fill_refusals l buffer) ≡ 0
      go (yes e) = e
      go (no some) = absurd (some (sym (ap (λ (r : ℕ × List ℕ). r.0) (fills.refusal some))))

  pub filled_table : FlowTable (entities l.counts) (Channel (sheet_in l)) buffer table
  unfolding sheet_of
  filled_table = (fills.done not_refused).1

  module _ (count : ℕ) (separations before : List ℕ) (result : ℕ × List ℕ) (c : JudgesForC l count separations before result) where
    -- the byte of separation i
    abbrev byte_of : ℕ → ℕ
    byte_of i = at table (entities l.counts) (from separations i) (to separations i)

    -- 14, and the position as C reads it
    pub reported_bytes : result.0 % 256 ≡ 14 → (byte_of (result.0 / 256 % 256) ≡ 1) × ((i : ℕ) → i < result.0 / 256 % 256 → byte_of i ≡ 1 → ⊥)
    reported_bytes e =
        rw (returned_position l count separations before result c)
        (finding_in_table l count separations before c.judged result.1 c.judges filled_table
        (sym (returned_answer l count separations before result c) ∙ e))

    -- "judging returns answer + ..": where the answer, as C reads it, is 0, the byte of no separation in the filled table is 1
    pub unreported_bytes : result.0 % 256 ≡ 0 → (i : ℕ) → i < count → byte_of i ≡ 1 → ⊥
    unreported_bytes e =
        holding_in_table l count separations before c.judged result.1 c.judges filled_table
        (sym (returned_answer l count separations before result c) ∙ e)

    -- "answer + 256 x position": unless judging refuses, the first separation whose byte in the filled table is 1 comes as 14 and its position
    pub bytes_reported : first_refusal (judge_refusals l count separations before) ≡ 0 → (i : ℕ) → i < count → byte_of i ≡ 1 →
        ((k : ℕ) → k < i → byte_of k ≡ 1 → ⊥) → (result.0 % 256 ≡ 14) × (result.0 / 256 % 256 ≡ i)
    bytes_reported accepted i h e before-it =
        let told = table_answered l count separations before c.judged result.1 c.judges filled_table accepted i h e before-it in
        (returned_answer l count separations before result c ∙ told.0, returned_position l count separations before result c ∙ told.1)

-- ---- at the small sheet
abbrev buffer : List ℕ
buffer = replicate 12544 5

small_fill : FillsForC tables buffer (0, over (1 ∷ 1 ∷ 0 ∷ 1 ∷ []) buffer)
unfolding first_refusal ◌then◌ any_below sheet_refusals size_refusals used_refusals fill_refusals tables sheet_of
small_fill = accept refl (refl, filled buffer)

-- met by the broken separation from 0 to 1: 14 was returned, and its byte is 1
small_bytes : at (over (1 ∷ 1 ∷ 0 ∷ 1 ∷ []) buffer) 2 0 1 ≡ 1
unfolding tables separations
small_bytes = (reported_bytes tables buffer _ small_fill 1 separations before _ small_call refl).0

-- met by the same separation: its byte is 1, and so 14 and position 0 were returned
bytes_told : (131086 % 256 ≡ 14) × (131086 / 256 % 256 ≡ 0)
unfolding tables separations over
bytes_told = bytes_reported tables buffer _ small_fill 1 separations before _ small_call accepted 0 (lit< tt) refl (λ k h. absurd (omega arith))

holding_call : JudgesForC tables 1 turned before (0, before)
unfolding packed
holding_call = record { judged = judged 0 0 0; judges = turned_call; returned = refl }

-- met by the separation from 1 to 0, which holds: 0 was returned, and its byte is not 1
no_bytes : at (over (1 ∷ 1 ∷ 0 ∷ 1 ∷ []) buffer) 2 1 0 ≡ 1 → ⊥
unfolding tables turned
no_bytes = unreported_bytes tables buffer _ small_fill 1 turned before _ holding_call refl 0 (lit< tt)
