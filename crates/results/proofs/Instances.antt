-- The theorems at two small sheets: their premises are met.
use Prim.Native.Nat.{ℕ, zero, suc, ◌<◌}
use mathlib.Core.Path.{refl}
use mathlib.Core.List.{List, [], ◌∷◌}
use native.Mathlib.Omega.{arith}
use lib.Dec.{lit<, lit≤}
use lib.ListN.{get_or, replicate}
use Rattle.answers.specs.Call.{first_refusal, ◌then◌, each_below, told}
use Rattle.answers.specs.Rows.{Mark, one, none, Bytes, over, count, any_below}
use Rattle.answers.proofs.Calls.{accept}
use Rattle.tables.specs.Sheet.{sheet_of, sheet_in}
use Rattle.tables.specs.Refusals.{size_refusals, used_refusals, sheet_refusals, pair_refusals, separation_refusals}
use Rattle.theory.specs.Order.{Label}
use Rattle.theory.proofs.Chains.{chain_flow}
use Rattle.separations.specs.Shown.{shown}
use Rattle.separations.specs.Judgement.{judged, broken}
use Rattle.flow.specs.Fill.{fill_refusals, Fills}
use Rattle.flow.proofs.Unrefused.{table_sound}
use Rattle.questions.specs.Questions.{Flows, Labels}
use Rattle.questions.proofs.Asked.{asked_pass, both_pass}
use Rattle.verdict.specs.Chain.{chain_refusals, Shows}
use Rattle.verdict.specs.Judge.{judge_refusals, Judges}
use Rattle.verdict.proofs.Instances.{tables, separations, before, filled, chain_call}
use Rattle.transfers.specs.Rehearse.{new_tally}
use Rattle.transfers.specs.Demand3.{Reached}
use Rattle.transfers.proofs.SmallNetwork.{chain}
use Rattle.rehearsal.proofs.SmallSheet.{sheet, sheet_best}
use Rattle.rehearsal.proofs.SmallCalls.{lent_0, ready, result, call, call_flat}
use Rattle.results.specs.FilledTable.{QuestionsTell}
use Rattle.results.specs.Inclusion.{IncludedBytes}
use Rattle.results.specs.Demand3.{ChainTold}
use Rattle.results.proofs.FilledTable.{filled_questions_tell}
use Rattle.results.proofs.Inclusion.{flow_by_labels, told_by_labels}
use Rattle.results.proofs.ShownChain.{shown_chain_reaches, judged_chain_reaches, label_byte_reaches}
use Rattle.access.specs.Channel.{SheetFlow}
use Rattle.tables.specs.FlowTable.{SoundFlow}

-- ---- a sheet whose one subject may write its one object: its flow table, and questions on it
abbrev buffer : List ℕ
buffer = replicate 12544 5

abbrev table : List ℕ
table = over (1 ∷ 1 ∷ 0 ∷ 1 ∷ []) buffer

fills : Fills tables buffer (0, table)
unfolding first_refusal ◌then◌ any_below sheet_refusals size_refusals used_refusals fill_refusals tables sheet_of
fills = accept refl (refl, filled buffer)

-- met by the table that `fill` wrote for this sheet: each question on 0, or on 0 and 1, answers 0 and what is right of the sheet's flow
tell : QuestionsTell 2 (SheetFlow (sheet_in tables)) table 0 1
unfolding tables
tell = filled_questions_tell tables buffer table fills 0 1 (lit< tt) (lit< tt)

sound : SoundFlow 2 table
unfolding tables
sound = table_sound tables buffer table fills

entity_0_to_1 : Bytes 2 table 0 1
unfolding over
entity_0_to_1 = record { source = lit< tt; target = lit< tt; byte = refl }

flows_call : Flows 2 table 0 1 (told 0 1)
flows_call = accept (both_pass 2 table sound 0 1 (lit< tt) (lit< tt)) (record { answer = refl; right = one refl entity_0_to_1 })

-- met by a call of `flows` on that table: it told 1, and in the sheet 0 flows to 1
told_1 : Mark (SheetFlow (sheet_in tables) 0 1) 1
told_1 = (tell.flows _ flows_call).right

-- ---- labels of it: 0 has itself, 1 has both
label_call : (x : ℕ) → x < 2 → (row : List ℕ) → Label 2 (Bytes 2 table) x row → Labels 2 table x before (told 0 (count 1 row), over row before)
unfolding before
label_call x h row label = accept (asked_pass 2 table sound _ refl x h) (record { row = row; label = label; written = refl })

label_of_0 : Labels 2 table 0 before (told 0 1, over (1 ∷ 0 ∷ []) before)
unfolding over count
label_of_0 = label_call 0 (lit< tt) (1 ∷ 0 ∷ []) (record { size = refl; bytes = byte })
  where
    byte : (z : ℕ) → z < 2 → Mark (Bytes 2 table z 0) (get_or (1 ∷ 0 ∷ []) z 0)
    byte zero h = one refl (record { source = h; target = h; byte = refl })
    byte (suc zero) h = none refl (λ b. omega (arith, b.byte))
    byte (suc (suc z)) h = absurd (omega arith)

label_of_1 : Labels 2 table 1 before (told 0 2, over (1 ∷ 1 ∷ []) before)
unfolding over count
label_of_1 = label_call 1 (lit< tt) (1 ∷ 1 ∷ []) (record { size = refl; bytes = byte })
  where
    byte : (z : ℕ) → z < 2 → Mark (Bytes 2 table z 1) (get_or (1 ∷ 1 ∷ []) z 0)
    byte zero h = one refl entity_0_to_1
    byte (suc zero) h = one refl (record { source = h; target = h; byte = refl })
    byte (suc (suc z)) h = absurd (omega arith)

-- met by the labels of both: one byte of 1's label is none of 0's, so 1 does not flow to 0
entity_1_not_to_0 : SheetFlow (sheet_in tables) 1 0 → ⊥
unfolding tables over before
entity_1_not_to_0 f =
    let e = (flow_by_labels tables buffer table fills 1 0 (lit< tt) (lit< tt) before before (lit≤ tt) (lit≤ tt) _ _ label_of_1 label_of_0).included f 1 (lit< tt) refl in
    omega arith

-- met by what `label` wrote for 0 and 1, since `flows` told 1: each of the first two bytes that is 1 in 0's label is 1 in 1's
entity_0_in_1 : IncludedBytes 2 (over (1 ∷ 0 ∷ []) before) (over (1 ∷ 1 ∷ []) before)
unfolding tables before
entity_0_in_1 = (told_by_labels tables buffer table fills 0 1 (lit< tt) (lit< tt) before before (lit≤ tt) (lit≤ tt) _ _ label_of_0 label_of_1 _ flows_call).included refl

-- 1 has 0, so the chain from 0 to 1 is shown
shown_by_byte : ChainTold tables 0 1 2 (0 ∷ 1 ∷ replicate 110 9)
unfolding tables over before
shown_by_byte =
    (label_byte_reaches tables buffer table fills 0 1 (lit< tt) (lit< tt) before (lit≤ tt) _ label_of_1 refl before (lit≤ tt) _ _ chain_call).1

-- ---- a sheet whose one subject writes what the other reads: its chain, and its broken separation
shows : Shows sheet 0 1 before (told 0 3, 0 ∷ 2 ∷ 1 ∷ replicate 109 9)
unfolding first_refusal ◌then◌ any_below sheet_refusals size_refusals used_refusals chain_refusals sheet before over
shows = accept refl (shown chain sheet_best refl)

judges : Judges sheet 1 separations before (judged 14 0 3, 0 ∷ 2 ∷ 1 ∷ replicate 109 9)
unfolding first_refusal ◌then◌ each_below any_below sheet_refusals size_refusals used_refusals pair_refusals separation_refusals judge_refusals sheet sheet_of separations before over
judges =
    accept refl
    (broken 0 chain (record { below = lit< tt; broken = chain_flow sheet_best.chain; before = λ j h. absurd (omega arith) }) sheet_best refl)

-- met by a call of `chain` from 0 to 1, which told 3 entities: 0, 2, 1 is the shown chain, and data of 0 moves to 1 along it
told_by_chain : ChainTold sheet 0 1 3 (0 ∷ 2 ∷ 1 ∷ replicate 109 9)
told_by_chain = shown_chain_reaches sheet 0 1 before _ _ shows refl

-- met by a call of `judge`, which told 14, position 0 and 3 entities: 0, 2, 1 is the shown chain, and data of 0 moves to 1 along it
told_by_judge : ChainTold sheet 0 1 3 (0 ∷ 2 ∷ 1 ∷ replicate 109 9)
unfolding separations
told_by_judge = judged_chain_reaches sheet 1 separations before _ _ judges refl

-- met by the flat transfers of that chain: the marks of 1 differ
flat_reached : Reached 2 1 (result 7 0 9) (result 9 0 5)
flat_reached = told_by_chain.flat _ _ _ _ new_tally lent_0 (ready 7 0 9) _ _ (call_flat 7 0 9) (call_flat 9 0 5)

-- met by the chain that `judge` told, rehearsed as records from marks 7 and 9 of entity 0: different marks at 1
records_reached : Reached 2 1 (result 7 0 9) (result 9 0 5)
records_reached = told_by_judge.records _ _ _ _ new_tally lent_0 (ready 7 0 9) _ _ (call 7 0 9) (call 9 0 5)
