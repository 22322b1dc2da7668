-- The laws of the calls at a sheet whose one subject may write its one object, so that the separation from 0 to 1 is broken and that
-- from 1 to 0 holds: their premises can be met.
use Prim.Native.Nat.{ℕ, zero, suc, ◌<◌}
use mathlib.Core.Path.{◌≡◌, refl}
use mathlib.Core.Logic.{inl, inr}
use mathlib.Core.List.{List, [], ◌∷◌}
use native.Mathlib.Omega.{arith}
use lib.Dec.{lit<, lit≤}
use lib.ListN.{replicate}
use Rattle.answers.specs.declared.Told.{Told}
use Rattle.answers.specs.Call.{first_refusal, ◌then◌, each_below, told}
use Rattle.answers.specs.Rows.{at, Mark, one, none, any_below, over}
use Rattle.tables.specs.Sheet.{Lent, lent, counts, sheet_of, sheet_in, from, to}
use Rattle.tables.specs.Refusals.{size_refusals, used_refusals, sheet_refusals, pair_refusals, separation_refusals}
use Rattle.answers.proofs.Calls.{accept}
use Rattle.theory.specs.Flow.{Flow, here, step}
use Rattle.theory.specs.Chain.{Chain, alone, link, ended, equal, Best}
use Rattle.theory.proofs.Flows.{flow_closed, flow_more}
use Rattle.theory.proofs.Chains.{best_agrees}
use Rattle.rows.specs.Written.{FlowTable}
use Rattle.access.specs.Channel.{read, May, Assigned, Plain, Channel, reads, writes}
use Rattle.separations.specs.Shown.{shown}
use Rattle.separations.specs.declared.Judged.{Judged}
use Rattle.separations.specs.Judgement.{AllHold, judged, hold, broken, Finding}
use Rattle.verdict.specs.Chain.{chain_refusals, Shows}
use Rattle.verdict.specs.Judge.{judge_refusals, Judges}
use Rattle.verdict.proofs.Bounds.{Small, judged_small}
use Rattle.verdict.proofs.Showing.{showable, chain_pass}
use Rattle.verdict.proofs.Findings.{finding, finding_chain, holding, broken_answered, holding_answered, finding_in_table, holding_in_table, table_answered, shown_chain, flow_answered, no_flow_answered}

data Hop : ℕ → ℕ → Type 0 where
  hop : Hop 0 1

nothing_from_1 : {a b : ℕ} → Hop a b → a ≡ 1 → ⊥
nothing_from_1 hop e = omega arith

only_chain : {m : List ℕ} → Chain Hop 0 1 m → m ≡ 0 ∷ 1 ∷ []
only_chain (link hop alone) = refl
only_chain (link hop (link h t)) = absurd (nothing_from_1 h refl)

best : Best Hop 0 1 (0 ∷ 1 ∷ [])
best =
    record {
      chain = link hop alone;
      shortest = λ m c. rw (only_chain c) (lit≤ tt);
      smallest = λ m c e. rw (only_chain c) (equal (equal ended));
    }

-- ---- the sheet: its role writes the object
unfoldable pub tables : Lent
tables = lent (counts 1 1 1) (1 ∷ replicate 2303 9) (2 ∷ replicate 3071 9)

channel_of : (a b : ℕ) → Hop a b → Channel (sheet_in tables) a b
unfolding tables sheet_of
channel_of _ _ hop = writes 0 (lit< tt) (lit< tt) refl (record { by = 0; grants = record { role = lit< tt; has_role = refl; holds = inl refl } })

nobody_reads : (s : ℕ) → s < 1 → May (counts 1 1 1) (Assigned (sheet_in tables)) (Plain (sheet_in tables)) read s 0 → ⊥
unfolding tables sheet_of
nobody_reads s h m = go m.by m.grants.role m.grants.holds
  where
    go : (r : ℕ) → r < 1 → Plain (sheet_in tables) r 0 read → ⊥
    go zero h (inl e) = omega arith
    go zero h (inr e) = omega arith
    go (suc r) h p = omega arith

hop_of : (a b : ℕ) → Channel (sheet_in tables) a b → Hop a b
unfolding tables sheet_of
hop_of a b (reads zero l e h m) = absurd (nobody_reads b h m)
hop_of a b (reads (suc o) l e h m) = absurd (omega arith)
hop_of zero b (writes zero l h e m) = rw e hop
hop_of (suc a) b (writes zero l h e m) = absurd (omega arith)
hop_of a b (writes (suc o) l h e m) = absurd (omega arith)

-- ---- the call
unfoldable pub separations : List ℕ
separations = 0 ∷ 1 ∷ replicate 126 9

unfoldable pub before : List ℕ
before = replicate 112 9

pub accepted : first_refusal (judge_refusals tables 1 separations before) ≡ 0
unfolding first_refusal ◌then◌ each_below any_below sheet_refusals size_refusals used_refusals pair_refusals separation_refusals judge_refusals tables separations before
accepted = refl

pub call : Judges tables 1 separations before (judged 14 0 2, 0 ∷ 1 ∷ replicate 110 9)
unfolding separations before sheet_of over
call =
    accept accepted
    (broken 0 (0 ∷ 1 ∷ [])
    (record { below = lit< tt; broken = step here (channel_of 0 1 hop); before = λ j h. absurd (omega arith) })
    (best_agrees channel_of hop_of best) refl)

-- met by this call: "answered by 14, its position from 0 and its chain", which are 0 and the two entities 0, 1
found : Finding (Channel (sheet_of tables 1 separations)) 1 separations before (judged 14 0 2) (0 ∷ 1 ∷ replicate 110 9)
found = finding tables 1 separations before _ _ call refl

found_chain : Best (Channel (sheet_of tables 1 separations)) 0 1 (0 ∷ 1 ∷ [])
unfolding separations
found_chain = (finding_chain tables 1 separations before _ _ call refl).0

-- whatever the call gives, its answer is 14
broken_told : (j : Judged) (after : List ℕ) → Judges tables 1 separations before (j, after) → j.answer ≡ 14
unfolding separations sheet_of
broken_told j after c = broken_answered tables 1 separations before j after c accepted 0 (lit< tt) (step here (channel_of 0 1 hop))

small : Small (judged 14 0 2)
small = judged_small tables 1 separations before call

-- ---- its flow table
stays_1 : {y : ℕ} → Flow (Channel (sheet_in tables)) 1 y → y ≡ 1
stays_1 f = flow_closed (λ z. z ≡ 1) refl (λ a b e c. absurd (nothing_from_1 c e)) (flow_more hop_of 1 _ f)

pub filled : (buffer : List ℕ) → FlowTable 2 (Channel (sheet_in tables)) buffer (over (1 ∷ 1 ∷ 0 ∷ 1 ∷ []) buffer)
filled buffer = record { table = 1 ∷ 1 ∷ 0 ∷ 1 ∷ []; marked = record { size = refl; bytes = byte }; written = refl }
  where
    byte : (x y : ℕ) → x < 2 → y < 2 → Mark (Flow (Channel (sheet_in tables)) x y) (at (1 ∷ 1 ∷ 0 ∷ 1 ∷ []) 2 x y)
    byte zero zero hx hy = one refl here
    byte zero (suc zero) hx hy = one refl (step here (channel_of 0 1 hop))
    byte zero (suc (suc y)) hx hy = absurd (omega arith)
    byte (suc zero) zero hx hy = none refl (λ f. omega (arith, stays_1 f))
    byte (suc zero) (suc zero) hx hy = one refl here
    byte (suc zero) (suc (suc y)) hx hy = absurd (omega arith)
    byte (suc (suc x)) y hx hy = absurd (omega arith)

-- met by this table, whose byte of the separation from 0 to 1 is 1: whatever the call gives, it is 14 and position 0
by_table : (j : Judged) (after : List ℕ) → Judges tables 1 separations before (j, after) → (j.answer ≡ 14) × (j.position ≡ 0)
unfolding tables separations over
by_table j after c = table_answered tables 1 separations before j after c (filled []) accepted 0 (lit< tt) refl (λ k h. absurd (omega arith))

-- whatever the call gives, the byte of the separation that it names is 1
found_in_table : (j : Judged) (after : List ℕ) → Judges tables 1 separations before (j, after) →
    at (1 ∷ 1 ∷ 0 ∷ 1 ∷ []) 2 (from separations j.position) (to separations j.position) ≡ 1
unfolding tables over
found_in_table j after c = (finding_in_table tables 1 separations before j after c (filled []) (broken_told j after c)).0

-- ---- its chain from 0 to 1
chain_accepted : first_refusal (chain_refusals tables 0 1 before) ≡ 0
unfolding first_refusal ◌then◌ any_below sheet_refusals size_refusals used_refusals chain_refusals tables before
chain_accepted = refl

pub chain_call : Shows tables 0 1 before (told 0 2, 0 ∷ 1 ∷ replicate 110 9)
unfolding before over
chain_call = accept chain_accepted (shown (0 ∷ 1 ∷ []) (best_agrees channel_of hop_of best) refl)

-- met by the chain that `chain` told from 0 to 1
chain_shown : Best (Channel (sheet_in tables)) 0 1 (0 ∷ 1 ∷ [])
chain_shown =
    let passes = chain_pass tables 0 1 before (showable tables 0 1 before chain_accepted) in
    (shown_chain tables 0 1 before _ _ chain_call (flow_answered tables 0 1 before _ _ chain_call passes (step here (channel_of 0 1 hop)))).0

-- ---- from 1 to 0 there is none
back_accepted : first_refusal (chain_refusals tables 1 0 before) ≡ 0
unfolding first_refusal ◌then◌ any_below sheet_refusals size_refusals used_refusals chain_refusals tables before
back_accepted = refl

-- whatever the call gives, it is 13, and nothing is altered
no_chain_told : (t : Told) (after : List ℕ) → Shows tables 1 0 before (t, after) → (t ≡ told 13 0) × (after ≡ before)
no_chain_told t after c = no_flow_answered tables 1 0 before t after c back_accepted (λ f. omega (arith, stays_1 f))

-- ---- the separation from 1 to 0, which holds
unfoldable pub turned : List ℕ
turned = 1 ∷ 0 ∷ replicate 126 9

pub turned_accepted : first_refusal (judge_refusals tables 1 turned before) ≡ 0
unfolding first_refusal ◌then◌ each_below any_below sheet_refusals size_refusals used_refusals pair_refusals separation_refusals judge_refusals tables turned before
turned_accepted = refl

turned_holds : AllHold (Channel (sheet_of tables 1 turned)) 1 turned
unfolding turned sheet_of
turned_holds zero h f = omega (arith, stays_1 f)
turned_holds (suc i) h f = omega arith

pub turned_call : Judges tables 1 turned before (judged 0 0 0, before)
turned_call = accept turned_accepted (hold turned_holds refl)

-- whatever the call gives, its answer is 0
holding_told : (j : Judged) (after : List ℕ) → Judges tables 1 turned before (j, after) → j.answer ≡ 0
holding_told j after c = holding_answered tables 1 turned before j after c turned_accepted turned_holds

-- met by this separation: `judge` answers 0, so 1 does not flow to 0
held : Flow (Channel (sheet_of tables 1 turned)) 1 0 → ⊥
unfolding turned
held = (holding tables 1 turned before _ _ turned_call (holding_told _ _ turned_call)).0 0 (lit< tt)

-- met by this separation and the flow table above: `judge` answers 0, so its byte is not 1
held_in_table : at (1 ∷ 1 ∷ 0 ∷ 1 ∷ []) 2 1 0 ≡ 1 → ⊥
unfolding tables turned over
held_in_table = holding_in_table tables 1 turned before _ _ turned_call (filled []) (holding_told _ _ turned_call) 0 (lit< tt)
