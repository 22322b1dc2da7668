-- Demand 3, over any relation of channels and any kind of transfer. Its second half: the final mark of y is the sum of all starting marks, each times its share
-- in y, modulo 2 ^ 32, and along the shown chain x's share is 1, so a difference at x arrives at y. Its first half: where x does not
-- flow it does not arrive, whatever a move makes of the two marks that it looks at.
use Prim.Native.Nat.{ℕ, ◌+◌, ◌*◌, ◌%◌, ◌^◌, ◌≤◌, ◌<◌}
use native.Mathlib.Decide.{ℕ_discrete}
use native.Mathlib.Nat.{add-zero, mod-eq_of_lt}
use native.Mathlib.Omega.{arith}
use mathlib.Core.Path.{◌≡◌, refl, sym, ap₂, subst, ◌∙◌}
use mathlib.Core.Bool.{cond}
use mathlib.Core.List.{List, ◌∷◌}
use lib.Dec.{eqb}
use lib.ListN.{length, get_or}
use lib.Seq.{get_or-set_same, get_or-set_other}
use borrow.Author.Tests.{eq-eqb, ne_eqb}
use Rattle.theory.specs.Flow.{Flow, here, step}
use Rattle.theory.specs.Order.{InLabel}
use Rattle.theory.specs.Chain.{Best}
use Rattle.theory.proofs.Chains.{shortest_distinct}
use Rattle.transfers.specs.declared.Act.{Act}
use Rattle.transfers.specs.declared.Act.TheVariants.{Moves}
use Rattle.transfers.specs.Acts.{plus, acted, after, AllCome, Along}
use Rattle.transfers.specs.Demand3.{Marks32, Starts, chain_moves}
use Rattle.transfers.proofs.Moving.{AllMove, still, move, skip_outside, skip_barred, come_move, acted_length, acted_marks}
use Rattle.transfers.proofs.Sums.{sum_but_one}
use Rattle.transfers.proofs.Shares.{share, weighed, weighed_none, exchange, two_runs}
use Rattle.transfers.proofs.Labels.{chain_along, share_along}
use Rattle.theory.specs.Laws.{Inside}

-- ---- where y's label holds x
-- a move keeps the weighed sum, modulo 2 ^ 32
weighed_moved : (n a b : ℕ) (acts : List Act) (marks : List ℕ) (y : ℕ) → a < n → b < n → n ≤ length marks →
    weighed n acts (acted (Moves a b) marks) y % 2 ^ 32 ≡ weighed n (Moves a b ∷ acts) marks y % 2 ^ 32
unfolding weighed share acted plus
weighed_moved n a b acts marks y from to room =
    exchange (2 ^ 32) (weighed n acts marks y) _ _ (get_or marks b 0) (get_or marks a 0) (share acts a y) (share acts b y)
    (sum_but_one n b new old to elsewhere ∙ rw (get_or-set_same marks b _ 0 (omega arith)))
    (sum_but_one n a more old from (λ x k other. rw (ne_eqb x a other, add-zero)) ∙ rw (eq-eqb a a refl))
  where
    old : ℕ → ℕ
    old x = get_or marks x 0 * share acts x y

    new : ℕ → ℕ
    new x = get_or (acted (Moves a b) marks) x 0 * share acts x y

    more : ℕ → ℕ
    more x = get_or marks x 0 * (share acts x y + cond (eqb x a) (share acts b y) 0)

    elsewhere : (x : ℕ) → x < n → (x ≡ b → ⊥) → new x ≡ old x
    elsewhere x k other = rw (get_or-set_other marks b x _ 0 other)

-- The final mark of y, for acts whose moves go between entities below n.
module _ {n : ℕ} {R : ℕ → ℕ → Type 0} (inside : Inside n R) {y : ℕ} (below : y < n) where
  -- "one after the other": y's final mark is the sum of all starting marks, each times its share in y, modulo 4,294,967,296
  pub final_mark : {acts : List Act} (marks : List ℕ) → AllMove R acts → n ≤ length marks → Marks32 marks →
      get_or (after acts marks) y 0 ≡ weighed n acts marks y % 2 ^ 32
  unfolding after acted weighed share
  final_mark marks still room m = sym (rw (weighed_none n marks y below) (mod-eq_of_lt (m y)))
  final_mark marks (move {a = a} {b = b} {acts = acts} h rest) room m =
      let (from, to) = inside a b h in
      final_mark _ rest (rw (acted_length (Moves a b) marks) room) (acted_marks (Moves a b) marks m)
      ∙ weighed_moved n a b acts marks y from to room
  final_mark marks (skip_outside rest) room m = final_mark marks rest room m
  final_mark marks (skip_barred rest) room m = final_mark marks rest room m

module _ {n : ℕ} {ch : ℕ → ℕ → Type 0} (inside : Inside n ch) {x y : ℕ} (below : y < n) {marks marks' : List ℕ}
    (s : Starts n x marks marks') (room : n ≤ length marks) where
  with_share : {acts : List Act} → AllMove ch acts → share acts x y ≡ 1 → get_or (after acts marks) y 0 ≡ get_or (after acts marks') y 0 → ⊥
  with_share {acts} along e same =
      let sums = rw e at (two_runs n x acts marks marks' y s.apart s.entity) in
      let final = final_mark inside below marks along room s.bits in
      let final' = final_mark inside below marks' along (rw (← s.apart.same_length) room) s.bits' in
      s.apart.differ (omega (arith, s.bits x, s.bits' x))

  -- "If y's label holds x", the moves along the shown chain end "with different marks at y"
  pub label_holds : {l : List ℕ} → Best ch x y l →
      get_or (after (chain_moves l) marks) y 0 ≡ get_or (after (chain_moves l) marks') y 0 → ⊥
  label_holds b = with_share (chain_along b.chain) (share_along b.chain (shortest_distinct b.chain b.shortest))

-- ---- where y's label lacks x
-- two sets of marks of n entities that agree wherever x does not flow
record Agree (n : ℕ) (ch : ℕ → ℕ → Type 0) (x : ℕ) (marks marks' : List ℕ) : Type 0 where
  room : n ≤ length marks
  room' : n ≤ length marks'
  agree : (z : ℕ) → z < n → (Flow ch x z → ⊥) → get_or marks z 0 ≡ get_or marks' z 0

module _ {n : ℕ} {ch : ℕ → ℕ → Type 0} (inside : Inside n ch) {x : ℕ} where
  -- a move along a channel looks at its two ends, and where x flows to the source it flows to the destination
  move_agrees : {a b : ℕ} {marks marks' : List ℕ} → ch a b → Agree n ch x marks marks' →
      Agree n ch x (acted (Moves a b) marks) (acted (Moves a b) marks')
  unfolding acted
  move_agrees {a} {b} {marks} {marks'} h g =
      record {
        room = rw (acted_length (Moves a b) marks) g.room;
        room' = rw (acted_length (Moves a b) marks') g.room';
        agree = λ z below lacks. go z below lacks (ℕ_discrete z b);
      }
    where
      go : (z : ℕ) → z < n → (Flow ch x z → ⊥) → Dec (z ≡ b) →
          get_or (acted (Moves a b) marks) z 0 ≡ get_or (acted (Moves a b) marks') z 0
      go z below lacks (no other) = rw (get_or-set_other marks b z _ 0 other, get_or-set_other marks' b z _ 0 other) (g.agree z below lacks)
      go z below lacks (yes e) =
          let (from, to) = inside a b h in
          let lacks-b : Flow ch x b → ⊥ = λ f. lacks (subst (Flow ch x) (sym e) f) in
          rw (e, get_or-set_same marks b _ 0 (omega (arith, g.room)), get_or-set_same marks' b _ 0 (omega (arith, g.room')))
          (ap₂ plus (g.agree b to lacks-b) (g.agree a from (λ f. lacks-b (step f h))))

  runs_agree : {acts : List Act} {marks marks' : List ℕ} → AllMove ch acts → Agree n ch x marks marks' →
      Agree n ch x (after acts marks) (after acts marks')
  unfolding after acted
  runs_agree still g = g
  runs_agree (move h rest) g = runs_agree rest (move_agrees h g)
  runs_agree (skip_outside rest) g = runs_agree rest g
  runs_agree (skip_barred rest) g = runs_agree rest g

  -- "an entity whose label lacks x ends with equal marks"
  module _ {y : ℕ} (below : y < n) {marks marks' : List ℕ} (s : Starts n x marks marks') (room : n ≤ length marks) where
    at_start : Agree n ch x marks marks'
    at_start =
        record {
          room = room;
          room' = rw (← s.apart.same_length) room;
          agree = λ z inner lacks. s.apart.agree z inner (λ e. lacks (subst (Flow ch x) (sym e) here));
        }

    -- "an entity whose label lacks x ends with equal marks": y, after one list of transfers of a kind that moves along channels only
    pub label_lacks : {T : Type 0} {comes : T → Act → Type 0} {ts : List T} {acts : List Act} → Along comes ch → AllCome comes ts acts →
        (InLabel (Flow ch) y x → ⊥) → get_or (after acts marks) y 0 ≡ get_or (after acts marks') y 0
    label_lacks along come lacks = (runs_agree (come_move along come) at_start).agree y below lacks
