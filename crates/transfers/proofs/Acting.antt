-- What a transfer comes to: an act that moves along a channel, if it moves, and between entities; one act; and by the bytes of a channel
-- table the same as by the relation that the table was filled for.
use Prim.Native.Nat.{ℕ, ◌≤◌, ◌<◌}
use native.Mathlib.Omega.{arith}
use mathlib.Core.Path.{◌≡◌, refl, ap₂, subst₂}
use mathlib.Core.List.{List}
use lib.ListN.{length, get_or}
use Rattle.answers.specs.Rows.{Bytes, Filled}
use Rattle.tables.specs.declared.Counts.{Counts}
use Rattle.tables.specs.Sheet.{entities}
use Rattle.theory.specs.Flow.{Flow}
use Rattle.theory.specs.Order.{InLabel}
use Rattle.theory.specs.Laws.{Agree, Inside}
use Rattle.theory.proofs.Filled.{bytes_agree}
use Rattle.transfers.specs.declared.Act.{Act}
use Rattle.transfers.specs.declared.Act.TheVariants.{Moves}
use Rattle.transfers.specs.declared.Transfer.{Transfer}
use Rattle.transfers.specs.Acts.{after, AllCome, none, next, Along, OneAct}
use Rattle.transfers.specs.Transfers.{Way, to_subject, to_object, Comes, moves, outside, barred}
use Rattle.transfers.specs.Demand3.{Starts}
use Rattle.transfers.proofs.TwoRuns.{label_lacks}

-- ---- along a channel
moves_along : {c : Counts} {ch : ℕ → ℕ → Type 0} {t : Transfer} {a b : ℕ} → Comes c ch t (Moves a b) → ch a b
moves_along (moves w h) = h

pub comes_along : {c : Counts} {ch : ℕ → ℕ → Type 0} → Along (Comes c ch) ch
comes_along t a b = moves_along

-- ---- one act
module _ {c : Counts} {t : Transfer} where
  one_way : {a b a' b' : ℕ} → Way c t a b → Way c t a' b' → (a ≡ a') × (b ≡ b')
  one_way (to_subject s o m) (to_subject s' o' m') = (refl, refl)
  one_way (to_subject s o m) (to_object s' o' m') = absurd (omega arith)
  one_way (to_object s o m) (to_subject s' o' m') = absurd (omega arith)
  one_way (to_object s o m) (to_object s' o' m') = (refl, refl)

  -- a channel of one way is a channel of the other
  same_channel : (ch : ℕ → ℕ → Type 0) {a b a' b' : ℕ} → Way c t a b → Way c t a' b' → ch a b → ch a' b'
  same_channel ch v w h = let (p, q) = one_way v w in subst₂ ch p q h

  act_is_one : {ch : ℕ → ℕ → Type 0} {act act' : Act} → Comes c ch t act → Comes c ch t act' → act ≡ act'
  act_is_one (moves v h) (moves w k) = let (p, q) = one_way v w in ap₂ Moves p q
  act_is_one (moves v h) (outside no_way) = absurd (no_way _ _ v)
  act_is_one {ch} (moves v h) (barred w k) = absurd (k (same_channel ch v w h))
  act_is_one (outside no_way) (moves w k) = absurd (no_way _ _ w)
  act_is_one (outside no_way) (outside _) = refl
  act_is_one (outside no_way) (barred w k) = absurd (no_way _ _ w)
  act_is_one {ch} (barred v h) (moves w k) = absurd (h (same_channel ch w v k))
  act_is_one (barred v h) (outside no_way) = absurd (no_way _ _ v)
  act_is_one (barred v h) (barred w k) = refl

-- "If the channel exists, .. the byte is 10; if there is no channel, 16": a transfer comes to at most one act, whatever the channels
pub one_act : {c : Counts} {ch : ℕ → ℕ → Type 0} → OneAct (Comes c ch)
one_act t act act' = act_is_one

-- ---- by a channel table
-- a way leads from an entity to an entity
pub record Ends (c : Counts) (a b : ℕ) : Type 0 where
  pub source : a < entities c
  pub target : b < entities c

-- "1 moves from object to subject, 2 the other way": the ends of a transfer's way are both below N
pub way_ends : {c : Counts} {t : Transfer} {a b : ℕ} → Way c t a b → Ends c a b
way_ends (to_subject s o m) = record { source = omega arith; target = omega arith }
way_ends (to_object s o m) = record { source = omega arith; target = omega arith }

-- relations that agree between entities
module _ {c : Counts} {ch ch' : ℕ → ℕ → Type 0} (same : Agree (entities c) ch ch') where
  comes_agrees : {t : Transfer} {act : Act} → Comes c ch t act → Comes c ch' t act
  comes_agrees (moves w h) = let e = way_ends w in moves w (same.there _ _ e.source e.target h)
  comes_agrees (outside no_way) = outside no_way
  comes_agrees (barred w closed) = let e = way_ends w in barred w (λ h. closed (same.back _ _ e.source e.target h))

  all_agree : {ts : List Transfer} {acts : List Act} → AllCome (Comes c ch) ts acts → AllCome (Comes c ch') ts acts
  all_agree none = none
  all_agree (next h rest) = next (comes_agrees h) (all_agree rest)

module _ {c : Counts} {ch : ℕ → ℕ → Type 0} {buffer channels : List ℕ} (f : Filled (entities c) ch buffer channels) where
  pub by_table : {ts : List Transfer} {acts : List Act} → AllCome (Comes c (Bytes (entities c) channels)) ts acts → AllCome (Comes c ch) ts acts
  by_table = let same = bytes_agree f in all_agree (record { there = same.back; back = same.there })

-- demand 3's first half, of transfers by subject, object and mode: "an entity whose label lacks x ends with equal marks"
pub transfers_lack : {n x y : ℕ} {c : Counts} {ch : ℕ → ℕ → Type 0} {marks marks' : List ℕ} {ts : List Transfer} {acts : List Act} → Inside n ch → y < n →
    Starts n x marks marks' → n ≤ length marks → AllCome (Comes c ch) ts acts → (InLabel (Flow ch) y x → ⊥) → get_or (after acts marks) y 0 ≡ get_or (after acts marks') y 0
transfers_lack inside below s room come lacks = label_lacks inside below s room comes_along come lacks
