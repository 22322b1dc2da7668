-- The share of x in y is 0 outside y's label, and 1 along a chain from x to y that repeats no entity.
use Prim.Native.Nat.{ℕ}
use mathlib.Core.Path.{◌≡◌, refl, sym, subst}
use mathlib.Core.Bool.{Bool, true, false, cond}
use mathlib.Core.List.{List, ◌∷◌}
use lib.Dec.{eqb}
use borrow.Author.Tests.{eqb-true, eq-eqb, ne_eqb}
use Rattle.theory.specs.Flow.{Flow, here}
use Rattle.theory.specs.Chain.{Chain, alone, link, Absent, nowhere, further, Distinct, more}
use Rattle.theory.proofs.Flows.{flow_cons}
use Rattle.transfers.specs.declared.Act.{Act}
use Rattle.transfers.specs.declared.Act.TheVariants.{Moves}
use Rattle.transfers.proofs.Moving.{AllMove, still, move, skip_outside, skip_barred}
use Rattle.transfers.proofs.Shares.{share}
use Rattle.transfers.specs.Demand3.{chain_moves}

-- ---- outside y's label
-- a number that is 0 wherever a and b are equal
zero_where_equal : (a b v : ℕ) → (a ≡ b → v ≡ 0) → cond (eqb a b) v 0 ≡ 0
zero_where_equal a b v h = go (eqb a b) refl
  where
    go : (t : Bool) → eqb a b ≡ t → cond t v 0 ≡ 0
    go true e = h (eqb-true a b e)
    go false e = refl

pub share_outside : {ch : ℕ → ℕ → Type 0} {acts : List Act} → AllMove ch acts → (x y : ℕ) → (Flow ch x y → ⊥) →
    share acts x y ≡ 0
unfolding share
share_outside {ch} still x y lacks = zero_where_equal x y 1 (λ e. absurd (lacks (subst (Flow ch x) e here)))
share_outside {ch} (move {a = a} {b = b} h rest) x y lacks =
    let lacks-b : x ≡ a → Flow ch b y → ⊥ = λ e f. lacks (flow_cons (subst (λ z. ch z b) (sym e) h) f) in
    rw (share_outside rest x y lacks, zero_where_equal x a _ (λ e. share_outside rest b y (lacks-b e)))
share_outside (skip_outside rest) x y lacks = share_outside rest x y lacks
share_outside (skip_barred rest) x y lacks = share_outside rest x y lacks

-- ---- along a chain
module _ {ch : ℕ → ℕ → Type 0} {y : ℕ} where
  -- what stands in front of a chain moves to its first entity
  pub chain_moves_lem : {z : ℕ} {l : List ℕ} (x : ℕ) → Chain ch z y l → chain_moves (x ∷ l) ≡ Moves x z ∷ chain_moves l
  unfolding chain_moves
  chain_moves_lem x alone = refl
  chain_moves_lem x (link c t) = refl

  pub chain_along : {x : ℕ} {l : List ℕ} → Chain ch x y l → AllMove ch (chain_moves l)
  unfolding chain_moves
  chain_along alone = still
  chain_along {x} (link c t) = rw (chain_moves_lem x t) (move c (chain_along t))

  -- an entity that is not on the chain has no share
  share_off : {x w : ℕ} {l : List ℕ} → Chain ch x y l → Absent w l → share (chain_moves l) w y ≡ 0
  unfolding chain_moves share
  share_off {w = w} alone (further ne nowhere) = rw (ne_eqb w y (λ e. ne (sym e)))
  share_off {x} {w} (link c t) (further ne rest) = rw (chain_moves_lem x t, share_off t rest, ne_eqb w x (λ e. ne (sym e)))

  pub share_along : {x : ℕ} {l : List ℕ} → Chain ch x y l → Distinct l → share (chain_moves l) x y ≡ 1
  unfolding chain_moves share
  share_along alone d = rw (eq-eqb y y refl)
  share_along {x} (link c t) (more off d) = rw (chain_moves_lem x t, share_off t off, eq-eqb x x refl, share_along t d)
