-- Laws of flow, for any relation of channels.
use Prim.Native.Nat.{ℕ, ◌<◌}
use Rattle.theory.specs.Flow.{Flow, here, step}
use Rattle.theory.specs.Laws.{Contains, Reflexive, Transitive, Inside}

module _ {ch : ℕ → ℕ → Type 0} where
  -- "the reflexive, transitive closure of channel"; "the chain without steps counts": each entity flows to itself
  pub flow_reflexive : Reflexive (Flow ch)
  flow_reflexive x = here

  pub flow_then : {x y z : ℕ} → Flow ch x y → Flow ch y z → Flow ch x z
  flow_then f here = f
  flow_then f (step g c) = step (flow_then f g) c

  -- "the reflexive, transitive closure of channel": where x flows to y, and y to z, x flows to z, by however many channels
  pub flow_transitive : Transitive (Flow ch)
  flow_transitive x y z f g = flow_then f g

  -- "the reflexive, transitive closure of channel": each channel is a flow
  pub flow_has : Contains (Flow ch) ch
  flow_has a b c = step here c

  -- a channel in front of a chain
  pub flow_cons : {x y z : ℕ} → ch x y → Flow ch y z → Flow ch x z
  flow_cons c f = flow_then (step here c) f

  -- a set that has x and is closed under the channels has all that x flows to
  pub flow_closed : {x y : ℕ} (P : ℕ → Type 0) → P x → ((a b : ℕ) → P a → ch a b → P b) → Flow ch x y → P y
  flow_closed P px closed here = px
  flow_closed P px closed (step f c) = closed _ _ (flow_closed P px closed f) c

  -- a set that has y and is closed against the channels has all that flows to y
  pub flow_closed_back : {x y : ℕ} (P : ℕ → Type 0) → P y → ((a b : ℕ) → P b → ch a b → P a) → Flow ch x y → P x
  flow_closed_back P py closed here = py
  flow_closed_back P py closed (step f c) = flow_closed_back P (closed _ _ py c) closed f

  -- flow is the smallest such relation
  pub flow_smallest : (R : ℕ → ℕ → Type 0) → Reflexive R → Transitive R → Contains R ch → {x y : ℕ} → Flow ch x y → R x y
  flow_smallest R same through has {x} f = flow_closed (R x) (same x) (λ a b r c. through x a b r (has a b c)) f

  -- from an entity below n to an entity below n
  pub flow_inside : {n x y : ℕ} → Inside n ch → x < n → Flow ch x y → y < n
  flow_inside {n} inside below f = flow_closed (λ z. z < n) below (λ a b _ c. (inside a b c).1) f

-- more channels, more flow
pub flow_more : {ch ch' : ℕ → ℕ → Type 0} → Contains ch' ch → Contains (Flow ch') (Flow ch)
flow_more has x y here = here
flow_more has x y (step {z = z} f c) = step (flow_more has x z f) (has z y c)
