-- Flow over any relation of channels.
use Rattle.std.specs.Prelude.{ℕ}

-- "Flow is the reflexive, transitive closure of channel (000, definition 2)"; "a finite chain .. leads there; the chain without
-- steps counts": x flows to y by the empty chain, or by a chain from x to some z and a channel from z to y
pub data Flow (ch : ℕ → ℕ → Type 0) (x : ℕ) : ℕ → Type 0 where
  here : Flow ch x x
  step : {z y : ℕ} → Flow ch x z → ch z y → Flow ch x y
