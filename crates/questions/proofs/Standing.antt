-- How two entities stand to each other, by the tests of the bytes there and back.
use Prim.Native.Nat.{ℕ, ◌<◌}
use mathlib.Core.Path.{◌≡◌, refl, sym, ◌∙◌}
use mathlib.Core.Bool.{Bool, true, false, cond, false≢true}
use mathlib.Core.List.{List}
use borrow.Author.Tests.{eqb-true, eq-eqb}
use lib.Dec.{eqb}
use Rattle.answers.specs.Rows.{at, Mark, one, none, Bytes}

module _ (n : ℕ) (table : List ℕ) (x y : ℕ) where
  pub flows_by : x < n → y < n → true ≡ eqb (at table n x y) 1 → Bytes n table x y
  flows_by hx hy e = record { source = hx; target = hy; byte = eqb-true _ _ (sym e) }

  pub no_flow_by : false ≡ eqb (at table n x y) 1 → Bytes n table x y → ⊥
  no_flow_by e b = false≢true (e ∙ eq-eqb _ _ b.byte)

  pub flow_marked : (x < n) × (y < n) → (b : Bool) → b ≡ eqb (at table n x y) 1 → Mark (Bytes n table x y) (cond b 1 0)
  flow_marked inside true e = one refl (flows_by inside.0 inside.1 e)
  flow_marked inside false e = none refl (no_flow_by e)
