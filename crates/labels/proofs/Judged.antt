-- The bytes of a flow table that was judged mark its relation, and so does a test that holds exactly if a statement does.
use Prim.Native.Nat.{ℕ, zero, suc, ◌+◌, ◌*◌, ◌≤◌, ◌<◌}
use mathlib.Core.Path.{◌≡◌, refl}
use mathlib.Core.Bool.{Bool, true, false, false≢true}
use mathlib.Core.List.{List}
use native.Mathlib.Omega.{arith}
use mir.Val.{bool_byte}
use Rattle.std.specs.Prelude.{◌↔◌, IsTrue}
use Rattle.answers.specs.Rows.{at, Mark, one, none, Bytes}
use Rattle.answers.proofs.Products.{place_below}
use Rattle.tables.specs.FlowTable.{SoundFlow}

-- "bytes, 0 or 1": each marks whether one entity flows to the other
pub byte_marks : (n : ℕ) (table : List ℕ) (x y : ℕ) → SoundFlow n table → x < n → y < n → Mark (Bytes n table x y) (at table n x y)
byte_marks n table x y a hx hy = go (at table n x y) refl (a.bits (x * n + y) (place_below x y n n (n * n) hx hy (omega arith)))
  where
    go : (b : ℕ) → at table n x y ≡ b → b ≤ 1 → Mark (Bytes n table x y) b
    go zero e h = none refl (λ r. omega (arith, e, r.byte))
    go (suc zero) e h = one refl (record { source = hx; target = hy; byte = e })
    go (suc (suc b)) e h = absurd (omega arith)

-- a test as a number
pub test_marks : {P : Type 0} (b : Bool) → (IsTrue b ↔ P) → Mark P (bool_byte b)
test_marks true h = one refl (h.0 refl)
test_marks false h = none refl (λ p. false≢true (h.1 p))
