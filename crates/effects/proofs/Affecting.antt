-- The effect on a label, by what a search over the entities tells.
use Prim.Native.Nat.{ℕ, ◌<◌}
use mathlib.Core.Path.{refl}
use mathlib.Core.Bool.{Bool, true, false, false≢true}
use mathlib.Core.List.{List}
use Rattle.std.specs.Prelude.{◌↔◌, IsTrue}
use Rattle.std.specs.Bool.{MatchBool}
use Rattle.answers.specs.Rows.{Bytes}
use Rattle.theory.specs.Effect.{Gained}
use Rattle.effects.specs.Inner.{NewFlow}

module _ (n : ℕ) (before after : List ℕ) (x : ℕ) where
  pub gains : (some : Bool) → MatchBool some ((y : ℕ) × (y < n) × NewFlow n before after y x) ((y : ℕ) → y < n → NewFlow n before after y x → ⊥) →
      IsTrue some ↔ Gained n (Bytes n before) (Bytes n after) x
  gains true (y, h, f) = (λ _. record { entity = y; below = h; lacked = f.lacked; has = f.has }, λ _. refl)
  gains false none = (λ e. absurd (false≢true e), λ g. absurd (none g.entity g.below (record { lacked = g.lacked; has = g.has })))
