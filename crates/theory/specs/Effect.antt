-- What a change does to a label, over any two relations on the entities below n: R before it, R' after it.
use Rattle.std.specs.Prelude.{ℕ, ◌+◌, ◌*◌, ◌<◌, ◌≡◌}
use Rattle.answers.specs.Rows.{Mark}
use Rattle.theory.specs.Order.{InLabel}

-- x's label has some entity that it lacked
pub record Gained (n : ℕ) (R R' : ℕ → ℕ → Type 0) (x : ℕ) : Type 0 where
  pub entity : ℕ
  pub below : entity < n
  pub lacked : InLabel R x entity → ⊥
  pub has : InLabel R' x entity

-- x's label lacks some entity that it had
abbrev pub Lost : ℕ → (ℕ → ℕ → Type 0) → (ℕ → ℕ → Type 0) → ℕ → Type 0
Lost n R R' x = Gained n R' R x

-- "the effect on each entity is a byte: 0 label the same, 1 gained only, 2 lost only, 3 both"
pub record Effect (n : ℕ) (R R' : ℕ → ℕ → Type 0) (x byte : ℕ) : Type 0 where
  pub gain : ℕ
  pub loss : ℕ
  pub gained : Mark (Gained n R R' x) gain
  pub lost : Mark (Lost n R R' x) loss
  pub summed : byte ≡ gain + 2 * loss
