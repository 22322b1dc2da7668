-- What inner functions tell. No promise: it only ties functions together.
use Rattle.std.specs.Prelude.{ℕ, List}
use Rattle.answers.specs.Rows.{Bytes}

-- x flows to y after a change and did not before
pub record NewFlow (n : ℕ) (before after : List ℕ) (x y : ℕ) : Type 0 where
  pub lacked : Bytes n before x y → ⊥
  pub has : Bytes n after x y
