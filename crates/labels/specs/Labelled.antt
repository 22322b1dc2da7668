-- The label of an entity, by the bytes of a flow table.
use Rattle.std.specs.Prelude.{ℕ, ◌≡◌, List}
use Rattle.answers.specs.declared.Told.{Told}
use Rattle.answers.specs.Call.{told}
use Rattle.answers.specs.Rows.{Bytes, over, count}
use Rattle.theory.specs.Order.{Label}

-- "The label of x .. written as N bytes, 0 or 1", and its size
pub record Labelled (n : ℕ) (table : List ℕ) (x : ℕ) (before : List ℕ) (result : Told × List ℕ) : Type 0 where
  pub row : List ℕ
  pub label : Label n (Bytes n table) x row
  pub written : result ≡ (told 0 (count 1 row), over row before)
