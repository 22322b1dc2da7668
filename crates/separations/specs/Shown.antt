-- What is shown of the chain from x to y, over any relation of channels.
use Rattle.std.specs.Prelude.{ℕ, ◌≡◌, List, length}
use Rattle.answers.specs.declared.Told.{Told}
use Rattle.answers.specs.Call.{told}
use Rattle.answers.specs.Rows.{over}
use Rattle.theory.specs.Flow.{Flow}
use Rattle.theory.specs.Chain.{Best}

-- "The chain from x to y is a list of entities, each joined to the next by a channel, shortest, and among the shortest the smallest":
-- its count, and the chain in front of what the buffer held. "13 | no chain", with count 0 and the buffer unaltered.
pub data Shown (ch : ℕ → ℕ → Type 0) (x y : ℕ) (before : List ℕ) (result : Told × List ℕ) : Type 0 where
  shown : (l : List ℕ) → Best ch x y l → result ≡ (told 0 (length l), over l before) → Shown ch x y before result
  missing : (Flow ch x y → ⊥) → result ≡ (told 13 0, before) → Shown ch x y before result
