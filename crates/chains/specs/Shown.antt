-- The chain that is written, over any relation of channels.
use Rattle.std.specs.Prelude.{ℕ, ◌≡◌, List, length, Option, Some, None}
use Rattle.answers.specs.Rows.{over}
use Rattle.theory.specs.Flow.{Flow}
use Rattle.theory.specs.Chain.{Best}

-- "The chain from x to y", in front of what the buffer held, and how many entities it has; or none, and the buffer as it was
pub data ShownChain (ch : ℕ → ℕ → Type 0) (x y : ℕ) (before after : List ℕ) (count : Option ℕ) : Type 0 where
  shown : (l : List ℕ) → Best ch x y l → count ≡ Some (length l) → after ≡ over l before → ShownChain ch x y before after count
  missing : (Flow ch x y → ⊥) → count ≡ None → after ≡ before → ShownChain ch x y before after count
