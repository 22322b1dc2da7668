-- `pair_key` ascends by the first number and then by the second, for numbers that are bytes.
use Prim.Native.Nat.{ℕ, ◌<◌}
use mathlib.Core.Logic.{inl, inr}
use native.Mathlib.Decide.{dec_lt}
use native.Mathlib.Omega.{arith}
use Rattle.tables.specs.Sheet.{pair_key, PairBefore}

module _ (a b c d : ℕ) (hb : b < 256) (hd : d < 256) where
  -- "Lines ascend strictly: .. by the two bytes after it": the pair with the smaller key stands before, if the second numbers are bytes
  pub key_before : pair_key a b < pair_key c d → PairBefore a b c d
  key_before h = go (dec_lt a c)
    where
      go : Dec (a < c) → PairBefore a b c d
      go (yes l) = inl l
      go (no l) = inr (omega arith, omega arith)

  -- "Lines ascend strictly: .. by the two bytes after it": the pair that stands before has the smaller key, if the second numbers are bytes
  pub before_key : PairBefore a b c d → pair_key a b < pair_key c d
  before_key (inl h) = omega arith
  before_key (inr h) = omega arith
