-- The one number that C is handed tells the answer, the position and the chain count: nothing is cut.
use Prim.Native.Nat.{ℕ, ◌/◌, ◌%◌, ◌^◌, ◌<◌}
use mathlib.Core.Path.{◌≡◌, refl}
use mathlib.Core.List.{List, ◌∷◌}
use native.Mathlib.Omega.{arith}
use lib.ListN.{replicate}
use Rattle.tables.specs.Sheet.{Lent}
use Rattle.separations.specs.declared.Judged.{Judged}
use Rattle.separations.specs.Judgement.{judged}
use Rattle.verdict.proofs.Bounds.{Small, judged_small}
use Rattle.verdict.proofs.Instances.{tables, separations, before, call}
use Rattle.sievemarl.specs.Packed.{packed}
use Rattle.sievemarl.specs.ForC.{JudgesForC}

module _ (j : Judged) (answer : j.answer < 256) (position : j.position < 256) where
  -- "answer + 256 x position + 65,536 x chain count": modulo 256 it is the answer, where answer and position are below 256
  pub packed_answer : packed j % 256 ≡ j.answer
  unfolding packed
  packed_answer = omega arith

  -- "256 x position": divided by 256 and then modulo 256 it is the position, where answer and position are below 256
  pub packed_position : packed j / 256 % 256 ≡ j.position
  unfolding packed
  packed_position = omega arith

  -- "65,536 x chain count": divided by 65,536 it is the chain count, where answer and position are below 256
  pub packed_count : packed j / 65536 ≡ j.count
  unfolding packed
  packed_count = omega arith

-- a finding at position 2 with a chain of four
example : packed (judged 14 2 4) ≡ 262670
unfolding packed
example = refl

-- ---- whatever result the contract of `sievemarl_judge` allows
module _ (l : Lent) (count : ℕ) (separations before : List ℕ) (result : ℕ × List ℕ) (c : JudgesForC l count separations before result) where
  small : Small c.judged
  small = judged_small l count separations before c.judges

  -- "judging returns answer + ..": the number that `sievemarl_judge` returns, modulo 256, is the answer of its judging, of a refusal too
  pub returned_answer : result.0 % 256 ≡ c.judged.answer
  returned_answer = rw c.returned (packed_answer c.judged (omega (arith, small.answer)) (omega (arith, small.position)))

  -- ".. + 256 x position": the number that `sievemarl_judge` returns, divided by 256 and then modulo 256, is the position of its judging
  pub returned_position : result.0 / 256 % 256 ≡ c.judged.position
  returned_position = rw c.returned (packed_position c.judged (omega (arith, small.answer)) (omega (arith, small.position)))

  -- ".. + 65,536 x chain count": the number that `sievemarl_judge` returns, divided by 65,536, is the chain count of its judging
  pub returned_count : result.0 / 65536 ≡ c.judged.count
  returned_count = rw c.returned (packed_count c.judged (omega (arith, small.answer)) (omega (arith, small.position)))

  -- and it is a number of 32 bits
  pub returned_fits : result.0 < 2 ^ 32
  unfolding packed
  returned_fits = omega (arith, c.returned, small.answer, small.position, small.count)

-- the broken separation of the small sheet: answer 14, position 0, and a chain of two
pub small_call : JudgesForC tables 1 separations before (131086, 0 ∷ 1 ∷ replicate 110 9)
unfolding packed
small_call = record { judged = judged 14 0 2; judges = call; returned = refl }
