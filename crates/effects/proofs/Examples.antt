-- Which number wins on a faulty table, and which choices are good.
use Prim.Native.Nat.{ℕ}
use mathlib.Core.Path.{◌≡◌, refl}
use mathlib.Core.Bool.{true, false}
use mathlib.Core.List.{List, [], ◌∷◌}
use lib.ListN.{replicate}
use Rattle.answers.specs.Call.{first_refusal, ◌then◌}
use Rattle.answers.specs.Rows.{any_below}
use Rattle.tables.specs.FlowTable.{byte_refusals, flow_size_refusals, flow_refusals}
use Rattle.effects.specs.Effects.{effect_refusals}
use Rattle.effects.specs.ChosenRow.{can_choose}

-- four bytes, and what the buffer has behind them
table : ℕ → ℕ → ℕ → ℕ → List ℕ
table a b c d = a ∷ b ∷ c ∷ d ∷ replicate 12540 255

-- 1, 5, 12 of the table before, 12 of the one after
record EffectOrder : Type 0 where
  after_faulty : first_refusal (effect_refusals 2 (table 1 1 0 1) (table 0 1 0 1) (replicate 112 0)) ≡ 12
  after_short : first_refusal (effect_refusals 113 (table 1 1 0 1) [] (replicate 112 0)) ≡ 1
  effect_short : first_refusal (effect_refusals 113 (table 1 1 0 1) (table 1 1 0 1) (replicate 111 0)) ≡ 1

effect_order : EffectOrder
unfolding first_refusal ◌then◌ any_below byte_refusals flow_size_refusals flow_refusals effect_refusals table
effect_order =
    record {
      after_faulty = refl;
      after_short = refl;
      effect_short = refl;
    }

-- a bad choice, number, count or length
record Choices : Type 0 where
  before_table : can_choose (table 1 1 0 1) (table 1 0 0 1) 2 0 1 ≡ true
  after_table : can_choose (table 1 1 0 1) (table 1 0 0 1) 2 1 0 ≡ true
  bad_choice : can_choose (table 1 1 0 1) (table 1 0 0 1) 2 2 0 ≡ false
  bad_number : can_choose (table 1 1 0 1) (table 1 0 0 1) 2 0 2 ≡ false
  bad_count : can_choose (table 1 1 0 1) (table 1 0 0 1) 113 0 0 ≡ false
  bad_length : can_choose (table 1 1 0 1) (1 ∷ []) 1 0 0 ≡ false

choices : Choices
unfolding can_choose table
choices =
    record { before_table = refl; after_table = refl; bad_choice = refl; bad_number = refl; bad_count = refl; bad_length = refl }
