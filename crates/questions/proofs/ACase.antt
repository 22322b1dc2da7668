-- A flow table of two entities in which 0 flows to 1, and which number wins on a faulty one.
use Prim.Native.Nat.{ℕ}
use mathlib.Core.Path.{◌≡◌, refl}
use mathlib.Core.Bool.{true}
use mathlib.Core.List.{List, [], ◌∷◌}
use mathlib.Core.Option.{some, none}
use native.Mathlib.Omega.{arith}
use lib.Dec.{lit<}
use lib.ListN.{replicate}
use Rattle.std.specs.Prelude.{Ok, Err}
use Rattle.answers.specs.declared.refused.Refused.TheVariants.{NoEntity}
use Rattle.answers.specs.Call.{first_refusal, ◌then◌}
use Rattle.answers.specs.Rows.{Bytes, any_below}
use Rattle.theory.specs.Order.{below, Compares, only_there}
use Rattle.tables.specs.FlowTable.{byte_refusals, flow_size_refusals, flow_refusals, entity_refusals, pair_asked_refusals}
use Rattle.questions.specs.declared.Compared.TheVariants.{Below}
use Rattle.questions.specs.Compare.{comparison}
use Rattle.questions.specs.Questions.{asked_refusals, both_asked_refusals, label_refusals}

-- four bytes, and what the buffer has behind them
pub table : ℕ → ℕ → ℕ → ℕ → List ℕ
table a b c d = a ∷ b ∷ c ∷ d ∷ replicate 12540 255

there : Bytes 2 (table 1 1 0 1) 0 1
unfolding table
there = record { source = lit< tt; target = lit< tt; byte = refl }

not_back : Bytes 2 (table 1 1 0 1) 1 0 → ⊥
unfolding table
not_back b = omega (arith, b.byte)

-- "Questions on a flow table are defined by its bytes alone": in this table 0 is below 1
pub entity_0_below_1 : Compares (Bytes 2 (table 1 1 0 1)) 0 1 below
entity_0_below_1 = only_there there not_back

-- 1, 5, 12, 10
pub record FlowOrder : Type 0 where
  pub label_short : first_refusal (flow_refusals true 113 []) ≡ 1
  pub label_111 : first_refusal (label_refusals 2 (table 1 1 0 1) 0 (replicate 111 0)) ≡ 1
  pub label_112 : first_refusal (label_refusals 2 (table 1 1 0 1) 0 (replicate 112 0)) ≡ 0
  pub table_short : first_refusal (asked_refusals 113 [] 200) ≡ 1
  pub n_over : first_refusal (asked_refusals 113 (table 2 2 2 2) 200) ≡ 5
  pub byte_2 : first_refusal (asked_refusals 2 (table 1 2 0 1) 9) ≡ 12
  pub diagonal_0 : first_refusal (both_asked_refusals 2 (table 1 1 1 0) 9 9) ≡ 12
  pub first_outside : first_refusal (both_asked_refusals 2 (table 1 1 0 1) 2 0) ≡ 10
  pub second_outside : first_refusal (both_asked_refusals 2 (table 1 1 0 1) 0 2) ≡ 10
  pub sound : first_refusal (asked_refusals 2 (table 1 1 0 1) 1) ≡ 0

pub flow_order : FlowOrder
unfolding first_refusal ◌then◌ any_below byte_refusals flow_size_refusals flow_refusals entity_refusals pair_asked_refusals asked_refusals both_asked_refusals table
flow_order =
    record {
      label_short = refl;
      label_111 = refl;
      label_112 = refl;
      table_short = refl;
      n_over = refl;
      byte_2 = refl;
      diagonal_0 = refl;
      first_outside = refl;
      second_outside = refl;
      sound = refl;
    }

-- "a definition gives this paper's number and values for each of its cases": an order is told by 0, and a refusal by its number and no order
pub record Enum : Type 0 where
  below_told : comparison (Ok Below) ≡ record { number = 0; order = some below }
  refusal_told : comparison (Err NoEntity) ≡ record { number = 10; order = none }

pub enum : Enum
unfolding comparison
enum = record { below_told = refl; refusal_told = refl }
