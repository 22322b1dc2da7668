-- `effect`: what a change did to each label.
use Rattle.std.specs.Prelude.{ℕ, ◌≡◌, ◌||◌, List}
use Rattle.answers.specs.Sizes.{least_flow, least_effect}
use Rattle.answers.specs.Call.{Refusal, ◌then◌, Outcome, left}
use Rattle.answers.specs.Rows.{Bytes, Row, over, shorter}
use Rattle.theory.specs.Effect.{Effect}
use Rattle.tables.specs.FlowTable.{flow_refusals, byte_refusals}

-- "Calls on a flow table: 1, 5, 12": the before table's bytes, then the after table's
unfoldable pub effect_refusals : ℕ → List ℕ → List ℕ → List ℕ → List Refusal
effect_refusals n before after effect =
    flow_refusals (shorter after least_flow || shorter effect least_effect) n before then byte_refusals n after

-- "For two flow tables of equal N, before and after, the effect on each entity is a byte"
pub record Affected (n : ℕ) (before after effect : List ℕ) (result : ℕ × List ℕ) : Type 0 where
  pub row : List ℕ
  pub effects : Row n (Effect n (Bytes n before) (Bytes n after)) row
  pub written : result ≡ (0, over row effect)

-- the contract of `effect`: the answer, and the effect bytes afterwards
abbrev pub Affects : ℕ → List ℕ → List ℕ → List ℕ → ℕ × List ℕ → Type 0
Affects n before after effect = Outcome (effect_refusals n before after effect) (left effect) (Affected n before after effect)
