-- What two tables and a buffer have that passed 1, 5 and 12.
use Prim.Native.Nat.{ℕ, ◌≤◌}
use mathlib.Core.Path.{◌≡◌, refl, sym, ◌∙◌}
use mathlib.Core.Bool.{Bool, ◌||◌}
use mathlib.Core.List.{List}
use borrow.Author.Tests.{ltb-false}
use lib.ListN.{length}
use Rattle.answers.specs.Sizes.{least_flow, least_effect}
use Rattle.answers.specs.Call.{first_refusal}
use Rattle.answers.specs.Rows.{shorter}
use Rattle.answers.proofs.Calls.{passed_then}
use Rattle.answers.proofs.Joined.{neither}
use Rattle.tables.specs.FlowTable.{byte_refusals, flow_refusals, SizedFlow}
use Rattle.tables.proofs.FlowTables.{flow_numbered, flow_passed}
use Rattle.effects.specs.Effects.{effect_refusals}

module _ (n : ℕ) (before after effect : List ℕ) where
  -- of the table after and the effect's buffer, where the table before passed
  pub after_sized : (short : Bool) → short ≡ (shorter after least_flow || shorter effect least_effect) → first_refusal (flow_refusals short n before) ≡ 0 →
      SizedFlow n after × (least_effect ≤ length effect)
  after_sized short is_short none =
      let p = flow_passed short n before none in
      let long = neither (shorter after least_flow) _ (sym is_short ∙ p.0) in
      (record { few = p.1.sized.few; room = ltb-false _ _ long.0 }, ltb-false _ _ long.1)

  pub effect_long : first_refusal (effect_refusals n before after effect) ≡ 0 → least_effect ≤ length effect
  unfolding effect_refusals
  effect_long none = (after_sized _ refl (passed_then _ (byte_refusals n after) (flow_numbered _ n before) none).0).1
