-- What a flow table has that passed 1 and 5.
use mathlib.Core.Path.{◌≡◌}
use mathlib.Core.Bool.{Bool}
use mathlib.Core.List.{List}
use Prim.Native.Nat.{ℕ}
use borrow.Author.Tests.{ltb-false}
use lib.Dec.{T}
use Rattle.answers.specs.Call.{first_refusal}
use Rattle.answers.proofs.Calls.{numbered, passed}
use Rattle.tables.specs.FlowTable.{flow_size_refusals, SizedFlow}

module _ (short : Bool) (n : ℕ) (table : List ℕ) where
  pub flow_size_numbered : T (numbered (flow_size_refusals short n table))
  unfolding flow_size_refusals
  flow_size_numbered = tt

  pub sized : first_refusal (flow_size_refusals short n table) ≡ 0 → SizedFlow n table
  unfolding flow_size_refusals
  sized none =
      let o = passed _ _ _ tt none in
      let t = passed _ _ _ tt o.1 in
      let m = passed _ _ _ tt t.1 in
      record { few = ltb-false _ _ m.0; room = ltb-false _ _ t.0 }
