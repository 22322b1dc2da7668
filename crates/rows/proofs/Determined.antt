-- Each promise determines what is written.
use Prim.Native.Nat.{ℕ}
use mathlib.Core.Path.{◌≡◌, sym, ap, ◌∙◌}
use mathlib.Core.List.{List}
use Rattle.answers.specs.Rows.{over}
use Rattle.answers.proofs.Marks.{one_mark, one_row, one_marked}
use Rattle.rows.specs.Written.{FlowRow, FlowTable}

module _ {ch : ℕ → ℕ → Type 0} where
  pub one_flow_row : {n x : ℕ} {row row' : List ℕ} → FlowRow n ch x row → FlowRow n ch x row' → row ≡ row'
  one_flow_row p q = one_row (λ k a b m m'. one_mark m m') p q

  -- "writes each entity's row into its own place": two buffers, filled from one buffer with the flows of one relation of channels, are equal
  pub one_flow_table : {n : ℕ} {before after after' : List ℕ} → FlowTable n ch before after → FlowTable n ch before after' → after ≡ after'
  one_flow_table {before = before} p q = p.written ∙ ap (λ (t : List ℕ). over t before) (one_marked p.marked q.marked) ∙ sym q.written
