-- What is written for one relation of channels is written for another with the same pairs.
use Prim.Native.Nat.{ℕ}
use mathlib.Core.List.{List}
use Rattle.answers.proofs.Marks.{mark_agrees}
use Rattle.theory.proofs.Flows.{flow_more}
use Rattle.rows.specs.Written.{FlowRow, FlowTable}
use Rattle.theory.specs.Laws.{Contains}

-- ---- what is promised of one relation holds of another with the same pairs
module _ {ch ch' : ℕ → ℕ → Type 0} (to : Contains ch' ch) (back : Contains ch ch') where
  pub row_agrees : {n x : ℕ} {row : List ℕ} → FlowRow n ch x row → FlowRow n ch' x row
  row_agrees {x = x} r = record { size = r.size; bytes = λ y h. mark_agrees (flow_more to x y) (flow_more back x y) (r.bytes y h) }

  pub table_agrees : {n : ℕ} {before after : List ℕ} → FlowTable n ch before after → FlowTable n ch' before after
  table_agrees t =
      record {
        table = t.table;
        marked = record {
          size = t.marked.size;
          bytes = λ x y h l. mark_agrees (flow_more to x y) (flow_more back x y) (t.marked.bytes x y h l);
        };
        written = t.written;
      }
