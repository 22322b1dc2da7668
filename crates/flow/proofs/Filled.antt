-- The table that filling wrote: its bytes are the sheet's flows, so the questions on it are those of the sheet's flow.
use Prim.Native.Nat.{ℕ, ◌<◌}
use mathlib.Core.List.{List}
use Rattle.answers.specs.Rows.{Bytes}
use Rattle.tables.specs.Sheet.{Sheet, entities}
use Rattle.theory.specs.Flow.{Flow, here}
use Rattle.theory.specs.Order.{Included}
use Rattle.theory.specs.Effect.{Effect}
use Rattle.theory.specs.Laws.{Agree, EqualAnswers, OneClass}
use Rattle.theory.proofs.Filled.{bytes_agree}
use Rattle.theory.proofs.Flows.{flow_reflexive, flow_transitive}
use Rattle.theory.proofs.Orders.{agree_turned, equal_answers, label_of_flow, one_name_one_class}
use Rattle.theory.proofs.Effects.{effect_agrees}
use Rattle.flow.specs.Fill.{FlowFilled}
use Rattle.access.specs.Channel.{SheetFlow}

-- "that these are the sheet's flows is promised of the table that filling wrote": the byte is 1 exactly if x flows to y, both below N
pub filled_agrees : (t : Sheet) (before after : List ℕ) → FlowFilled t before after → Agree (entities t.counts) (SheetFlow t) (Bytes (entities t.counts) after)
filled_agrees t before after f = bytes_agree f

-- label, class, compare and greatest are those of the sheet's flow
pub filled_answers : (t : Sheet) (before after : List ℕ) → FlowFilled t before after → (x y : ℕ) → x < entities t.counts → y < entities t.counts →
    EqualAnswers (entities t.counts) (SheetFlow t) (Bytes (entities t.counts) after) x y
filled_answers t before after f x y hx hy = equal_answers (filled_agrees t before after f) hx hy

-- and what a question on the table answers is so of the sheet's flow
pub table_answers : (t : Sheet) (before after : List ℕ) → FlowFilled t before after → (x y : ℕ) → x < entities t.counts → y < entities t.counts →
    EqualAnswers (entities t.counts) (Bytes (entities t.counts) after) (SheetFlow t) x y
table_answers t before after f x y hx hy = equal_answers (agree_turned (filled_agrees t before after f)) hx hy

-- "In a filled table, flow from x to y holds exactly if x's label is included in y's"
module _ (t : Sheet) (before after : List ℕ) (f : FlowFilled t before after) (x y : ℕ) (hx : x < entities t.counts) (hy : y < entities t.counts) where
  agree : Agree (entities t.counts) (SheetFlow t) (Bytes (entities t.counts) after)
  agree = filled_agrees t before after f

  -- "x's label is included in y's", by the bytes of a filled table, where its byte from x to y is 1
  pub label_of_byte : Bytes (entities t.counts) after x y → Included (entities t.counts) (Bytes (entities t.counts) after) x y
  label_of_byte b z hz i =
      agree.there z y hz hy (label_of_flow flow_reflexive flow_transitive hx hy (agree.back x y hx hy b) z hz (agree.back z x hz hx i))

  -- and only there: where x's label is included in y's, by the bytes of a filled table, its byte from x to y is 1
  pub byte_of_label : Included (entities t.counts) (Bytes (entities t.counts) after) x y → Bytes (entities t.counts) after x y
  byte_of_label i = i x hx (agree.there x x hx hx here)

-- "A class is named by its smallest member": in a filled table two entities have one name exactly if each flows to the other
pub classes_partition : (t : Sheet) (before after : List ℕ) → FlowFilled t before after → (x y a b : ℕ) → x < entities t.counts → y < entities t.counts →
    OneClass (entities t.counts) (Bytes (entities t.counts) after) x y a b
classes_partition t before after f x y a b hx hy =
    let agree : Agree (entities t.counts) (SheetFlow t) (Bytes (entities t.counts) after) = filled_agrees t before after f in
    let of-x = equal_answers (agree_turned agree) hx hy in
    let of-y = equal_answers (agree_turned agree) hy hx in
    let classes = one_name_one_class flow_reflexive flow_transitive (entities t.counts) x y a b in
    record {
      one_name = λ e p q.
          classes.one_name (record { there = agree.back x y hx hy e.there; back = agree.back y x hy hx e.back }) (of-x.class a p)
          (of-y.class b q);
      one_class = λ same p q.
          let e = classes.one_class same (of-x.class a p) (of-y.class b q) in
          record { there = agree.there x y hx hy e.there; back = agree.there y x hy hx e.back };
    }

-- "Between filled tables": the effect is that between the flows
pub tables_effect : {n : ℕ} {ch ch' : ℕ → ℕ → Type 0} {before after : List ℕ} → Agree n (Flow ch) (Bytes n before) → Agree n (Flow ch') (Bytes n after) →
    {x e : ℕ} → x < n → Effect n (Bytes n before) (Bytes n after) x e → Effect n (Flow ch) (Flow ch') x e
tables_effect a b hx = effect_agrees (agree_turned a) (agree_turned b) hx
