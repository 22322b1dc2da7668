-- Flow and inclusion of labels in the table that `fill` wrote, by the bytes that two calls of `label` left.
use Prim.Native.Nat.{ℕ, ◌≤◌, ◌<◌}
use mathlib.Core.Path.{◌≡◌, ap}
use mathlib.Core.List.{List}
use lib.ListN.{length, get_or}
use lib.Seq.{get_or-take}
use Rattle.answers.specs.declared.Told.{Told}
use Rattle.answers.specs.Call.{told}
use Rattle.answers.specs.Rows.{Mark}
use Rattle.answers.specs.Sizes.{least_label}
use Rattle.answers.proofs.Marks.{marked_yes, mark_of}
use Rattle.tables.specs.Sheet.{Lent, sheet_in, entities}
use Rattle.theory.specs.Order.{InLabel}
use Rattle.theory.specs.Flow.{here}
use Rattle.theory.proofs.Flows.{flow_reflexive, flow_transitive}
use Rattle.theory.proofs.Orders.{label_of_flow}
use Rattle.flow.specs.Fill.{Fills}
use Rattle.questions.specs.Questions.{Flows, Labels}
use Rattle.results.specs.Inclusion.{FlowByLabels}
use Rattle.results.proofs.FilledTable.{filled_questions_tell}
use Rattle.access.specs.Channel.{SheetFlow}

module _ (l : Lent) (before table : List ℕ) (fills : Fills l before (0, table)) where
  abbrev n : ℕ
  n = entities l.counts

  -- the label of an entity, in a buffer
  pub record LabelIn (x : ℕ) (buffer : List ℕ) : Type 0 where
    pub entity : x < n
    pub byte : (z : ℕ) → z < n → Mark (InLabel (SheetFlow (sheet_in l)) x z) (get_or buffer z 0)

  -- a call of `label` left it there
  pub label_left : (x : ℕ) → x < n → (before-it : List ℕ) → least_label ≤ length before-it → (r : Told × List ℕ) → Labels n table x before-it r → LabelIn x r.1
  label_left x hx before-it room r call =
      let tells = (filled_questions_tell l before table fills x x hx hx).label before-it room r call in
      record { entity = hx; byte = λ z hz. rw (get_or-take n r.1 z 0 hz) at (tells.label.bytes z hz) }

  module _ (x y : ℕ) (hx : x < n) (hy : y < n) (before-x before-y : List ℕ) (room-x : least_label ≤ length before-x) (room-y : least_label ≤ length before-y)
      (r r' : Told × List ℕ) (of-x : Labels n table x before-x r) (of-y : Labels n table y before-y r') where
    label_x : LabelIn x r.1
    label_x = label_left x hx before-x room-x r of-x

    label_y : LabelIn y r'.1
    label_y = label_left y hy before-y room-y r' of-y

    -- "In a filled table, flow from x to y holds exactly if x's label is included in y's": the sheet's flow
    pub flow_by_labels : FlowByLabels n (SheetFlow (sheet_in l) x y) r.1 r'.1
    flow_by_labels =
        record {
          included = λ f z hz e.
              mark_of (label_y.byte z hz)
              (label_of_flow flow_reflexive flow_transitive hx hy f z hz (marked_yes (label_x.byte z hz) e));
          holds = λ i. marked_yes (label_y.byte x hx) (i x hx (mark_of (label_x.byte x hx) here));
        }

    -- and the same of what `flows` tells
    pub told_by_labels : (told-flow : Told) → Flows n table x y told-flow → FlowByLabels n (told-flow ≡ told 0 1) r.1 r'.1
    told_by_labels told-flow call =
        let a = (filled_questions_tell l before table fills x y hx hy).flows told-flow call in
        record {
          included = λ e. flow_by_labels.included (marked_yes a.right (ap (λ (t : Told). t.value) e));
          holds = λ i j. record { answer = a.answer j; value = mark_of a.right (flow_by_labels.holds i) j };
        }
