-- Of the table that `fill` wrote with answer 0, every question answers 0 and the sheet's value.
use Prim.Native.Nat.{ℕ, ◌<◌}
use mathlib.Core.Path.{◌≡◌, refl, ap, ◌∙◌}
use mathlib.Core.List.{List}
use lib.ListN.{length, take, drop}
use lib.Seq.{take_at, drop_at}
use borrow.Author.Tests.{le-ltb}
use Rattle.answers.specs.declared.Told.{Told}
use Rattle.answers.specs.Rows.{Bytes, over}
use Rattle.answers.proofs.Marks.{mark_agrees}
use Rattle.tables.specs.Sheet.{Lent, sheet_of, sheet_in, entities}
use Rattle.theory.specs.Laws.{Agree, EqualAnswers}
use Rattle.theory.proofs.Orders.{agree_turned, equal_answers}
use Rattle.labels.specs.Labelled.{Labelled}
use Rattle.flow.specs.Fill.{Fills}
use Rattle.flow.proofs.Filled.{filled_agrees}
use Rattle.flow.proofs.Unrefused.{table_filled, table_sound}
use Rattle.questions.specs.Questions.{Answered, asked_refusals}
use Rattle.questions.specs.Compare.{ComparesTo}
use Rattle.questions.proofs.Asked.{asked_pass, both_pass}
use Rattle.results.specs.FilledTable.{LabelTold, QuestionsTell}
use Rattle.access.specs.Channel.{SheetFlow}
use Rattle.tables.specs.FlowTable.{SoundFlow}

-- an answer of 0 with a value that is right of one statement is right of another that follows
right_too : {P Q : ℕ → Type 0} {r : Told} → ((v : ℕ) → P v → Q v) → Answered P r → Answered Q r
right_too to a = record { answer = a.answer; right = to _ a.right }

module _ {n : ℕ} {R : ℕ → ℕ → Type 0} {table : List ℕ} (sound : SoundFlow n table) (agree : Agree n (Bytes n table) R) {x y : ℕ} (hx : x < n)
    (hy : y < n) where
  same : EqualAnswers n (Bytes n table) R x y
  same = equal_answers agree hx hy

  label_told : {before : List ℕ} {r : Told × List ℕ} → Labelled n table x before r → LabelTold n R x before r
  unfolding over
  label_told {before} {r} p =
      let left : r.1 ≡ over p.row before = ap (λ (a : Told × List ℕ). a.1) p.written in
      let front : take n r.1 ≡ p.row = rw left (take_at p.row (drop (length p.row) before) n p.label.size) in
      record {
        answer = ap (λ (a : Told × List ℕ). a.0.answer) p.written;
        label = rw front (same.label p.row p.label);
        size = record { row = p.row; label = same.label p.row p.label; counted = ap (λ (a : Told × List ℕ). a.0.value) p.written };
        rest = rw left (drop_at p.row (drop (length p.row) before) n p.label.size ∙ rw p.label.size);
      }

  questions_tell : QuestionsTell n R table x y
  unfolding ComparesTo asked_refusals
  questions_tell =
      record {
        flows = λ r c. right_too (λ v. mark_agrees (agree.there x y hx hy) (agree.back x y hx hy)) (c.done (both_pass n table sound x y hx hy));
        label = λ before room r c. label_told (c.done (asked_pass n table sound _ (le-ltb _ _ room) x hx));
        class_name = λ r c. right_too same.class (c.done (asked_pass n table sound _ refl x hx));
        compare = λ r c. let s = c.done (both_pass n table sound x y hx hy) in (s.order, same.order _ s.compares, s.told);
        greatest = λ r c. right_too same.greatest (c.done (asked_pass n table sound _ refl x hx));
      }

-- "that these are the sheet's flows is promised of the table that filling wrote"
pub filled_questions_tell : (l : Lent) (before table : List ℕ) → Fills l before (0, table) → (x y : ℕ) → x < entities l.counts → y < entities l.counts →
    QuestionsTell (entities l.counts) (SheetFlow (sheet_in l)) table x y
unfolding sheet_of
filled_questions_tell l before table fills x y hx hy =
    questions_tell (table_sound l before table fills) (agree_turned (filled_agrees (sheet_in l) before table (table_filled l before table fills))) hx hy
