-- The whole output that document 01 prints for its sheet, proved from the specification.
use Prim.Native.Nat.{ℕ, ◌<◌}
use mathlib.Core.Path.{◌≡◌, refl}
use mathlib.Core.Bool.{true, not}
use mathlib.Core.List.{List, [], ◌∷◌}
use native.Mathlib.Omega.{arith}
use lib.Dec.{eqb, lit<}
use lib.ListN.{length, get_or}
use Rattle.answers.specs.Rows.{count}
use Rattle.tables.specs.Sheet.{Sheet, entities}
use Rattle.theory.specs.Flow.{Flow}
use Rattle.digits.specs.Digit.{digit_byte, to_digits}
use Rattle.digits.specs.Line.{line_of}
use Rattle.digits.specs.Text.{codes}
use Rattle.access.specs.Channel.{Channel}
use Rattle.text.specs.Worked.{worked_text}
use Rattle.text.proofs.AText.{worked, reads_worked}
use Rattle.output.specs.Output.{EntityLine, none, next, broken, sheet_lines, Output}
use Rattle.points.proofs.Computed.{chainb}
use Rattle.points.proofs.ComputedSheet.{channelb, sheet_flows, sheet_chain}
use Rattle.points.proofs.ComputedQuestions.{flowb, noneb, others, together, flags, label_is, class_is, greatest_is}
use Rattle.points.specs.Printed.{printed}

-- the line of an entity, from its class name and its label as they compute
module _ (t : Sheet) (x name : ℕ) (row : List ℕ) (hx : x < entities t.counts) where
  entity_line : name < entities t.counts → together t x hx name ≡ true → noneb name (together t x hx) ≡ true → length row ≡ entities t.counts →
      noneb (entities t.counts) (λ y. not (eqb (flowb t y x) (get_or row y 0))) ≡ true →
      EntityLine (entities t.counts) (Flow (Channel t)) x (0x81 ∷ x ∷ name ∷ flags t x hx ∷ count 1 row ∷ [])
  entity_line below member least size bytes =
      record {
        class = name;
        flags = flags t x hx;
        size = count 1 row;
        named = class_is t x hx name below member least;
        greatest = greatest_is t x hx;
        label = record { row = row; label = label_is t x hx row size bytes; counted = refl };
        bytes_are = refl;
      }

-- "The program and its whole output": the printed output is an output of the printed input
pub worked_output : Output worked_text printed
unfolding worked printed codes digit_byte to_digits line_of chainb channelb flowb noneb others together flags count
worked_output =
    rw reads_worked
    (sheet_lines
    (record {
      entity_lines = _;
      verdict_line = _;
      each =
          next (next (next (next (next (next none
          (entity_line worked 0 0 (1 ∷ 0 ∷ 0 ∷ 0 ∷ 0 ∷ 0 ∷ []) (lit< tt) (lit< tt) refl refl refl refl))
          (entity_line worked 1 1 (1 ∷ 1 ∷ 0 ∷ 1 ∷ 0 ∷ 0 ∷ []) (lit< tt) (lit< tt) refl refl refl refl))
          (entity_line worked 2 2 (0 ∷ 0 ∷ 1 ∷ 0 ∷ 0 ∷ 1 ∷ []) (lit< tt) (lit< tt) refl refl refl refl))
          (entity_line worked 3 3 (1 ∷ 0 ∷ 0 ∷ 1 ∷ 0 ∷ 0 ∷ []) (lit< tt) (lit< tt) refl refl refl refl))
          (entity_line worked 4 4 (1 ∷ 1 ∷ 0 ∷ 1 ∷ 1 ∷ 0 ∷ []) (lit< tt) (lit< tt) refl refl refl refl))
          (entity_line worked 5 5 (0 ∷ 0 ∷ 0 ∷ 0 ∷ 0 ∷ 1 ∷ []) (lit< tt) (lit< tt) refl refl refl refl);
      verdict = broken {i = 0} (record { below = lit< tt; broken = sheet_flows worked (lit< tt) refl; before = λ j h. absurd (omega arith) }) (sheet_chain worked (lit< tt) refl);
      whole = refl;
    }))
