-- The whole output is one for each text.
use Prim.Native.Nat.{ℕ}
use mathlib.Core.Path.{◌≡◌, refl, sym, ap₂, ◌∙◌}
use mathlib.Core.List.{List, ◌++◌}
use Rattle.tables.specs.Sheet.{Sheet}
use Rattle.theory.proofs.Orders.{one_class, one_greatest, one_size}
use Rattle.digits.specs.Line.{line_of}
use Rattle.text.specs.Reading.{Read}
use Rattle.separations.proofs.Verdicts.{one_finding, not_both}
use Rattle.output.specs.Output.{EntityLine, EntityLines, none, next, VerdictLine, hold, broken, SheetLines, Printed, refusal, sheet_lines, Output}

module _ {n : ℕ} {R : ℕ → ℕ → Type 0} where
  one_entity_line : {x : ℕ} {a b : List ℕ} → EntityLine n R x a → EntityLine n R x b → a ≡ b
  one_entity_line p q =
      let class : p.class ≡ q.class = one_class p.named q.named in
      let flags : p.flags ≡ q.flags = one_greatest p.greatest q.greatest in
      let size : p.size ≡ q.size = one_size p.label q.label in
      p.bytes_are ∙ rw (class, flags, size) (sym q.bytes_are)

  one_entity_lines : {k : ℕ} {a b : List ℕ} → EntityLines n R k a → EntityLines n R k b → a ≡ b
  one_entity_lines none none = refl
  one_entity_lines (next p l) (next q m) = ap₂ (λ (u v : List ℕ). u ++ line_of v) (one_entity_lines p q) (one_entity_line l m)

one_judgement_line : {ch : ℕ → ℕ → Type 0} {count : ℕ} {separations a b : List ℕ} → VerdictLine ch count separations a → VerdictLine ch count separations b → a ≡ b
one_judgement_line (hold all) (hold all') = refl
one_judgement_line (hold all) (broken p b) = absurd (not_both p all)
one_judgement_line (broken p b) (hold all) = absurd (not_both p all)
one_judgement_line (broken p b) (broken q c) = let same = one_finding p q b c in rw (same.0, same.1)

one_sheet : {t : Sheet} {a b : List ℕ} → SheetLines t a → SheetLines t b → a ≡ b
one_sheet p q =
    let lines : p.entity_lines ≡ q.entity_lines = one_entity_lines p.each q.each in
    let line : p.verdict_line ≡ q.verdict_line = one_judgement_line p.verdict q.verdict in
    p.whole ∙ rw (lines, line) (sym q.whole)

one_print : {r : Read} {a b : List ℕ} → Printed r a → Printed r b → a ≡ b
one_print (refusal e) (refusal f) = e ∙ sym f
one_print (sheet_lines p) (sheet_lines q) = one_sheet p q

-- "The program and its whole output": two outputs of one text are equal
pub output_determined : (text a b : List ℕ) → Output text a → Output text b → a ≡ b
output_determined text a b = one_print
