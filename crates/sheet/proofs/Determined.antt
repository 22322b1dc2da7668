-- The contracts of `read`, `write` and `refused_line` determine their results.
use Prim.Native.Nat.{ℕ}
use mathlib.Core.Path.{◌≡◌, sym, ap, ◌∙◌}
use mathlib.Core.List.{List}
use denote.Ref.{Bor}
use Rattle.std.specs.Prelude.{Result, Ok, Err}
use Rattle.answers.specs.declared.Told.{Told}
use Rattle.answers.proofs.Exits.{some_number, one_number}
use Rattle.frames.specs.declared.RefusedText.{RefusedText}
use Rattle.sheet.specs.declared.Accepted.{Accepted}
use Rattle.answers.specs.Part.{SamePart}
use Rattle.answers.proofs.Calls.{determined}
use Rattle.answers.proofs.Parts.{one_part}
use Rattle.tables.specs.Sheet.{Lent}
use Rattle.reader.specs.Fill.{Tables}
use Rattle.sheet.specs.Read.{reading_of, ReadResult, Reads}
use Rattle.sheet.specs.Write.{Writes}
use Rattle.sheet.specs.RefusedLine.{RefusedLine}

-- "no second answer satisfies it": two results of `read` on the same text and tables are equal, the answer and all three tables
pub read_determined : (text : List ℕ) (before : Tables) {r₁ r₂ : ReadResult} → Reads text before r₁ → Reads text before r₂ → r₁ ≡ r₂
read_determined text before = determined (λ none d₁ d₂. d₁ ∙ sym d₂)

-- "no second answer satisfies it": what C is told of a reading tells which result it was
pub one_reading : (r s : Result Accepted RefusedText) → reading_of r ≡ reading_of s → r ≡ s
one_reading (Ok a) (Ok b) e = ap (λ t. Ok (record { counts = t.counts; separations = t.separations })) e
one_reading (Ok a) (Err b) e = absurd (some_number b.why (sym (ap (λ t. t.answer) e)))
one_reading (Err a) (Ok b) e = absurd (some_number a.why (ap (λ t. t.answer) e))
one_reading (Err a) (Err b) e =
    let same = one_number a.why b.why (ap (λ t. t.answer) e) in
    rw same (ap (λ t. Err (record { why = b.why; line = t.line })) e)

-- "no second answer satisfies it": two results of `write` on the same input are equal, the answer, the length and the lent text
pub write_determined : (l : Lent) (count : ℕ) (separations before : List ℕ) {r₁ r₂ : Told × List ℕ} →
    Writes l count separations before r₁ → Writes l count separations before r₂ → r₁ ≡ r₂
write_determined l count separations before = determined (λ none d₁ d₂. d₁ ∙ sym d₂)

-- the same bytes at the same place
pub refused_line_determined : (text : Bor (List ℕ)) (line : ℕ) {r₁ r₂ : Bor (List ℕ)} →
    RefusedLine text line r₁ → RefusedLine text line r₂ → SamePart r₁ r₂
refused_line_determined text line = one_part
