-- The whole output of `flowsheet`, as a relation between a text and bytes.
use Rattle.std.specs.Prelude.{ℕ, suc, ◌/◌, ◌%◌, ◌≡◌, List, [], ◌∷◌, ◌++◌, length}
use Rattle.tables.specs.Sheet.{Sheet, entities, from, to}
use Rattle.theory.specs.Chain.{Best}
use Rattle.theory.specs.Order.{LabelSize, ClassName, Greatest}
use Rattle.digits.specs.Line.{line_of}
use Rattle.text.specs.Reading.{Read, refused, accepted, read_text}
use Rattle.access.specs.Channel.{Channel, SheetFlow}
use Rattle.separations.specs.Judgement.{FirstBroken, AllHold}

-- "A line 81 is entity, class name, flags (1 greatest secrecy, 2 greatest integrity, summed), label size": that of entity x among n
pub record EntityLine (n : ℕ) (R : ℕ → ℕ → Type 0) (x : ℕ) (bytes : List ℕ) : Type 0 where
  pub class : ℕ
  pub flags : ℕ
  pub size : ℕ
  pub named : ClassName n R x class
  pub greatest : Greatest n R x flags
  pub label : LabelSize n R x size
  pub bytes_are : bytes ≡ 0x81 ∷ x ∷ class ∷ flags ∷ size ∷ []

-- the lines of the entities below k, ascending
pub data EntityLines (n : ℕ) (R : ℕ → ℕ → Type 0) : ℕ → List ℕ → Type 0 where
  none : EntityLines n R 0 []
  next : {k : ℕ} {out bytes : List ℕ} → EntityLines n R k out → EntityLine n R k bytes → EntityLines n R (suc k) (out ++ line_of bytes)

-- "A line 82 is 00 if all hold, else 01, position, count of entities in the chain, the chain"
pub data VerdictLine (ch : ℕ → ℕ → Type 0) (count : ℕ) (separations : List ℕ) : List ℕ → Type 0 where
  hold : AllHold ch count separations → VerdictLine ch count separations (0x82 ∷ 0 ∷ [])
  broken : {i : ℕ} {l : List ℕ} → FirstBroken ch count separations i → Best ch (from separations i) (to separations i) l →
      VerdictLine ch count separations (0x82 ∷ 1 ∷ i ∷ length l ∷ l)

-- the lines of an accepted sheet
pub record SheetLines (t : Sheet) (out : List ℕ) : Type 0 where
  pub entity_lines : List ℕ
  pub verdict_line : List ℕ
  pub each : EntityLines (entities t.counts) (SheetFlow t) (entities t.counts) entity_lines
  pub verdict : VerdictLine (Channel t) (length t.separations / 2) t.separations verdict_line
  pub whole : out ≡ entity_lines ++ line_of verdict_line

-- "A refused sheet prints one line only: 80, the number, the line as two bytes, high byte first"
unfoldable pub refusal_line : ℕ → ℕ → List ℕ
refusal_line n line = line_of (0x80 ∷ n ∷ (line / 256) ∷ (line % 256) ∷ [])

-- what is printed for what reading makes of a text
pub data Printed : Read → List ℕ → Type 0 where
  refusal : {n line : ℕ} {out : List ℕ} → out ≡ refusal_line n line → Printed (refused n line) out
  sheet_lines : {t : Sheet} {out : List ℕ} → SheetLines t out → Printed (accepted t) out

-- "The program and its whole output"
abbrev pub Output : List ℕ → List ℕ → Type 0
Output text out = Printed (read_text text) out
