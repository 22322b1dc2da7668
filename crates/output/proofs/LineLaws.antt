-- The lines of the entities: how long they are, and that relations that agree have the same.
use Prim.Native.Nat.{ℕ, ◌*◌, ◌≤◌, ◌<◌}
use mathlib.Core.Path.{◌≡◌, refl}
use mathlib.Core.List.{List}
use native.Mathlib.Omega.{arith}
use lib.ListN.{length, length-append}
use Rattle.theory.specs.Laws.{Agree}
use Rattle.theory.proofs.Orders.{equal_answers}
use Rattle.digits.specs.Line.{line_of}
use Rattle.digits.proofs.Puts.{line_long}
use Rattle.output.specs.Output.{EntityLine, EntityLines, none, next}

module _ {n : ℕ} {R : ℕ → ℕ → Type 0} where
  -- each has five bytes
  entity_line_long : {x : ℕ} {bytes : List ℕ} → EntityLine n R x bytes → length (line_of bytes) ≡ 11
  entity_line_long {bytes = bytes} l = rw l.bytes_are (line_long _)

  pub lines_long : {k : ℕ} {out : List ℕ} → EntityLines n R k out → length out ≡ 11 * k
  lines_long none = refl
  lines_long (next p l) = simp length-append (omega (arith, lines_long p, entity_line_long l))

-- ---- by another relation that agrees
module _ {n : ℕ} {R R' : ℕ → ℕ → Type 0} (g : Agree n R R') where
  line_agrees : {x : ℕ} {bytes : List ℕ} → x < n → EntityLine n R x bytes → EntityLine n R' x bytes
  line_agrees {x} h l =
      let e = equal_answers g h h in
      record {
        class = l.class;
        flags = l.flags;
        size = l.size;
        named = e.class l.class l.named;
        greatest = e.greatest l.flags l.greatest;
        label = e.size l.size l.label;
        bytes_are = l.bytes_are;
      }

  pub lines_agree : {k : ℕ} {out : List ℕ} → k ≤ n → EntityLines n R k out → EntityLines n R' k out
  lines_agree h none = none
  lines_agree h (next p l) = next (lines_agree (omega arith) p) (line_agrees h l)
