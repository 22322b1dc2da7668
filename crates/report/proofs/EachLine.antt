-- The lines of the entities, written one after another.
use Prim.Native.Nat.{ℕ, ◌+◌, ◌*◌, ◌≤◌}
use mathlib.Core.Path.{◌≡◌}
use mathlib.Core.List.{List, [], ◌++◌}
use native.Mathlib.Nat.{le_antisymm}
use native.Mathlib.Numerals.{add-one}
use native.Mathlib.Omega.{arith}
use lib.ListN.{length}
use Rattle.digits.specs.Line.{line_of}
use Rattle.digits.proofs.Puts.{put_none, put_then, put_long}
use Rattle.output.specs.Output.{EntityLine, EntityLines, none, next}
use Rattle.report.specs.Inner.{PutLine, PutOutput}
use Rattle.output.proofs.LineLaws.{lines_long}

module _ {n : ℕ} {R : ℕ → ℕ → Type 0} where
  pub lines_none : (before : List ℕ) → PutOutput (EntityLines n R 0) before 0 before
  lines_none before = record { printed = []; right = none; put = put_none 0 before }

  pub lines_more : {k at : ℕ} {before text : List ℕ} {last : ℕ} {after : List ℕ} → PutOutput (EntityLines n R k) before at text →
      PutLine (EntityLine n R k) at text last after → PutOutput (EntityLines n R (k + 1)) before last after
  lines_more {k} p l =
      rw (add-one k) (record { printed = p.printed ++ line_of l.line; right = next p.right l.right; put = put_then p.put l.put })

  pub lines_all : {k at : ℕ} {before after : List ℕ} → k ≤ n → n ≤ k → PutOutput (EntityLines n R k) before at after → PutOutput (EntityLines n R n) before at after
  lines_all h g p = rw (le_antisymm h g) at p

  pub lines_place : {k at : ℕ} {before after : List ℕ} → PutOutput (EntityLines n R k) before at after → (at ≡ 11 * k) × (length after ≡ length before)
  lines_place p = (omega (arith, p.put.place, lines_long p.right), put_long p.put)
