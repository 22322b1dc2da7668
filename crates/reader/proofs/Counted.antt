-- What is known after the lines of an accepted text tells the counts of what they say.
use Prim.Native.Nat.{◌*◌}
use mathlib.Core.Path.{◌≡◌, refl, ◌∙◌}
use mathlib.Core.List.{List, [], ◌∷◌}
use native.Mathlib.Omega.{arith}
use lib.ListN.{length, length-append}
use borrow.Author.Tests.{ltb-false}
use Rattle.tables.specs.Sheet.{Sheet, counts}
use Rattle.frames.specs.declared.Frame.{Frame}
use Rattle.frames.specs.declared.Frame.TheVariants.{Header, Assign, Permit, Separate, End}
use Rattle.std.specs.Prelude.{Ok, Err}
use Rattle.frames.specs.Frame.{Parsed}
use Rattle.frames.specs.declared.Passed.{Passed}
use Rattle.frames.specs.Check.{start, next, next_line, misplaced, Accepted, check, frames_of}
use Rattle.frames.proofs.Checks.{Fine, fine_of, line_passed}
use Rattle.checking.specs.Inner.{after_lines}
use Rattle.text.specs.Content.{blank, add, add_all, content_of}

-- k has the counts of t; before the first line there are no separations
pub record Counted (k : Passed) (t : Sheet) : Type 0 where
  pub counts_same : t.counts ≡ k.counts
  pub pairs : length t.separations ≡ 2 * k.separations
  pub none_yet : k.lines ≡ 0 → k.separations ≡ 0

module _ (k : Passed) (t : Sheet) (c : Counted k t) where
  counted_next : (f : Frame) → Fine k f → Counted (next k f) (add t f)
  unfolding next add blank misplaced
  counted_next (Header s o r) p =
      let first : k.lines ≡ 0 = omega (arith, ltb-false 0 k.lines p.in_place) in
      record { counts_same = refl; pairs = omega (arith, c.none_yet first); none_yet = λ z. absurd (omega arith) }
  counted_next (Assign s r) p = record { counts_same = c.counts_same; pairs = c.pairs; none_yet = λ z. absurd (omega arith) }
  counted_next (Permit r o m) p = record { counts_same = c.counts_same; pairs = c.pairs; none_yet = λ z. absurd (omega arith) }
  counted_next (Separate x y) p =
      record {
        counts_same = c.counts_same;
        pairs = length-append t.separations (x ∷ y ∷ []) ∙ omega (arith, c.pairs);
        none_yet = λ z. absurd (omega arith);
      }
  counted_next (End v l) p = record { counts_same = c.counts_same; pairs = c.pairs; none_yet = λ z. absurd (omega arith) }

counted_all : (ps : List Parsed) (k : Passed) (t : Sheet) → Counted k t → check k ps ≡ Accepted → Counted (after_lines k ps) (add_all t (frames_of ps))
unfolding after_lines add_all frames_of next_line
counted_all [] k t c h = c
counted_all (Err why ∷ ps) k t c h = counted_all ps k t c (line_passed k (Err why) ps h).1
counted_all (Ok f ∷ ps) k t c h =
    let x = line_passed k (Ok f) ps h in
    counted_all ps (next k f) (add t f) (counted_next k t c f (fine_of k f x.0)) x.1

at_start : Counted start (blank (counts 0 0 0))
unfolding start blank
at_start = record { counts_same = refl; pairs = refl; none_yet = λ _. refl }

pub counted : (ps : List Parsed) → check start ps ≡ Accepted → Counted (after_lines start ps) (content_of (frames_of ps))
unfolding content_of
counted ps h = counted_all ps start (blank (counts 0 0 0)) at_start h
