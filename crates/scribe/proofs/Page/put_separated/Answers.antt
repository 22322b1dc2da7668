-- `scribe::Page::put_separated` meets its contract: the lines of the pairs to come are left to write.
use mathlib.Core.Path.{refl, ◌∙◌}
use mathlib.Core.List.{[], ◌∷◌, ◌++◌}
use native.Mathlib.Omega.{arith}
use lib.ListN.{get_or}
use Rattle.std.specs.Slice.Iter.{chunks_exact_rest}
use Rattle.frames.specs.declared.Frame.TheVariants.{Separate}
use Rattle.text.specs.Content.{separates}
use Rattle.scribe.proofs.PutLaws.{Left, all_left, room_first, less_left, none_left}
use Rattle.scribe.proofs.TableLaws.{separates_pair, separates_none}
use Rattle.scribe.proofs.Page.put_separated.Goals as goal
use Rattle.scribe.proofs.Page.put_separated.Goals.{In-Some}

pub loop-pair-init : goal.loop-pair-init
loop-pair-init c =
    rw c.into_iter-pair-iterator.ensures.into_iter_gives
    (record { same_text = refl; pairs = c.chunks_exact-pair-items.ensures.size; left = rw c.chunks_exact-pair-items.ensures.rest (all_left c.requires) })

-- the pair's line is the first of those that are left
pair_left : (c : In-Some) →
    Left (separates c.args.pairs.now)
    ((Separate (get_or c.in-Some.pair.now 0 0) (get_or c.in-Some.pair.now 1 0) ∷ []) ++ separates (chunks_exact_rest c.next.new.self))
    c.args.self.now c.loop-pair.self
pair_left c =
    let step = c.in-Some.ensures.steps.1 in
    rw (step.0, separates_pair c.in-Some.pair.now (chunks_exact_rest c.next.new.self) (step.1 ∙ c.loop-pair.invariant.pairs)) at c.loop-pair.invariant.left

pub put_frame-requires : goal.put_frame-requires
put_frame-requires c = room_first _ _ (pair_left (goal.at.put_frame-requires c).In-Some)

pub loop-pair-preserved : goal.loop-pair-preserved
loop-pair-preserved c =
    record {
      same_text = c.put_frame.ensures.same_text ∙ c.loop-pair.invariant.same_text;
      pairs = c.in-Some.ensures.steps.0 ∙ c.loop-pair.invariant.pairs;
      left = less_left (pair_left (goal.at.loop-pair-preserved c).In-Some) c.put_frame.ensures.lines;
    }

pub returns-clause-lines : goal.returns-clause-lines
returns-clause-lines c =
    let end = c.in-None.ensures.steps.1.0 in
    none_left (rw (separates_none (chunks_exact_rest c.loop-pair.pair-iterator) (omega (arith, end, c.loop-pair.invariant.pairs))) at c.loop-pair.invariant.left)
