-- `scribe::Page::put_separated` meets its contract: the lines of the pairs to come are left to write.
use mathlib.Core.Path.{◌≡◌}
use Rattle.std.specs.Slice.Iter.{chunks_exact_rest, chunks_exact_size}
use Rattle.text.specs.Content.{separates}
use Rattle.scribe.proofs.PutLaws.{Left}
use Rattle.scribe.proofs.Page.put_separated.Given as goal

abbrev pub invariant-loop-pair : goal.invariant-loop-pair
invariant-loop-pair l =
    record {
      same_text : l.self.text.ghost_name ≡ l.initial.self.text.ghost_name;
      pairs : chunks_exact_size l.pair-iterator ≡ 2;
      left : Left (separates l.pairs) (separates (chunks_exact_rest l.pair-iterator)) l.initial.self l.self;
    }
