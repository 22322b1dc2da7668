-- `scribe::Page::put_table` meets its contract: the lines of the bytes from place i on are left to write.
use mathlib.Core.Path.{refl, ◌∙◌}
use Rattle.scribe.proofs.PutLaws.{all_left}
use Rattle.scribe.proofs.TableLaws.{cell_room, cell_put, cell_none, table_put}
use Rattle.scribe.proofs.Page.put_table.Goals as goal
use Rattle.scribe.proofs.Page.put_table.Goals.{then-is_present, else-is_present}

pub loop-i-init : goal.loop-i-init
loop-i-init g c = record { same_text = refl; left = λ frame f. all_left f.room }

pub put_frame-requires : goal.put_frame-requires
put_frame-requires g c =
    let (frame, f) = c.requires.frames in
    rw (f.made _ _ _ c.frame_of.ensures) (cell_room frame _ _ (c.loop-i.invariant.left frame f) c.loop-i-test.true c.if-is_present.true)

pub loop-i-preserved : goal.loop-i-preserved
loop-i-preserved g c =
    let before = c.loop-i.invariant in
    elim c.if-is_present.branch [
      | then-is_present w ↦ rw w.self-is
          (record {
            same_text = w.put_frame.ensures.same_text ∙ before.same_text;
            left = λ frame f. cell_put frame _ _ (before.left frame f) c.loop-i-test.true w.if-is_present.true (rw (f.made _ _ _ w.frame_of.ensures) at w.put_frame.ensures.lines);
          })
      | else-is_present w ↦ rw w.self-is
          (record { same_text = before.same_text; left = λ frame f. cell_none frame _ _ (before.left frame f) c.loop-i-test.true w.if-is_present.false })
    ]

pub returns-clause-lines : goal.returns-clause-lines
returns-clause-lines g c frame f = table_put frame _ _ (c.loop-i.invariant.left frame f) c.loop-i-test.false
