-- `scribe::Page::put_table` meets its contract: the lines of the bytes from place i on are left to write.
use Prim.Native.Nat.{ℕ}
use mathlib.Core.Path.{◌≡◌}
use lib.ListN.{drop}
use Rattle.frames.specs.declared.Frame.{Frame}
use Rattle.text.specs.Content.{present}
use Rattle.scribe.specs.Put.{Frames}
use Rattle.scribe.proofs.PutLaws.{Left}
use Rattle.scribe.proofs.Page.put_table.Given as goal

abbrev pub invariant-loop-i : goal.invariant-loop-i
invariant-loop-i g l =
    record {
      same_text : l.self.text.ghost_name ≡ l.initial.self.text.ghost_name;
      left : (frame : ℕ → ℕ → Frame) → Frames (λ row place byte. goal.F-post g l.frame_of row place byte) l.width l.used l.initial.self frame →
          Left (present frame 0 l.used) (present frame l.i (drop l.i l.used)) l.initial.self l.self;
    }
