-- Lines written one after another: what was written first and then more is written as one.
use Prim.Native.Nat.{◌+◌, ◌≤◌}
use mathlib.Core.Path.{◌≡◌, ap, refl, sym, ◌∙◌}
use mathlib.Core.List.{List, [], ◌∷◌, ◌++◌, append_assoc, append-nil}
use native.Mathlib.Omega.{arith}
use lib.ListN.{length, length-append}
use lib.Seq.{length-sets}
use Rattle.digits.specs.Digit.{to_digits}
use Rattle.digits.specs.Line.{line_of}
use Rattle.digits.proofs.Puts.{sets_append}
use Rattle.frames.specs.declared.Frame.{Frame}
use Rattle.frames.specs.Frame.{frame_bytes, text_of}
use Rattle.scribe.specs.declared.Page.{Page}
use Rattle.scribe.specs.Put.{Puts, Room}

-- ---- the text of frames
text_append : (fs gs : List Frame) → text_of (fs ++ gs) ≡ text_of fs ++ text_of gs
unfolding text_of
text_append [] gs = refl
text_append (f ∷ fs) gs = rw (text_append fs gs, append_assoc)

text_sizes : (fs gs : List Frame) → length (text_of (fs ++ gs)) ≡ length (text_of fs) + length (text_of gs)
text_sizes fs gs = rw (text_append, length-append)

pub text_one : (f : Frame) → text_of (f ∷ []) ≡ line_of (frame_bytes f)
unfolding text_of
text_one f = append-nil (line_of (frame_bytes f))

-- a line has a byte at least
pub lines_few : (fs : List Frame) → length fs ≤ length (text_of fs)
unfolding text_of line_of
lines_few [] = omega arith
lines_few (f ∷ fs) =
    omega (
      arith,
      length-append (to_digits (frame_bytes f) ++ (10 ∷ [])) (text_of fs),
      length-append (to_digits (frame_bytes f)) (10 ∷ []),
      lines_few fs,
    )

-- ---- what is written, and what is left to write
-- the buffer keeps its length
puts_long : {fs : List Frame} {page next : Page} → Puts fs page next → length next.text.now ≡ length page.text.now
puts_long {fs} {page} p = ap length p.text ∙ length-sets page.text.now page.pen.at (text_of fs)

-- nothing is written
pub puts_none : (page : Page) → Puts [] page page
unfolding text_of
puts_none page = record { place = omega arith; count = omega arith; text = refl }

module _ {fs gs : List Frame} {page next : Page} (p : Puts fs page next) where
  -- what is written then comes behind it
  pub puts_then : {last : Page} → Puts gs next last → Puts (fs ++ gs) page last
  puts_then {last} q =
      record {
        place = omega (arith, p.place, q.place, text_sizes fs gs);
        count = omega (arith, p.count, q.count, length-append fs gs);
        text = q.text ∙ rw (p.text, p.place, text_append) (sym (sets_append page.text.now page.pen.at (text_of fs) (text_of gs)));
      }

  -- there is room for more where there was room for all
  room_then : Room (fs ++ gs) page → Room gs next
  room_then r =
      record {
        fits = omega (arith, r.fits, p.place, text_sizes fs gs, puts_long p);
        few = omega (arith, r.few, p.place, p.count, lines_few fs);
      }

-- of all lines, which are to be written from `start` on, these are left: there is room for them, and with them all are written
pub record Left (all left : List Frame) (start page : Page) : Type 0 where
  pub room : Room left page
  pub count : page.pen.lines + length left ≡ start.pen.lines + length all
  pub whole : (last : Page) → Puts left page last → Puts all start last

pub all_left : {all : List Frame} {start : Page} → Room all start → Left all all start start
all_left r = record { room = r; count = refl; whole = λ last p. p }

module _ {all : List Frame} {start page : Page} where
  pub room_first : (fs gs : List Frame) → Left all (fs ++ gs) start page → Room fs page
  room_first fs gs l = record { fits = omega (arith, l.room.fits, text_sizes fs gs); few = l.room.few }

  pub less_left : {fs gs : List Frame} {next : Page} → Left all (fs ++ gs) start page → Puts fs page next → Left all gs start next
  less_left {fs} {gs} l p =
      record {
        room = room_then p l.room;
        count = omega (arith, l.count, p.count, length-append fs gs);
        whole = λ last q. l.whole last (puts_then p q);
      }

  pub none_left : Left all [] start page → Puts all start page
  unfolding text_of
  none_left l = l.whole page (record { place = omega arith; count = omega arith; text = refl })
