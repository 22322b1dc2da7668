-- `scribe::Page::put_frame` meets its contract: one line more.
use mathlib.Core.Path.{refl, ap}
use native.Mathlib.Omega.{arith}
use lib.ListN.{length}
use Rattle.scribe.proofs.PutLaws.{text_one}
use Rattle.scribe.proofs.Page.put_frame.Goals as goal

pub put_line-self-requires : goal.put_line-self-requires
put_line-self-requires c = omega (arith, c.requires.fits, ap length (text_one c.args.frame))

pub returns-clause-lines : goal.returns-clause-lines
returns-clause-lines c =
    record {
      place = rw text_one c.put_line-self.ensures.place;
      count = refl;
      text = rw text_one c.put_line-self.ensures.text;
    }
