-- What a rehearsal has that nothing refuses.
use Prim.Native.Nat.{ℕ}
use mathlib.Core.Path.{◌≡◌}
use mathlib.Core.Bool.{Bool}
use borrow.Author.Tests.{ltb-false}
use Rattle.answers.specs.Call.{first_refusal}
use Rattle.tables.specs.Sheet.{Lent}
use Rattle.answers.proofs.Calls.{passed, passed_then}
use Rattle.tables.proofs.Accepted.{sheet_numbered, tables_passed}
use Rattle.answers.proofs.Joined.{neither}
use Rattle.transfers.specs.declared.Tally.{Tally}
use Rattle.transfers.specs.Rehearse.{tally_refusals, rehearsal_short}
use Rattle.runs.specs.Inner.{tested_refusals, Cleared}

-- the tests, one by one
pub cleared : (marks verdicts : ℕ) (long ragged : Bool) (l : Lent) (t : Tally) →
    first_refusal (tested_refusals (rehearsal_short marks verdicts) long ragged l t) ≡ 0 → Cleared long l marks verdicts t
unfolding tested_refusals rehearsal_short tally_refusals
cleared marks verdicts long ragged l t e =
    let p = passed_then _ _ (sheet_numbered _ long l) e in
    let s = tables_passed _ _ l p.0 in
    let lengths = neither _ _ s.not_short in
    let own = passed_then _ (tally_refusals t) tt p.1 in
    let a = passed _ _ _ tt own.1 in
    let o = passed _ _ _ tt a.1 in
    let b = passed _ _ _ tt o.1 in
    record {
      sized = s.sized;
      not_long = s.not_long;
      marked = ltb-false _ _ lengths.0;
      placed = ltb-false _ _ lengths.1;
      applied = ltb-false _ _ a.0;
      outside = ltb-false _ _ o.0;
      barred = ltb-false _ _ b.0;
    }
