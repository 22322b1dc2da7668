-- What tables have that passed 1 and 5.
use mathlib.Core.Path.{◌≡◌}
use mathlib.Core.Bool.{Bool}
use borrow.Author.Tests.{ltb-false}
use lib.Dec.{T}
use Rattle.answers.specs.Call.{first_refusal}
use Rattle.answers.proofs.Calls.{numbered, passed}
use Rattle.tables.specs.Sheet.{Lent}
use Rattle.tables.specs.Refusals.{size_refusals}
use Rattle.refusals.specs.Inner.{Measured}

module _ (short long : Bool) (l : Lent) where
  pub size_numbered : T (numbered (size_refusals short long l))
  unfolding size_refusals
  size_numbered = tt

  pub measured : first_refusal (size_refusals short long l) ≡ 0 → Measured l
  unfolding size_refusals
  measured none =
      let o = passed _ _ _ tt none in
      let a = passed _ _ _ tt o.1 in
      let p = passed _ _ _ tt a.1 in
      let ns = passed _ _ _ tt p.1 in
      let no' = passed _ _ _ tt ns.1 in
      let nr = passed _ _ _ tt no'.1 in
      record {
        assignment_long = ltb-false _ _ a.0;
        permission_long = ltb-false _ _ p.0;
        counts_fit = record { subjects = ltb-false _ _ ns.0; objects = ltb-false _ _ no'.0; roles = ltb-false _ _ nr.0 };
      }
