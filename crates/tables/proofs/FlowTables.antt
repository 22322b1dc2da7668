-- What a flow table has that passed the refusals of one, and that a sound one passes.
use Prim.Native.Nat.{ℕ, ◌*◌, ◌≤◌}
use mathlib.Core.Path.{◌≡◌, sym, ◌∙◌}
use mathlib.Core.Bool.{Bool, false, false≢true}
use mathlib.Core.List.{List}
use borrow.Author.Tests.{ltb-false, le-ltb, eq-eqb, ne_eqb}
use lib.Dec.{T, eqb}
use lib.ListN.{length}
use Rattle.answers.specs.Call.{first_refusal, ◌then◌}
use Rattle.answers.specs.Rows.{at}
use Rattle.answers.proofs.Below.{none_of, all_fail, none_above, all_within}
use Rattle.answers.proofs.Calls.{numbered, none_left, passed, pass, passed_then, pass_then}
use Rattle.answers.proofs.Products.{product_within}
use Rattle.tables.specs.FlowTable.{byte_refusals, flow_size_refusals, flow_refusals, SizedFlow, SoundFlow}

pub flow_numbered : (short : Bool) (n : ℕ) (table : List ℕ) → T (numbered (flow_refusals short n table))
unfolding flow_refusals flow_size_refusals byte_refusals ◌then◌
flow_numbered short n table = tt

-- ---- what a passed list tells
not_zero : (b : ℕ) → eqb b 0 ≡ false → b ≡ 0 → ⊥
not_zero b f e = false≢true (sym f ∙ eq-eqb b 0 e)

pub bytes_passed : (n : ℕ) (table : List ℕ) → SizedFlow n table → first_refusal (byte_refusals n table) ≡ 0 → SoundFlow n table
unfolding byte_refusals
bytes_passed n table sized e =
    let above = passed _ _ _ tt e in
    let diagonal = passed _ _ _ tt above.1 in
    record {
      sized = sized;
      bits = none_above table _ _ above.0;
      diagonal = λ x h. not_zero _ (none_of _ n diagonal.0 x h);
    }

-- "comes exactly where that document says": where 1, 5 and 12 do not come, the flow table is sound and no other buffer short
pub flow_passed : (short : Bool) (n : ℕ) (table : List ℕ) → first_refusal (flow_refusals short n table) ≡ 0 → (short ≡ false) × SoundFlow n table
unfolding flow_refusals flow_size_refusals
flow_passed short n table e =
    let p = passed_then _ (byte_refusals n table) tt e in
    let other = passed _ _ _ tt p.0 in
    let size = passed _ _ _ tt other.1 in
    let few = passed _ _ _ tt size.1 in
    (other.0, bytes_passed n table (record { few = ltb-false _ _ few.0; room = ltb-false _ _ size.0 }) p.1)

-- ---- a byte of the table
pub square_within : (n : ℕ) (table : List ℕ) → SizedFlow n table → n * n ≤ length table
square_within n table s = product_within n n 112 112 _ s.few s.few s.room

-- a sound flow table passes
module _ (n : ℕ) (table : List ℕ) (a : SoundFlow n table) where
  pub bytes_pass : first_refusal (byte_refusals n table) ≡ 0
  unfolding first_refusal byte_refusals
  bytes_pass = rw (all_within table (n * n) 1 a.bits, all_fail _ n (λ x h. ne_eqb (at table n x x) 0 (a.diagonal x h)))

  -- "comes exactly where that document says": where the flow table is sound and no other buffer short, 1, 5 and 12 do not come
  pub flow_pass : (short : Bool) → short ≡ false → first_refusal (flow_refusals short n table) ≡ 0
  unfolding flow_refusals flow_size_refusals
  flow_pass short s =
      pass_then _ (byte_refusals n table) tt
      (pass 1 _ _ s (pass 1 _ _ (le-ltb _ _ a.sized.room) (pass 5 _ _ (le-ltb _ _ a.sized.few) none_left))) bytes_pass
