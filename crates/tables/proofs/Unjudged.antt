-- "Bytes past the used part are neither judged nor altered": what the calls share of their refusals is the same for lent tables that differ
-- past the used parts at most.
use Prim.Native.Nat.{ℕ, ◌+◌, ◌*◌, ◌-◌, ◌<◌}
use native.Mathlib.Omega.{arith}
use mathlib.Core.Path.{◌≡◌}
use mathlib.Core.Bool.{Bool}
use mathlib.Core.List.{List}
use lib.Dec.{eqb}
use Rattle.answers.specs.Rows.{SameUsed, at}
use Rattle.answers.proofs.Products.{place_below}
use Rattle.answers.proofs.Unjudged.{any_below_same, each_below_same, shorter_same, some_above_same}
use Rattle.tables.specs.Sheet.{Lent, SameTables, from, to}
use Rattle.tables.specs.Refusals.{size_refusals, used_refusals, sheet_refusals, pair_refusals, separation_refusals}
use Rattle.tables.specs.FlowTable.{byte_refusals, flow_size_refusals, flow_refusals}

pub sheet_unjudged : (short long : Bool) (l l' : Lent) → SameTables l l' → sheet_refusals short long l ≡ sheet_refusals short long l'
unfolding size_refusals used_refusals sheet_refusals
sheet_unjudged short long l l' same =
    rw (
      shorter_same same.assignment _,
      shorter_same same.permission _,
      some_above_same same.assignment 1,
      some_above_same same.permission 3,
      same.same_counts,
    )

one_pair : (n : ℕ) (separations separations' : List ℕ) (i : ℕ) → from separations i ≡ from separations' i → to separations i ≡ to separations' i →
    from separations (i - 1) ≡ from separations' (i - 1) → to separations (i - 1) ≡ to separations' (i - 1) → pair_refusals n separations i ≡ pair_refusals n separations' i
unfolding pair_refusals
one_pair n separations separations' i a b c d = rw (a, b, c, d)

pub separations_unjudged : (n count : ℕ) (separations separations' : List ℕ) → SameUsed (2 * count) separations separations' →
    separation_refusals n count separations ≡ separation_refusals n count separations'
unfolding separation_refusals
separations_unjudged n count separations separations' same = rw (each_below_same count _ _ pair)
  where
    first : (i : ℕ) → i < count → from separations i ≡ from separations' i
    first i h = same.same_bytes (2 * i) (omega arith)

    second : (i : ℕ) → i < count → to separations i ≡ to separations' i
    second i h = same.same_bytes (2 * i + 1) (omega arith)

    pair : (i : ℕ) → i < count → pair_refusals n separations i ≡ pair_refusals n separations' i
    pair i h = one_pair n separations separations' i (first i h) (second i h) (first (i - 1) (omega arith)) (second (i - 1) (omega arith))

pub bytes_unjudged : (n : ℕ) (table table' : List ℕ) → SameUsed (n * n) table table' → byte_refusals n table ≡ byte_refusals n table'
unfolding byte_refusals
bytes_unjudged n table table' same =
    let diagonal : (x : ℕ) → x < n → eqb (at table n x x) 0 ≡ eqb (at table' n x x) 0 =
    λ x h. rw (same.same_bytes (x * n + x) (place_below x x n n (n * n) h h (omega arith))) in
    rw (some_above_same same 1, any_below_same n _ _ diagonal)

pub flow_unjudged : (short : Bool) (n : ℕ) (table table' : List ℕ) → SameUsed (n * n) table table' → flow_refusals short n table ≡ flow_refusals short n table'
unfolding flow_size_refusals flow_refusals
flow_unjudged short n table table' same = rw (shorter_same same _, bytes_unjudged n table table' same)
