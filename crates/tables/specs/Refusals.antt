-- The refusals that every call on tables shares, in the document's order.
use Rattle.std.specs.Prelude.{Bool, false, ◌&&◌, List, [], ◌∷◌, ℕ, ◌+◌, ◌*◌, ◌-◌, ◌≤◌, ◌<◌, ◌≡◌, leb, ltb, length, get_or}
use Rattle.answers.specs.Sizes.{most_subjects, most_objects, most_roles, most_separations, least_assignment, least_permission}
use Rattle.answers.specs.Call.{Refusal, ◌if◌, ◌then◌, each_below}
use Rattle.answers.specs.Rows.{shorter, exceeds, some_above}
use Rattle.tables.specs.Sheet.{CountsFit, Lent, from, to, separation_key}

-- 1 and 5, by lengths and counts. `short` says that another buffer of the call is shorter than its least length, `long` that a
-- transfer list is over its size.
unfoldable pub size_refusals : Bool → Bool → Lent → List Refusal
size_refusals short long l =
    (1 if short)
    ∷ (1 if shorter l.assignment least_assignment)
    ∷ (1 if shorter l.permission least_permission)
    ∷ (5 if exceeds l.counts.subjects most_subjects)
    ∷ (5 if exceeds l.counts.objects most_objects)
    ∷ (5 if exceeds l.counts.roles most_roles)
    ∷ (5 if long)
    ∷ []

-- 11, by the bytes in use
unfoldable pub used_refusals : Lent → List Refusal
used_refusals l =
    (11 if some_above l.assignment (l.counts.subjects * l.counts.roles) 1)
    ∷ (11 if some_above l.permission (l.counts.roles * l.counts.objects) 3)
    ∷ []

-- "Order for every call on tables: 1, 5, 11"
unfoldable pub sheet_refusals : Bool → Bool → Lent → List Refusal
sheet_refusals short long l = size_refusals short long l then used_refusals l

-- what a call says of its other buffers, if it has none
abbrev pub no_other : Bool
no_other = false

-- what a call says of its transfer list, if it takes none
abbrev pub no_list : Bool
no_list = false

-- "the first faulty pair, 6 before 7": separation i among n entities
unfoldable pub pair_refusals : ℕ → List ℕ → ℕ → List Refusal
pair_refusals n separations i =
    (6 if leb n (from separations i))
    ∷ (6 if leb n (to separations i))
    ∷ (7 if (ltb 0 i && leb (separation_key separations i) (separation_key separations (i - 1))))
    ∷ []

-- "then, if it takes separations, 8, and then the first faulty pair"
unfoldable pub separation_refusals : ℕ → ℕ → List ℕ → List Refusal
separation_refusals n count separations =
    ((8 if exceeds count most_separations) ∷ []) then each_below count (pair_refusals n separations)

-- ---- what tables have that passed
-- 1, 5 and 11
pub record Sized (l : Lent) : Type 0 where
  pub counts_fit : CountsFit l.counts
  pub assignment : least_assignment ≤ length l.assignment
  pub permission : least_permission ≤ length l.permission
  pub assigned : (k : ℕ) → k < l.counts.subjects * l.counts.roles → get_or l.assignment k 0 ≤ 1
  pub modes : (k : ℕ) → k < l.counts.roles * l.counts.objects → get_or l.permission k 0 ≤ 3

-- the same of a call, by what it says of its other buffers and of its transfer list
pub record Acceptable (short long : Bool) (l : Lent) : Type 0 where
  pub not_short : short ≡ false
  pub not_long : long ≡ false
  pub sized : Sized l

-- 8, 6 and 7: separations among n entities
pub record Listed (n count : ℕ) (separations : List ℕ) : Type 0 where
  pub few : count ≤ most_separations
  pub below : (i : ℕ) → i < count → (from separations i < n) × (to separations i < n)
  pub ascend : (i : ℕ) → i + 1 < count → separation_key separations i < separation_key separations (i + 1)
