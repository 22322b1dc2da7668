-- The tables of a sheet: as they are lent, and as what they say.
use Rattle.std.specs.Prelude.{◌≡◌, ◌⊎◌, List, [], ℕ, ◌+◌, ◌*◌, ◌≤◌, ◌<◌, length, get_or, take}
use Rattle.tables.specs.declared.Counts.{Counts}
use Rattle.tables.specs.declared.LentSheet.{LentSheet}
use Rattle.answers.specs.Rows.{at, SameUsed}
use Rattle.answers.specs.Sizes.{most_subjects, most_objects, most_roles, most_separations}

-- "01 S O R"
abbrev pub counts : ℕ → ℕ → ℕ → Counts
counts s o r = record { subjects = s; objects = o; roles = r }

-- "Entities are numbered from 0: subjects first, then objects": N = S + O
abbrev pub entities : Counts → ℕ
entities c = c.subjects + c.objects

-- "subjects S | 48", "objects O | 64", "roles R | 48"
pub record CountsFit (c : Counts) : Type 0 where
  pub subjects : c.subjects ≤ most_subjects
  pub objects : c.objects ≤ most_objects
  pub roles : c.roles ≤ most_roles

-- "so object o is entity S + o"
abbrev pub object_entity : Counts → ℕ → ℕ
object_entity c o = c.subjects + o

-- the counts, and the tables as a caller lends them
pub record Lent : Type 0 where
  pub counts : Counts
  pub assignment : List ℕ
  pub permission : List ℕ

-- what is lent to a call on tables
abbrev pub lent : Counts → List ℕ → List ℕ → Lent
lent c assignment permission = record { counts = c; assignment = assignment; permission = permission }

-- what a caller lends
abbrev pub lent_by : LentSheet → Lent
lent_by t = lent t.counts t.assignment.now t.permission.now

-- "Bytes past the used part are neither judged nor altered": what two callers lend, if it differs past the used parts at most
pub record SameTables (l l' : Lent) : Type 0 where
  pub same_counts : l.counts ≡ l'.counts
  pub assignment : SameUsed (l.counts.subjects * l.counts.roles) l.assignment l'.assignment
  pub permission : SameUsed (l.counts.roles * l.counts.objects) l.permission l'.permission

-- "Tables in memory": what a sheet says, with no byte past what its counts use
pub record Sheet : Type 0 where
  pub counts : Counts
  -- "assignment, S x R bytes, 0 or 1, at s x R + r"
  pub assignment : List ℕ
  -- "permission, R x O bytes, 0 to 3, at r x O + o (1 read, 2 write, 3 both)"
  pub permission : List ℕ
  -- "separations, two entity numbers each"
  pub separations : List ℕ

-- a sheet of these tables
abbrev pub sheet : Counts → (assignment permission separations : List ℕ) → Sheet
sheet c assignment permission separations =
    record { counts = c; assignment = assignment; permission = permission; separations = separations }

-- the sheet in lent tables, with a count of separations in a buffer of them: the used parts
unfoldable pub sheet_of : Lent → ℕ → List ℕ → Sheet
sheet_of l count separations =
    sheet l.counts
    (take (l.counts.subjects * l.counts.roles) l.assignment)
    (take (l.counts.roles * l.counts.objects) l.permission)
    (take (2 * count) separations)

-- the sheet of a call that takes no separations
abbrev pub sheet_in : Lent → Sheet
sheet_in l = sheet_of l 0 []

-- the byte that says whether subject s has role r
abbrev pub assigned_byte : Sheet → ℕ → ℕ → ℕ
assigned_byte t s r = at t.assignment t.counts.roles s r

-- the byte that says what role r has on object o
abbrev pub mode_byte : Sheet → ℕ → ℕ → ℕ
mode_byte t r o = at t.permission t.counts.objects r o

-- "separations, two entity numbers each": "data of entity x must not reach entity y", x of separation i
abbrev pub from : List ℕ → ℕ → ℕ
from separations i = get_or separations (2 * i) 0

-- and its y
abbrev pub to : List ℕ → ℕ → ℕ
to separations i = get_or separations (2 * i + 1) 0

-- "Lines ascend strictly: .. by the two bytes after it": the pair a, b stands before the pair c, d
abbrev pub PairBefore : ℕ → ℕ → ℕ → ℕ → Type 0
PairBefore a b c d = (a < c) ⊎ ((a ≡ c) × (b < d))

-- for bytes, the number that ascends so
abbrev pub pair_key : ℕ → ℕ → ℕ
pair_key a b = a * 256 + b

-- the same of separation i
abbrev pub separation_key : List ℕ → ℕ → ℕ
separation_key separations i = pair_key (from separations i) (to separations i)

-- Tables that are accepted: each count within its size, each byte within its range, separations between entities and
-- strictly ascending.
pub record Sound (t : Sheet) : Type 0 where
  pub counts_fit : CountsFit t.counts
  pub assignment_size : length t.assignment ≡ t.counts.subjects * t.counts.roles
  pub assignment_bytes : (k : ℕ) → k < length t.assignment → get_or t.assignment k 0 ≤ 1
  pub permission_size : length t.permission ≡ t.counts.roles * t.counts.objects
  pub permission_bytes : (k : ℕ) → k < length t.permission → get_or t.permission k 0 ≤ 3
  pub count : ℕ
  pub separations_size : length t.separations ≡ 2 * count
  pub separations_fit : count ≤ most_separations
  pub separations_below : (i : ℕ) → i < count → (from t.separations i < entities t.counts) × (to t.separations i < entities t.counts)
  pub separations_ascend : (i : ℕ) → i + 1 < count → separation_key t.separations i < separation_key t.separations (i + 1)
