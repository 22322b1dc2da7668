-- "A change sets one assignment byte or one permission byte of the lent tables and no other."
use Rattle.std.specs.Prelude.{ℕ, ◌+◌, ◌*◌, ◌≡◌, List, [], ◌∷◌, leb, ltb, set}
use Rattle.tables.specs.declared.Counts.{Counts}
use Rattle.answers.specs.Call.{Refusal, ◌if◌, ◌then◌, Outcome, left}
use Rattle.tables.specs.Sheet.{Lent, Sheet, sheet, entities}
use Rattle.tables.specs.Refusals.{no_other, no_list, sheet_refusals}
use Rattle.access.specs.Channel.{read, write, Has}
use Rattle.flow.specs.Fill.{Fills}
use Rattle.effects.specs.Effects.{Affects}

-- the place of an assignment byte, "at s x R + r"
abbrev pub assignment_place : Counts → ℕ → ℕ → ℕ
assignment_place c s r = s * c.roles + r

-- "at r x O + o"
abbrev pub permission_place : Counts → ℕ → ℕ → ℕ
permission_place c r o = r * c.objects + o

-- ---- a changed sheet: "A change sets one assignment byte"
unfoldable pub with_assignment : Sheet → ℕ → ℕ → ℕ → Sheet
with_assignment t s r value =
    sheet t.counts (set t.assignment (assignment_place t.counts s r) value) t.permission t.separations

-- "or one permission byte"
unfoldable pub with_permission : Sheet → ℕ → ℕ → ℕ → Sheet
with_permission t r o mode =
    sheet t.counts t.assignment (set t.permission (permission_place t.counts r o) mode) t.separations

-- "a change that only adds permission or assignment": the new byte has the assignment of the old
abbrev pub AssignmentAdds : (old new : ℕ) → Type 0
AssignmentAdds old new = old ≡ 1 → new ≡ 1

-- the new byte has every mode of the old
pub record PermissionAdds (old new : ℕ) : Type 0 where
  pub reading : Has old read → Has new read
  pub writing : Has old write → Has new write

-- "one that only takes away"
abbrev pub AssignmentTakes : (old new : ℕ) → Type 0
AssignmentTakes old new = AssignmentAdds new old

-- the same of a mode
abbrev pub PermissionTakes : (old new : ℕ) → Type 0
PermissionTakes old new = PermissionAdds new old

-- ---- the calls
-- "6 | a subject, role, object .. is not below its count, or a mode or value is out of range": of a byte in row i at place j of a table
unfoldable pub range_refusals : (rows columns most i j value : ℕ) → List Refusal
range_refusals rows columns most i j value = (6 if leb rows i) ∷ (6 if leb columns j) ∷ (6 if ltb most value) ∷ []

-- "A single change puts 6 last"
unfoldable pub change_refusals : Lent → (rows columns most i j value : ℕ) → List Refusal
change_refusals l rows columns most i j value = sheet_refusals no_other no_list l then range_refusals rows columns most i j value

-- "assignment, S x R bytes, 0 or 1"
unfoldable pub set_assignment_refusals : Lent → ℕ → ℕ → ℕ → List Refusal
set_assignment_refusals l s r value = change_refusals l l.counts.subjects l.counts.roles 1 s r value

-- "permission, R x O bytes, 0 to 3"; a mode of 0 takes away
unfoldable pub set_permission_refusals : Lent → ℕ → ℕ → ℕ → List Refusal
set_permission_refusals l r o mode = change_refusals l l.counts.roles l.counts.objects 3 r o mode

-- the contract of `set_assignment`: the answer, and the assignment table afterwards
abbrev pub SetsAssignment : Lent → ℕ → ℕ → ℕ → ℕ × List ℕ → Type 0
SetsAssignment l s r value =
    Outcome (set_assignment_refusals l s r value) (left l.assignment)
    (λ result. result ≡ (0, set l.assignment (assignment_place l.counts s r) value))

-- the contract of `set_permission`: the answer, and the permission table afterwards
abbrev pub SetsPermission : Lent → ℕ → ℕ → ℕ → ℕ × List ℕ → Type 0
SetsPermission l r o mode =
    Outcome (set_permission_refusals l r o mode) (left l.permission)
    (λ result. result ≡ (0, set l.permission (permission_place l.counts r o) mode))

-- "Between filled tables": `fill` wrote the table before for l and the one after for l', and `effect` wrote bytes from the two, each
-- with answer 0
pub record Between (l l' : Lent) (before after bytes : List ℕ) : Type 0 where
  pub unfilled : List ℕ
  pub filled : Fills l unfilled (0, before)
  pub unfilled' : List ℕ
  pub filled' : Fills l' unfilled' (0, after)
  pub unwritten : List ℕ
  pub affected : Affects (entities l.counts) before after unwritten (0, bytes)
