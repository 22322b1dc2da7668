-- The lists of roles by which the channel table is filled. No promise: it only ties functions together.
use Rattle.std.specs.Prelude.{ℕ, zero, suc, ◌≤◌, ◌<◌, ◌≡◌, Bool, cond, eqb, List, [], ◌∷◌, ◌++◌, length, get_or, take}
use Rattle.answers.specs.Sizes.{most_roles, least_flow}
use Rattle.answers.specs.Rows.{at}
use Rattle.tables.specs.Sheet.{Lent}
use Rattle.tables.specs.Refusals.{Sized}
use Rattle.channels.specs.declared.roles.RoleList.{RoleList}

-- the numbers below n that pass the test, ascending
unfoldable pub passing : (ℕ → Bool) → ℕ → List ℕ
passing test zero = []
passing test (suc n) = passing test n ++ cond (test n) (n ∷ []) []

-- the roles below n that subject s has
abbrev pub roles_below : Lent → ℕ → ℕ → List ℕ
roles_below l s n = passing (λ r. eqb (at l.assignment l.counts.roles s r) 1) n

-- what a list has
abbrev pub on_list : RoleList → List ℕ
on_list list = take list.count list.places

-- a list of none
abbrev pub empty : RoleList
empty = record { places = []; count = 0 }

-- a list has the roles of subject s
abbrev pub RolesOf : Lent → ℕ → RoleList → Type 0
RolesOf l s list = (list.count ≤ most_roles) × (on_list list ≡ roles_below l s l.counts.roles)

-- each subject has its list
abbrev pub Lists : Lent → List RoleList → Type 0
Lists l lists = (s : ℕ) → s < l.counts.subjects → RolesOf l s (get_or lists s empty)

-- tables whose channels can be filled in
pub record Fillable (l : Lent) (channels : List ℕ) : Type 0 where
  pub sized : Sized l
  pub room : least_flow ≤ length channels
