-- A sheet with two subjects, two objects and three roles. Subject 0 has role 0, which reads object 0, and role 1, which writes
-- object 1; nobody has role 2, which has both on both. What the definitions say of it.
use Prim.Native.Nat.{ℕ, zero, suc}
use mathlib.Core.Path.{refl}
use mathlib.Core.Logic.{inl, inr}
use mathlib.Core.List.{[], ◌∷◌}
use native.Mathlib.Omega.{arith}
use lib.Dec.{lit<}
use Rattle.tables.specs.Sheet.{Sheet, sheet, counts}
use Rattle.theory.specs.Flow.{Flow, here, step}
use Rattle.access.specs.Channel.{read, write, Assigned, Plain, Grants, reads, writes, Channel}

abbrev pub small : Sheet
small =
    sheet (counts 2 2 3) (1 ∷ 1 ∷ 0 ∷ 0 ∷ 0 ∷ 0 ∷ []) (1 ∷ 0 ∷ 0 ∷ 2 ∷ 3 ∷ 3 ∷ []) []

abbrev pub Granted : ℕ → ℕ → ℕ → ℕ → Type 0
Granted = Grants (counts 2 2 3) (Assigned small) (Plain small)

-- "a subject uses all its roles together": role 0, which only reads, grants a reading
pub by_role_0 : Granted read 0 0 0
by_role_0 = record { role = lit< tt; has_role = refl; holds = inl refl }

pub by_role_1 : Granted write 0 1 1
by_role_1 = record { role = lit< tt; has_role = refl; holds = inl refl }

-- "Channel from object to subject": object 0, entity 2, is read by subject 0
pub reading : Channel small 2 0
reading = reads 0 (lit< tt) refl (lit< tt) (record { by = 0; grants = by_role_0 })

-- "From subject to object: the same with write": subject 0 has role 1, which writes object 1, entity 3
pub writing : Channel small 0 3
writing = writes 1 (lit< tt) (lit< tt) refl (record { by = 1; grants = by_role_1 })

-- "a subject uses all its roles together": data gets from object 0 to object 1 by two roles of subject 0
pub carried : Flow (Channel small) 2 3
carried = step (step here reading) writing

-- "3 both": a mode of 3 has read and write
pub both_modes : Plain small 2 0 read × Plain small 2 0 write
both_modes = (inr refl, inr refl)

pub read_only : Plain small 0 0 write → ⊥
read_only (inl e) = omega arith
read_only (inr e) = omega arith

-- subject 1 has no role, and so none grants it a reading
pub nobody : (r o : ℕ) → Granted read 1 o r → ⊥
nobody zero o g = omega (arith, g.has_role)
nobody (suc zero) o g = omega (arith, g.has_role)
nobody (suc (suc zero)) o g = omega (arith, g.has_role)
nobody (suc (suc (suc r))) o g = omega (arith, g.role)

pub nothing_to_1 : (x : ℕ) → Channel small x 1 → ⊥
nothing_to_1 x (reads o l e h m) = nobody m.by o m.grants
nothing_to_1 x (writes o l h e m) = omega arith
