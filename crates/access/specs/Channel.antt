-- Channels: what a subject may do with an object, and between which entities data can go in one step. Stated over what a role holds,
-- `held r o m`: role r holds mode m on object o.
use Rattle.std.specs.Prelude.{ℕ, ◌≤◌, ◌<◌, ◌≡◌, ◌⊎◌}
use Rattle.tables.specs.declared.Counts.{Counts}
use Rattle.tables.specs.Sheet.{Sheet, entities, object_entity, assigned_byte, mode_byte}
use Rattle.theory.specs.Flow.{Flow}

-- "(1 read, 2 write, 3 both)": read
abbrev pub read : ℕ
read = 1

-- and write
abbrev pub write : ℕ
write = 2

-- a mode of 3 is both
abbrev pub Has : ℕ → ℕ → Type 0
Has mode wanted = (mode ≡ wanted) ⊎ (mode ≡ 3)

-- "02 s r | subject s has role r"
abbrev pub Assigned : Sheet → ℕ → ℕ → Type 0
Assigned t s r = assigned_byte t s r ≡ 1

-- "03 r o m | role r has mode m (1 to 3) on object o"
abbrev pub Plain : Sheet → ℕ → ℕ → ℕ → Type 0
Plain t r o wanted = Has (mode_byte t r o) wanted

module _ (c : Counts) (assigned : ℕ → ℕ → Type 0) (held : ℕ → ℕ → ℕ → Type 0) where
  -- role r is assigned to subject s and holds the wanted mode on object o
  pub record Grants (wanted s o r : ℕ) : Type 0 where
    pub role : r < c.roles
    pub has_role : assigned s r
    pub holds : held r o wanted

  -- "some role assigned to the subject has read on the object"; "the same with write"
  pub record May (wanted s o : ℕ) : Type 0 where
    pub by : ℕ
    pub grants : Grants wanted s o by

  -- "Channel from object to subject: some role assigned to the subject has read on the object. From subject to object: the same
  -- with write. No other pairs."
  pub data ChannelOf (x y : ℕ) : Type 0 where
    reads : (o : ℕ) → o < c.objects → x ≡ object_entity c o → y < c.subjects → May read y o → ChannelOf x y
    writes : (o : ℕ) → o < c.objects → x < c.subjects → y ≡ object_entity c o → May write x o → ChannelOf x y

-- the channels of a sheet
abbrev pub Channel : Sheet → ℕ → ℕ → Type 0
Channel t = ChannelOf t.counts (Assigned t) (Plain t)

-- "Flow is the reflexive, transitive closure of channel", of a sheet's channels
abbrev pub SheetFlow : Sheet → ℕ → ℕ → Type 0
SheetFlow t = Flow (Channel t)

-- "No other pairs": of two entities one is a subject and one is an object
abbrev pub TwoSided : Counts → ℕ → ℕ → Type 0
TwoSided c x y =
    ((x < c.subjects) × (c.subjects ≤ y) × (y < entities c)) ⊎ ((y < c.subjects) × (c.subjects ≤ x) × (x < entities c))
