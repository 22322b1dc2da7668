-- The content of a sheet: what its frames say, and the frames that say it.
use Rattle.std.specs.Prelude.{ℕ, zero, suc, ◌+◌, ◌*◌, ◌/◌, ◌%◌, List, [], ◌∷◌, ◌++◌, length, set, replicate}
use Rattle.tables.specs.declared.Counts.{Counts}
use Rattle.tables.specs.Sheet.{Sheet, sheet, counts}
use Rattle.frames.specs.declared.Frame.{Frame}
use Rattle.frames.specs.declared.Frame.TheVariants.{Header, Assign, Permit, Separate, End}
use Rattle.frames.specs.Frame.{text_of}

-- "Absent pairs mean 0"
unfoldable pub blank : Counts → Sheet
blank c = sheet c (replicate (c.subjects * c.roles) 0) (replicate (c.roles * c.objects) 0) []

-- what one line says, added to what the lines before it said
unfoldable pub add : Sheet → Frame → Sheet
add t (Header s o r) = blank (counts s o r)
add t (Assign s r) = sheet t.counts (set t.assignment (s * t.counts.roles + r) 1) t.permission t.separations
add t (Permit r o m) = sheet t.counts t.assignment (set t.permission (r * t.counts.objects + o) m) t.separations
add t (Separate x y) = sheet t.counts t.assignment t.permission (t.separations ++ (x ∷ y ∷ []))
add t (End h l) = t

-- what all of them say
unfoldable pub add_all : Sheet → List Frame → Sheet
add_all t [] = t
add_all t (f ∷ fs) = add_all (add t f) fs

-- what frames say
unfoldable pub content_of : List Frame → Sheet
content_of fs = add_all (blank (counts 0 0 0)) fs

-- ---- "So each content has one text"
-- a frame for each byte that is not 0, in order; i is the place of the first
unfoldable pub present : (ℕ → ℕ → Frame) → ℕ → List ℕ → List Frame
present frame i [] = []
present frame i (zero ∷ t) = present frame (suc i) t
present frame i (suc v ∷ t) = frame i (suc v) ∷ present frame (suc i) t

-- the frame of the byte at place i, "at s x R + r"
unfoldable pub assign_at : ℕ → ℕ → ℕ → Frame
assign_at roles i v = Assign (i / roles) (i % roles)

-- "at r x O + o"
unfoldable pub permit_at : ℕ → ℕ → ℕ → Frame
permit_at objects i v = Permit (i / objects) (i % objects) v

-- "04 x y", a frame for each pair
unfoldable pub separates : List ℕ → List Frame
separates [] = []
separates (x ∷ []) = []
separates (x ∷ y ∷ t) = Separate x y ∷ separates t

-- the lines between the header and the end
unfoldable pub body : Sheet → List Frame
body t =
    present (assign_at t.counts.roles) 0 t.assignment
    ++ (present (permit_at t.counts.objects) 0 t.permission ++ separates t.separations)

-- "01 S O R | header, first line only"
unfoldable pub opened : Sheet → List Frame
opened t = Header t.counts.subjects t.counts.objects t.counts.roles ∷ body t

-- "h x 256 + l lines came before it"
unfoldable pub closing : ℕ → Frame
closing n = End (n / 256) (n % 256)

-- "05 h l | end": all lines of a content
unfoldable pub frames_in : Sheet → List Frame
frames_in t = opened t ++ (closing (length (opened t)) ∷ [])

-- the one text of a content
unfoldable pub write_sheet : Sheet → List ℕ
write_sheet t = text_of (frames_in t)
