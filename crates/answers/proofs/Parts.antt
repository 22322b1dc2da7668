-- A part of a slice is settled by its contract: its bytes, and its place.
use mathlib.Core.Path.{◌≡◌, sym, ◌∙◌}
use mathlib.Core.List.{List}
use Prim.Native.Nat.{ℕ, ◌+◌, ◌-◌, ◌<◌}
use lib.ListN.{get_or, drop}
use lib.Seq.{get_or-take, get_or-drop}
use denote.Ref.{Bor}
use Rattle.answers.specs.Part.{Part, SamePart}

-- "a part of the caller's own text": its byte k is the slice's byte a + k
pub part_byte : {s r : Bor (List ℕ)} {a e : ℕ} → Part s a e r → (k : ℕ) → k < e - a → get_or r.now k 0 ≡ get_or s.now (a + k) 0
part_byte {s} {r} {a} {e} p k h = rw p.bytes (get_or-take (e - a) (drop a s.now) k 0 h ∙ get_or-drop a s.now k 0)

-- "no second answer": two parts with one contract have the same bytes at the same place
pub one_part : {s r r' : Bor (List ℕ)} {a e : ℕ} → Part s a e r → Part s a e r' → SamePart r r'
one_part p q = record { bytes = p.bytes ∙ sym q.bytes; block = p.block ∙ sym q.block; place = p.place ∙ sym q.place }
