-- A part of a caller's own slice of bytes: its bytes, and the place where it lies.
use Rattle.std.specs.Prelude.{◌≡◌, List, ℕ, ◌+◌, ◌-◌, take, drop}
use Rattle.std.specs.Borrow.{Bor}

-- "hands back that line as a part of the caller's own text", "handed back from either the before table or the after table": r is
-- the part of s from a up to e, at its own place in the caller's memory, and no copy of it
pub record Part (s : Bor (List ℕ)) (a e : ℕ) (r : Bor (List ℕ)) : Type 0 where
  pub bytes : r.now ≡ take (e - a) (drop a s.now)
  pub block : r.ref_ptr.0 ≡ s.ref_ptr.0
  pub place : r.ref_ptr.1 ≡ a + s.ref_ptr.1

-- "no second answer": two parts have the same bytes at the same place. What is left open is a ghost name, which no code can see.
pub record SamePart (r r' : Bor (List ℕ)) : Type 0 where
  pub bytes : r.now ≡ r'.now
  pub block : r.ref_ptr.0 ≡ r'.ref_ptr.0
  pub place : r.ref_ptr.1 ≡ r'.ref_ptr.1
