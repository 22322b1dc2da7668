-- The lines of a table, byte by byte, and those of separations, pair by pair.
use Prim.Native.Nat.{ℕ, zero, suc, ◌+◌, ◌≤◌, ◌<◌}
use mathlib.Core.Path.{◌≡◌, refl}
use mathlib.Core.Logic.{◌≢◌}
use mathlib.Core.List.{List, [], ◌∷◌, ◌++◌}
use native.Mathlib.Numerals.{add-one}
use native.Mathlib.Omega.{arith}
use lib.ListN.{length, get_or, take, drop, drop_of_length-le}
use lib.Seq.{drop-cons}
use Rattle.frames.specs.declared.Frame.{Frame}
use Rattle.frames.specs.declared.Frame.TheVariants.{Separate}
use Rattle.text.specs.Content.{present, separates}
use Rattle.scribe.specs.declared.Page.{Page}
use Rattle.scribe.specs.Put.{Puts, Room}
use Rattle.scribe.proofs.PutLaws.{Left, room_first, less_left, none_left}

module _ (frame : ℕ → ℕ → Frame) where
  present_some : (i v : ℕ) (bytes : List ℕ) → v ≢ 0 → present frame i (v ∷ bytes) ≡ frame i v ∷ present frame (suc i) bytes
  unfolding present
  present_some i zero bytes h = absurd (h refl)
  present_some i (suc v) bytes h = refl

  present_none : (i v : ℕ) (bytes : List ℕ) → v ≡ 0 → present frame i (v ∷ bytes) ≡ present frame (suc i) bytes
  unfolding present
  present_none i zero bytes e = refl
  present_none i (suc v) bytes e = absurd (omega arith)

  -- the frames of the bytes from place i on
  abbrev present_from : List ℕ → ℕ → List Frame
  present_from bytes i = present frame i (drop i bytes)

  -- those of the bytes before place i
  abbrev pub present_to : ℕ → List ℕ → List Frame
  present_to i table = present frame 0 (take i table)

  module _ {all : List Frame} {start page : Page} (bytes : List ℕ) (i : ℕ) (l : Left all (present_from bytes i) start page) where
    abbrev byte : ℕ
    byte = get_or bytes i 0

    module _ (h : i < length bytes) where
      module _ (some : byte ≢ 0) where
        first_left : Left all (frame i byte ∷ present_from bytes (i + 1)) start page
        first_left = rw (drop-cons bytes i 0 h, present_some i byte (drop (suc i) bytes) some, ← add-one) at l

        pub cell_room : Room (frame i byte ∷ []) page
        cell_room = room_first (frame i byte ∷ []) _ first_left

        pub cell_put : {next : Page} → Puts (frame i byte ∷ []) page next → Left all (present_from bytes (i + 1)) start next
        cell_put p = less_left first_left p

      pub cell_none : byte ≡ 0 → Left all (present_from bytes (i + 1)) start page
      cell_none none = rw (drop-cons bytes i 0 h, present_none i byte (drop (suc i) bytes) none, ← add-one) at l

    pub table_put : length bytes ≤ i → Puts all start page
    unfolding present
    table_put h = none_left (rw (drop_of_length-le bytes h) at l)

-- ---- separations
pub separates_pair : (pair rest : List ℕ) → length pair ≡ 2 → separates (pair ++ rest) ≡ (Separate (get_or pair 0 0) (get_or pair 1 0) ∷ []) ++ separates rest
unfolding separates
separates_pair [] rest e = absurd (omega arith)
separates_pair (x ∷ []) rest e = absurd (omega arith)
separates_pair (x ∷ y ∷ []) rest e = refl
separates_pair (x ∷ y ∷ z ∷ pair) rest e = absurd (omega arith)

pub separates_none : (rest : List ℕ) → length rest < 2 → separates rest ≡ []
unfolding separates
separates_none [] h = refl
separates_none (x ∷ []) h = refl
separates_none (x ∷ y ∷ rest) h = absurd (omega arith)
