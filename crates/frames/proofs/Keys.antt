-- `key` ascends by the first byte of the frame, then by the two bytes after it.
use Prim.Native.Nat.{◌+◌, ◌*◌, ◌<◌}
use mathlib.Core.Path.{◌≡◌, refl}
use mathlib.Core.Logic.{◌↔◌, inl, inr}
use native.Mathlib.Decide.{dec_lt}
use native.Mathlib.Omega.{arith}
use Rattle.tables.specs.Sheet.{pair_key}
use Rattle.tables.proofs.Keys.{key_before, before_key}
use Rattle.digits.proofs.Digits.{Bytes}
use Rattle.frames.specs.declared.Frame.{Frame}
use Rattle.frames.specs.declared.Frame.TheVariants.{Header, Assign, Permit, Separate, End}
use Rattle.frames.specs.Frame.{frame_bytes, key, byte_of, LineBefore}

pub key_bytes : (f : Frame) → key f ≡ byte_of f 0 * 65536 + pair_key (byte_of f 1) (byte_of f 2)
unfolding key frame_bytes
key_bytes (Header s o r) = refl
key_bytes (Assign s r) = refl
key_bytes (Permit r o m) = refl
key_bytes (Separate x y) = refl
key_bytes (End h l) = refl

two_bytes : (f : Frame) → Bytes (frame_bytes f) → (byte_of f 1 < 256) × (byte_of f 2 < 256)
unfolding frame_bytes Bytes
two_bytes (Header s o r) h = (h.1.0, h.1.1.0)
two_bytes (Assign s r) h = (h.1.0, h.1.1.0)
two_bytes (Permit r o m) h = (h.1.0, h.1.1.0)
two_bytes (Separate x y) h = (h.1.0, h.1.1.0)
two_bytes (End v l) h = (h.1.0, h.1.1.0)

-- "by first byte, then by the two bytes after it (the mode takes no part)": of frames whose numbers are bytes, `key` ascends exactly so
pub key_order : (f g : Frame) → Bytes (frame_bytes f) → Bytes (frame_bytes g) → key f < key g ↔ LineBefore f g
key_order f g hf hg = (λ h. ascends h (dec_lt (byte_of f 0) (byte_of g 0)), below)
  where
    a : (byte_of f 1 < 256) × (byte_of f 2 < 256)
    a = two_bytes f hf

    b : (byte_of g 1 < 256) × (byte_of g 2 < 256)
    b = two_bytes g hg

    ascends : key f < key g → Dec (byte_of f 0 < byte_of g 0) → LineBefore f g
    ascends h (yes l) = inl l
    ascends h (no l) =
        inr (omega (arith, key_bytes f, key_bytes g, a, b), key_before _ _ _ _ a.1 b.1 (omega (arith, key_bytes f, key_bytes g, a, b)))

    below : LineBefore f g → key f < key g
    below (inl h) = omega (arith, key_bytes f, key_bytes g, a)
    below (inr h) = omega (arith, key_bytes f, key_bytes g, before_key _ _ _ _ a.1 b.1 h.1)

-- by the first byte, by the second, and by the third, but not by the mode
record Ascends : Type 0 where
  by_first : LineBefore (Assign 9 9) (Permit 0 0 1)
  by_second : LineBefore (Separate 0 4) (Separate 4 2)
  by_third : LineBefore (Separate 4 1) (Separate 4 2)
  not_by_mode : LineBefore (Permit 0 0 1) (Permit 0 0 2) → ⊥

ascends : Ascends
unfolding Bytes frame_bytes key
ascends =
    record {
      by_first = (key_order (Assign 9 9) (Permit 0 0 1) (omega arith) (omega arith)).0 (omega arith);
      by_second = (key_order (Separate 0 4) (Separate 4 2) (omega arith) (omega arith)).0 (omega arith);
      by_third = (key_order (Separate 4 1) (Separate 4 2) (omega arith) (omega arith)).0 (omega arith);
      not_by_mode = λ h. let same = (key_order (Permit 0 0 1) (Permit 0 0 2) (omega arith) (omega arith)).1 h in omega arith;
    }
