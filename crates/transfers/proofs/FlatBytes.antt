-- The flat bytes of transfer records: three each, and read back they are the records.
use Prim.Native.Nat.{ℕ, zero, suc, ◌+◌, ◌*◌, ◌/◌, ◌%◌, ◌≤◌, ◌<◌}
use native.Mathlib.Omega.{arith}
use mathlib.Core.Path.{◌≡◌, refl, ap}
use mathlib.Core.List.{List, [], ◌∷◌}
use mathlib.Core.Bool.{false}
use lib.ListN.{length, get_or}
use borrow.Author.Tests.{ltb-false}
use Rattle.answers.specs.Sizes.{most_transfers, most_transfer_bytes}
use Rattle.answers.specs.Rows.{exceeds}
use Rattle.transfers.specs.declared.Transfer.{Transfer}
use Rattle.transfers.specs.Transfers.{transfer, flat_transfers, flat_bytes}

-- "Transfers come as flat bytes, three each": read from the flat bytes of records, they are these records
pub flat_and_back : (ts : List Transfer) → flat_transfers (flat_bytes ts) ≡ ts
unfolding flat_bytes flat_transfers
flat_and_back [] = refl
flat_and_back (t ∷ ts) = ap (λ us. t ∷ us) (flat_and_back ts)

pub flat_length : (ts : List Transfer) → length (flat_bytes ts) ≡ 3 * length ts
unfolding flat_bytes
flat_length [] = refl
flat_length (t ∷ ts) = omega (arith, flat_length ts)

-- every flat list of whole threes is one of these
pub back_and_flat : (bytes : List ℕ) → length bytes % 3 ≡ 0 → flat_bytes (flat_transfers bytes) ≡ bytes
unfolding flat_bytes flat_transfers
back_and_flat [] e = refl
back_and_flat (s ∷ []) e = absurd (omega arith)
back_and_flat (s ∷ o ∷ []) e = absurd (omega arith)
back_and_flat (s ∷ o ∷ m ∷ bytes) e = ap (λ rest. s ∷ o ∷ m ∷ rest) (back_and_flat bytes (omega arith))

pub transfers_length : (bytes : List ℕ) → length (flat_transfers bytes) ≡ length bytes / 3
unfolding flat_transfers
transfers_length [] = refl
transfers_length (s ∷ []) = refl
transfers_length (s ∷ o ∷ []) = refl
transfers_length (s ∷ o ∷ m ∷ bytes) = omega (arith, transfers_length bytes)

-- bytes that are not over their size are few transfers
pub few_transfers : (bytes : List ℕ) → exceeds (length bytes) most_transfer_bytes ≡ false → length (flat_transfers bytes) ≤ most_transfers
few_transfers bytes e = omega (arith, transfers_length bytes, ltb-false most_transfer_bytes (length bytes) e)

-- each is read from three bytes, whatever stands past the end
pub transfers_at : (bytes : List ℕ) (k : ℕ) (d : Transfer) → k * 3 + 2 < length bytes →
    get_or (flat_transfers bytes) k d ≡ transfer (get_or bytes (k * 3) 0) (get_or bytes (k * 3 + 1) 0) (get_or bytes (k * 3 + 2) 0)
unfolding flat_transfers
transfers_at [] k d h = absurd (omega arith)
transfers_at (s ∷ []) k d h = absurd (omega arith)
transfers_at (s ∷ o ∷ []) k d h = absurd (omega arith)
transfers_at (s ∷ o ∷ m ∷ bytes) zero d h = refl
transfers_at (s ∷ o ∷ m ∷ bytes) (suc k) d h =
    let first : suc k * 3 ≡ suc (suc (suc (k * 3))) = omega arith in
    let second : suc k * 3 + 1 ≡ suc (suc (suc (k * 3 + 1))) = omega arith in
    let third : suc k * 3 + 2 ≡ suc (suc (suc (k * 3 + 2))) = omega arith in
    rw (third, second, first) (transfers_at bytes k d (omega arith))

-- fields that are bytes make flat bytes
pub record Bytes (t : Transfer) : Type 0 where
  pub of_subject : t.subject < 256
  pub of_object : t.object < 256
  pub of_mode : t.mode < 256

pub flat_bytes_lem : {t : Transfer} (ts : List Transfer) → Bytes t → ((k : ℕ) → get_or (flat_bytes ts) k 0 < 256) →
    (k : ℕ) → get_or (flat_bytes (t ∷ ts)) k 0 < 256
unfolding flat_bytes
flat_bytes_lem ts b rest zero = b.of_subject
flat_bytes_lem ts b rest (suc zero) = b.of_object
flat_bytes_lem ts b rest (suc (suc zero)) = b.of_mode
flat_bytes_lem ts b rest (suc (suc (suc k))) = rest k
