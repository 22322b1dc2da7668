-- The transfers of a chain: each comes to the move along its channel, where channels join subjects and objects only.
use Prim.Native.Nat.{ℕ, zero, suc, ◌+◌, ◌-◌, ◌≤◌, ◌<◌}
use native.Mathlib.Omega.{arith}
use mathlib.Core.Path.{◌≡◌, refl, ap, subst, ◌∙◌}
use mathlib.Core.Logic.{inl, inr}
use mathlib.Core.List.{List, ◌∷◌}
use lib.ListN.{length, get_or, replicate}
use borrow.Author.Tests.{lt-ltb, le-ltb}
use Rattle.tables.specs.declared.Counts.{Counts}
use Rattle.answers.specs.Rows.{count}
use Rattle.tables.specs.Sheet.{entities}
use Rattle.theory.specs.Chain.{Chain, alone, link}
use Rattle.theory.proofs.Chains.{chain_long}
use Rattle.transfers.specs.declared.Transfer.{Transfer}
use Rattle.transfers.specs.Acts.{verdict_byte, verdict_bytes, AllCome, none, next}
use Rattle.transfers.specs.Transfers.{transfer, Way, to_subject, to_object, Comes, moves, flat_bytes}
use Rattle.transfers.specs.Demand3.{transfer_of, chain_transfers, chain_moves}
use Rattle.transfers.proofs.FlatBytes.{Bytes, flat_bytes_lem}
use Rattle.transfers.proofs.Labels.{chain_moves_lem}
use Rattle.access.specs.Channel.{TwoSided}

-- the transfer from a to b goes that way
transfer_way : {c : Counts} {a b : ℕ} → TwoSided c a b → Way c (transfer_of c a b) a b
unfolding transfer_of
transfer_way {c} {a} {b} (inl (subject, low, high)) =
    let back : c.subjects + (b - c.subjects) ≡ b = omega arith in
    let t = transfer a (b - c.subjects) 2 in
    rw (lt-ltb a c.subjects subject) (subst (Way c t a) back (to_object subject (omega arith) refl))
transfer_way {c} {a} {b} (inr (subject, low, high)) =
    let back : c.subjects + (a - c.subjects) ≡ a = omega arith in
    let t = transfer b (a - c.subjects) 1 in
    rw (le-ltb a c.subjects low) (subst (λ z. Way c t z b) back (to_subject subject (omega arith) refl))

way_bytes : {c : Counts} {t : Transfer} {a b : ℕ} → Way c t a b → entities c ≤ 256 → Bytes t
way_bytes (to_subject s o m) few = record { of_subject = omega arith; of_object = omega arith; of_mode = omega arith }
way_bytes (to_object s o m) few = record { of_subject = omega arith; of_object = omega arith; of_mode = omega arith }

module _ {ch : ℕ → ℕ → Type 0} {y : ℕ} (c : Counts) where
  -- the transfer to a chain's first entity stands before the chain's transfers
  chain_transfers_lem : {z : ℕ} {l : List ℕ} (x : ℕ) → Chain ch z y l → chain_transfers c (x ∷ l) ≡ transfer_of c x z ∷ chain_transfers c l
  unfolding chain_transfers
  chain_transfers_lem x alone = refl
  chain_transfers_lem x (link h t) = refl

  -- one fewer than the entities
  pub chain_transfers_length : {x : ℕ} {l : List ℕ} → Chain ch x y l → length (chain_transfers c l) ≡ length l - 1
  unfolding chain_transfers
  chain_transfers_length alone = refl
  chain_transfers_length {x} (link h t) = rw (chain_transfers_lem x t) (omega (arith, chain_transfers_length t, chain_long t))

  -- each comes to the move along its channel
  pub chain_comes : {x : ℕ} {l : List ℕ} → ((a b : ℕ) → ch a b → TwoSided c a b) → Chain ch x y l →
      AllCome (Comes c ch) (chain_transfers c l) (chain_moves l)
  unfolding chain_transfers chain_moves
  chain_comes sides alone = none
  chain_comes {x} sides (link {z = z} h t) =
      rw (chain_transfers_lem x t, chain_moves_lem x t) (next (moves (transfer_way (sides x z h)) h) (chain_comes sides t))

  -- its flat bytes are bytes, on a sheet of at most 256 entities
  pub chain_bytes : {x : ℕ} {l : List ℕ} → ((a b : ℕ) → ch a b → TwoSided c a b) → entities c ≤ 256 → Chain ch x y l →
      (k : ℕ) → get_or (flat_bytes (chain_transfers c l)) k 0 < 256
  unfolding chain_transfers flat_bytes
  chain_bytes sides few alone k = omega arith
  chain_bytes {x} sides few (link {z = z} {l = l} h t) k =
      let first = way_bytes (transfer_way (sides x z h)) few in
      rw (chain_transfers_lem x t) (flat_bytes_lem (chain_transfers c l) first (λ j. chain_bytes sides few t j) k)

count_zeros : (n : ℕ) → count 0 (replicate n 0) ≡ n
unfolding count
count_zeros zero = refl
count_zeros (suc n) = omega (arith, count_zeros n)

module _ {ch : ℕ → ℕ → Type 0} {y : ℕ} where
  -- every verdict byte is 0
  pub chain_verdicts : {x : ℕ} {l : List ℕ} → Chain ch x y l → verdict_bytes (chain_moves l) ≡ replicate (length l - 1) 0
  unfolding chain_moves verdict_bytes verdict_byte
  chain_verdicts alone = refl
  chain_verdicts {x} (link {l = l} h t) =
      let longer : suc (length l) - 1 ≡ suc (length l - 1) = omega (arith, chain_long t) in
      rw (chain_moves_lem x t, longer, chain_verdicts t)

  -- so all of them are applied
  pub chain_applied : {x : ℕ} {l : List ℕ} → Chain ch x y l → count 0 (verdict_bytes (chain_moves l)) ≡ length l - 1
  chain_applied {l = l} t = ap (count 0) (chain_verdicts t) ∙ count_zeros (length l - 1)
