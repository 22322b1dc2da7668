-- The laws of a change, of the calls, at a sheet of one subject, one object and one role. There is a channel, from 0 to 1, exactly if the
-- subject has the role and the role writes: their premises can be met, both ways, by either byte.
use Prim.Native.Nat.{ℕ, zero, suc, ◌<◌}
use mathlib.Core.Path.{◌≡◌, refl}
use mathlib.Core.Logic.{◌⊎◌, inl, inr, ⊎_elim, ◌≢◌}
use mathlib.Core.List.{List, [], ◌∷◌}
use native.Mathlib.Omega.{arith}
use lib.Dec.{lit<}
use lib.ListN.{get_or, replicate}
use Rattle.answers.specs.Call.{first_refusal, ◌then◌}
use Rattle.answers.specs.Rows.{at, Mark, one, none, Bytes, over, any_below}
use Rattle.answers.proofs.Calls.{accept}
use Rattle.tables.specs.Sheet.{Lent, lent, counts, sheet_of, sheet_in}
use Rattle.tables.specs.Refusals.{size_refusals, used_refusals, sheet_refusals}
use Rattle.tables.specs.FlowTable.{byte_refusals, flow_size_refusals, flow_refusals}
use Rattle.theory.specs.Flow.{Flow, here, step}
use Rattle.theory.specs.Effect.{Gained, Effect}
use Rattle.theory.proofs.Flows.{flow_closed}
use Rattle.access.specs.Channel.{Has, Assigned, Plain, Grants, Channel, reads, writes}
use Rattle.flow.specs.Fill.{fill_refusals, FlowFilled, Fills}
use Rattle.effects.specs.Effects.{effect_refusals, Affects}
use Rattle.change.specs.Change.{range_refusals, set_assignment_refusals, set_permission_refusals, SetsAssignment, SetsPermission, Between, change_refusals}
use Rattle.change.proofs.Between.{assignment_added, assignment_taken, assignment_not_3, permission_added, permission_taken, permission_not_3}

-- the assignment byte, and the mode
unfoldable tables : ℕ → ℕ → Lent
tables a m = lent (counts 1 1 1) (a ∷ replicate 2303 9) (m ∷ replicate 3071 9)

-- ---- the channels
granted : (a m wanted r : ℕ) → Grants (counts 1 1 1) (Assigned (sheet_in (tables a m))) (Plain (sheet_in (tables a m))) wanted 0 0 r → (a ≡ 1) × ((m ≡ wanted) ⊎ (m ≡ 3))
unfolding tables sheet_of
granted a m wanted zero g = (g.has_role, g.holds)
granted a m wanted (suc r) g = absurd (omega (arith, g.role))

-- where nothing is read: the subject has the role, and the role writes
record Writing (a m x y : ℕ) : Type 0 where
  from_0 : x ≡ 0
  to_1 : y ≡ 1
  has_role : a ≡ 1
  mode : m ≡ 2

only_writing : (a m : ℕ) → m ≢ 1 → m ≢ 3 → (x y : ℕ) → Channel (sheet_in (tables a m)) x y → Writing a m x y
unfolding tables sheet_of
only_writing a m not-1 not_3 x zero (reads zero l e h p) = absurd (⊎_elim not-1 not_3 (granted a m 1 p.by p.grants).1)
only_writing a m not-1 not_3 x (suc y) (reads zero l e h p) = absurd (omega arith)
only_writing a m not-1 not_3 x y (reads (suc o) l e h p) = absurd (omega arith)
only_writing a m not-1 not_3 zero y (writes zero l h e p) =
    let g = granted a m 2 p.by p.grants in
    record { from_0 = refl; to_1 = e; has_role = g.0; mode = ⊎_elim (λ e. e) (λ e. absurd (not_3 e)) g.1 }
only_writing a m not-1 not_3 (suc x) y (writes zero l h e p) = absurd (omega arith)
only_writing a m not-1 not_3 x y (writes (suc o) l h e p) = absurd (omega arith)

linked : Channel (sheet_in (tables 1 2)) 0 1
unfolding tables sheet_of
linked = writes 0 (lit< tt) (lit< tt) refl (record { by = 0; grants = record { role = lit< tt; has_role = refl; holds = inl refl } })

-- ---- the filled tables
unfoldable buffer : List ℕ
buffer = replicate 12544 7

unfoldable table : ℕ → List ℕ
table b = over (1 ∷ b ∷ 0 ∷ 1 ∷ []) buffer

unfilled : ℕ → ℕ → Type 0
unfilled a m = first_refusal (fill_refusals (tables a m) buffer) ≡ 0

-- nothing flows out of 1, and from 0 to 1 exactly if the byte is 1
marked : (a m b : ℕ) → m ≢ 1 → m ≢ 3 → Mark (Flow (Channel (sheet_in (tables a m))) 0 1) b → FlowFilled (sheet_in (tables a m)) buffer (table b)
unfolding table tables sheet_of
marked a m b not-1 not_3 there = record { table = 1 ∷ b ∷ 0 ∷ 1 ∷ []; marked = record { size = refl; bytes = byte }; written = refl }
  where
    stays : {y : ℕ} → Flow (Channel (sheet_in (tables a m))) 1 y → y ≡ 1
    stays f = flow_closed (λ z. z ≡ 1) refl (λ x y e c. absurd (omega (arith, (only_writing a m not-1 not_3 x y c).from_0))) f

    byte : (x y : ℕ) → x < 2 → y < 2 → Mark (Flow (Channel (sheet_in (tables a m))) x y) (at (1 ∷ b ∷ 0 ∷ 1 ∷ []) 2 x y)
    byte zero zero hx hy = one refl here
    byte zero (suc zero) hx hy = there
    byte zero (suc (suc y)) hx hy = absurd (omega arith)
    byte (suc zero) zero hx hy = none refl (λ f. omega (arith, stays f))
    byte (suc zero) (suc zero) hx hy = one refl here
    byte (suc zero) (suc (suc y)) hx hy = absurd (omega arith)
    byte (suc (suc x)) y hx hy = absurd (omega arith)

-- without the role, or the mode, nothing flows from 0 to 1
apart : (a m : ℕ) → m ≢ 1 → m ≢ 3 → ((a ≡ 1) → (m ≡ 2) → ⊥) → Mark (Flow (Channel (sheet_in (tables a m))) 0 1) 0
apart a m not-1 not_3 lacks = none refl (λ f. omega (arith, stays f))
  where
    stays : {y : ℕ} → Flow (Channel (sheet_in (tables a m))) 0 y → y ≡ 0
    stays f = flow_closed (λ z. z ≡ 0) refl (λ x y e c. let w = only_writing a m not-1 not_3 x y c in absurd (lacks w.has_role w.mode)) f

-- nothing is refused
record Accepted : Type 0 where
  both : unfilled 1 2
  no_mode : unfilled 1 0
  no_role : unfilled 0 2
  mode_taken : first_refusal (set_permission_refusals (tables 1 2) 0 0 0) ≡ 0
  mode_given : first_refusal (set_permission_refusals (tables 1 0) 0 0 2) ≡ 0
  role_taken : first_refusal (set_assignment_refusals (tables 1 2) 0 0 0) ≡ 0
  role_given : first_refusal (set_assignment_refusals (tables 0 2) 0 0 1) ≡ 0
  lost : first_refusal (effect_refusals 2 (table 1) (table 0) (replicate 112 7)) ≡ 0
  gained : first_refusal (effect_refusals 2 (table 0) (table 1) (replicate 112 7)) ≡ 0

accepted : Accepted
unfolding first_refusal ◌then◌ any_below sheet_refusals size_refusals used_refusals byte_refusals flow_size_refusals flow_refusals fill_refusals effect_refusals range_refusals set_assignment_refusals set_permission_refusals change_refusals tables buffer table over unfilled
accepted =
    record { both = refl; no_mode = refl; no_role = refl; mode_taken = refl; mode_given = refl; role_taken = refl; role_given = refl; lost = refl; gained = refl }

with_both : Fills (tables 1 2) buffer (0, table 1)
unfolding unfilled
with_both = accept accepted.both (refl, marked 1 2 1 (λ e. omega arith) (λ e. omega arith) (one refl (step here linked)))

without_mode : Fills (tables 1 0) buffer (0, table 0)
unfolding unfilled
without_mode =
    accept accepted.no_mode (refl, marked 1 0 0 (λ e. omega arith) (λ e. omega arith) (apart 1 0 (λ e. omega arith) (λ e. omega arith) (λ e f. omega arith)))

without_role : Fills (tables 0 2) buffer (0, table 0)
unfolding unfilled
without_role =
    accept accepted.no_role (refl, marked 0 2 0 (λ e. omega arith) (λ e. omega arith) (apart 0 2 (λ e. omega arith) (λ e. omega arith) (λ e f. omega arith)))

-- ---- the effect: none on 0, and 1 loses or gains 0
nothing_at_0 : (b b' : ℕ) → Gained 2 (Bytes 2 (table b)) (Bytes 2 (table b')) 0 → ⊥
unfolding table over buffer
nothing_at_0 b b' g = go g.entity g.below g.lacked g.has
  where
    go : (z : ℕ) → z < 2 → (Bytes 2 (table b) z 0 → ⊥) → Bytes 2 (table b') z 0 → ⊥
    go zero h lacked has = lacked (record { source = lit< tt; target = lit< tt; byte = refl })
    go (suc zero) h lacked has = omega (arith, has.byte)
    go (suc (suc z)) h lacked has = omega arith

at_1 : (b b' : ℕ) → Gained 2 (Bytes 2 (table b)) (Bytes 2 (table b')) 1 → (b ≢ 1) × (b' ≡ 1)
unfolding table over buffer
at_1 b b' g = go g.entity g.below g.lacked g.has
  where
    go : (z : ℕ) → z < 2 → (Bytes 2 (table b) z 1 → ⊥) → Bytes 2 (table b') z 1 → (b ≢ 1) × (b' ≡ 1)
    go zero h lacked has = (λ e. lacked (record { source = lit< tt; target = lit< tt; byte = e }), has.byte)
    go (suc zero) h lacked has = absurd (lacked (record { source = lit< tt; target = lit< tt; byte = refl }))
    go (suc (suc z)) h lacked has = absurd (omega arith)

new_at_1 : Gained 2 (Bytes 2 (table 0)) (Bytes 2 (table 1)) 1
unfolding table over buffer
new_at_1 = record { entity = 0; below = lit< tt; lacked = λ p. omega (arith, p.byte); has = record { source = lit< tt; target = lit< tt; byte = refl } }

unchanged : (b b' : ℕ) → Effect 2 (Bytes 2 (table b)) (Bytes 2 (table b')) 0 0
unchanged b b' = record { gain = 0; loss = 0; gained = none refl (nothing_at_0 b b'); lost = none refl (nothing_at_0 b' b); summed = refl }

loses : Affects 2 (table 1) (table 0) (replicate 112 7) (0, over (0 ∷ 2 ∷ []) (replicate 112 7))
loses = accept accepted.lost (record { row = 0 ∷ 2 ∷ []; effects = record { size = refl; bytes = byte }; written = refl })
  where
    byte : (x : ℕ) → x < 2 → Effect 2 (Bytes 2 (table 1)) (Bytes 2 (table 0)) x (get_or (0 ∷ 2 ∷ []) x 0)
    byte zero h = unchanged 1 0
    byte (suc zero) h = record { gain = 0; loss = 1; gained = none refl (λ g. (at_1 1 0 g).0 refl); lost = one refl new_at_1; summed = refl }
    byte (suc (suc x)) h = absurd (omega arith)

gains : Affects 2 (table 0) (table 1) (replicate 112 7) (0, over (0 ∷ 1 ∷ []) (replicate 112 7))
gains = accept accepted.gained (record { row = 0 ∷ 1 ∷ []; effects = record { size = refl; bytes = byte }; written = refl })
  where
    byte : (x : ℕ) → x < 2 → Effect 2 (Bytes 2 (table 0)) (Bytes 2 (table 1)) x (get_or (0 ∷ 1 ∷ []) x 0)
    byte zero h = unchanged 0 1
    byte (suc zero) h = record { gain = 1; loss = 0; gained = one refl new_at_1; lost = none refl (λ g. (at_1 1 0 g).0 refl); summed = refl }
    byte (suc (suc x)) h = absurd (omega arith)

-- ---- the calls between filled tables, and what the laws say of the effect on 1
abbrev lost_bytes : List ℕ
lost_bytes = over (0 ∷ 2 ∷ []) (replicate 112 7)

abbrev gained_bytes : List ℕ
gained_bytes = over (0 ∷ 1 ∷ []) (replicate 112 7)

mode_taken : Between (tables 1 2) (tables 1 0) (table 1) (table 0) lost_bytes
unfolding tables
mode_taken = record { unfilled = buffer; filled = with_both; unfilled' = buffer; filled' = without_mode; unwritten = replicate 112 7; affected = loses }

mode_given : Between (tables 1 0) (tables 1 2) (table 0) (table 1) gained_bytes
unfolding tables
mode_given = record { unfilled = buffer; filled = without_mode; unfilled' = buffer; filled' = with_both; unwritten = replicate 112 7; affected = gains }

role_taken : Between (tables 1 2) (tables 0 2) (table 1) (table 0) lost_bytes
unfolding tables
role_taken = record { unfilled = buffer; filled = with_both; unfilled' = buffer; filled' = without_role; unwritten = replicate 112 7; affected = loses }

role_given : Between (tables 0 2) (tables 1 2) (table 0) (table 1) gained_bytes
unfolding tables
role_given = record { unfilled = buffer; filled = without_role; unfilled' = buffer; filled' = with_both; unwritten = replicate 112 7; affected = gains }

takes_mode : SetsPermission (tables 1 2) 0 0 0 (0, (tables 1 0).permission)
unfolding tables
takes_mode = accept accepted.mode_taken refl

gives_mode : SetsPermission (tables 1 0) 0 0 2 (0, (tables 1 2).permission)
unfolding tables
gives_mode = accept accepted.mode_given refl

takes_role : SetsAssignment (tables 1 2) 0 0 0 (0, (tables 0 2).assignment)
unfolding tables
takes_role = accept accepted.role_taken refl

gives_role : SetsAssignment (tables 0 2) 0 0 1 (0, (tables 1 2).assignment)
unfolding tables
gives_role = accept accepted.role_given refl

record Laws : Type 0 where
  taken : (get_or lost_bytes 1 0 ≡ 0) ⊎ (get_or lost_bytes 1 0 ≡ 2)
  given : (get_or gained_bytes 1 0 ≡ 0) ⊎ (get_or gained_bytes 1 0 ≡ 1)
  lost_not_3 : get_or lost_bytes 1 0 ≢ 3
  gained_not_3 : get_or gained_bytes 1 0 ≢ 3

-- met by `set_permission` that takes mode 2 away and one that gives it: the effect bytes of entity 1 are 0 or 2, 0 or 1, and never 3
by_mode : Laws
unfolding tables sheet_of
by_mode =
    record {
      taken = permission_taken (tables 1 2) 0 0 0 _ takes_mode mode_taken (lit< tt) (record { reading = nothing; writing = nothing });
      given = permission_added (tables 1 0) 0 0 2 _ gives_mode mode_given (lit< tt) (record { reading = nothing; writing = nothing });
      lost_not_3 = permission_not_3 (tables 1 2) 0 0 0 _ takes_mode mode_taken (lit< tt);
      gained_not_3 = permission_not_3 (tables 1 0) 0 0 2 _ gives_mode mode_given (lit< tt);
    }
  where
    nothing : {wanted mode : ℕ} → Has 0 (suc wanted) → Has mode (suc wanted)
    nothing (inl e) = absurd (omega arith)
    nothing (inr e) = absurd (omega arith)

-- met by `set_assignment` that takes the role away and one that gives it: the effect bytes of entity 1 are 0 or 2, 0 or 1, and never 3
by_role : Laws
unfolding tables sheet_of
by_role =
    record {
      taken = assignment_taken (tables 1 2) 0 0 0 _ takes_role role_taken (lit< tt) (λ e. absurd (omega arith));
      given = assignment_added (tables 0 2) 0 0 1 _ gives_role role_given (lit< tt) (λ e. refl);
      lost_not_3 = assignment_not_3 (tables 1 2) 0 0 0 _ takes_role role_taken (lit< tt);
      gained_not_3 = assignment_not_3 (tables 0 2) 0 0 1 _ gives_role role_given (lit< tt);
    }
