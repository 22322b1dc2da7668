-- The filled table of a sheet of two subjects and nothing else, and of one whose subject reads and writes its object.
use Prim.Native.Nat.{ℕ, zero, suc, ◌<◌}
use mathlib.Core.Path.{◌≡◌, refl}
use mathlib.Core.Logic.{inr}
use mathlib.Core.List.{List, [], ◌∷◌}
use native.Mathlib.Omega.{arith}
use lib.Dec.{lit<}
use lib.ListN.{replicate}
use Rattle.answers.specs.Call.{first_refusal, ◌then◌}
use Rattle.answers.specs.Rows.{Bytes, at, Mark, one, none, over, any_below}
use Rattle.answers.proofs.Calls.{accept}
use Rattle.tables.specs.Sheet.{Lent, lent, sheet, sheet_of, Sheet, counts}
use Rattle.tables.specs.Refusals.{size_refusals, used_refusals, sheet_refusals}
use Rattle.theory.specs.Flow.{here, step}
use Rattle.theory.specs.Order.{Included}
use Rattle.theory.proofs.Flows.{flow_closed}
use Rattle.access.specs.Channel.{Grants, Assigned, Plain, Channel, reads, writes, SheetFlow, read, write}
use Rattle.theory.specs.Laws.{EqualAnswers, OneClass}
use Rattle.flow.specs.Fill.{FlowFilled, fill_refusals, Fills}
use Rattle.flow.proofs.Filled.{filled_answers, table_answers, label_of_byte, byte_of_label, classes_partition}
use Rattle.flow.proofs.Closing.{fillable}
use Rattle.flow.proofs.Unrefused.{table_sound, none_refused, sized_filled}
use Rattle.tables.specs.FlowTable.{SoundFlow}

abbrev apart : Sheet
apart = sheet (counts 2 0 0) [] [] []

stays : {x y : ℕ} → SheetFlow apart x y → y ≡ x
stays {x} f = flow_closed (λ z. z ≡ x) refl (λ a b _ c. absurd (no_channel a b c)) f
  where
    no_channel : (a b : ℕ) → Channel apart a b → ⊥
    no_channel a b (reads o l e h m) = omega arith
    no_channel a b (writes o l h e m) = omega arith

-- the four places of a table of two
four : (P : ℕ → ℕ → Type 0) → P 0 0 → P 0 1 → P 1 0 → P 1 1 → (x y : ℕ) → x < 2 → y < 2 → P x y
four P a b c d zero zero hx hy = a
four P a b c d zero (suc zero) hx hy = b
four P a b c d zero (suc (suc y)) hx hy = absurd (omega arith)
four P a b c d (suc zero) zero hx hy = c
four P a b c d (suc zero) (suc zero) hx hy = d
four P a b c d (suc zero) (suc (suc y)) hx hy = absurd (omega arith)
four P a b c d (suc (suc x)) y hx hy = absurd (omega arith)

apart_filled : (buffer : List ℕ) → FlowFilled apart buffer (over (1 ∷ 0 ∷ 0 ∷ 1 ∷ []) buffer)
apart_filled buffer = record { table = 1 ∷ 0 ∷ 0 ∷ 1 ∷ []; marked = record { size = refl; bytes = byte }; written = refl }
  where
    byte : (x y : ℕ) → x < 2 → y < 2 → Mark (SheetFlow apart x y) (at (1 ∷ 0 ∷ 0 ∷ 1 ∷ []) 2 x y)
    byte =
        four (λ x y. Mark (SheetFlow apart x y) (at (1 ∷ 0 ∷ 0 ∷ 1 ∷ []) 2 x y))
        (one refl here) (none refl (λ f. omega (arith, stays f)))
        (none refl (λ f. omega (arith, stays f))) (one refl here)

-- met by two subjects and no channel: each answer that the sheet's flow gives on 0, and on 0 and 1, the filled table gives too
apart_answers : EqualAnswers 2 (SheetFlow apart) (Bytes 2 (1 ∷ 0 ∷ 0 ∷ 1 ∷ 8 ∷ [])) 0 1
unfolding over
apart_answers = filled_answers apart _ _ (apart_filled (9 ∷ 9 ∷ 9 ∷ 9 ∷ 8 ∷ [])) 0 1 (lit< tt) (lit< tt)

-- met by two subjects and no channel: each answer that the filled table gives on 0, and on 0 and 1, the sheet's flow gives too
apart_asked : EqualAnswers 2 (Bytes 2 (1 ∷ 0 ∷ 0 ∷ 1 ∷ 8 ∷ [])) (SheetFlow apart) 0 1
unfolding over
apart_asked = table_answers apart _ _ (apart_filled (9 ∷ 9 ∷ 9 ∷ 9 ∷ 8 ∷ [])) 0 1 (lit< tt) (lit< tt)

-- ---- a call that filled it
unfoldable tables : Lent
tables = lent (counts 2 0 0) (replicate 2304 9) (replicate 3072 9)

abbrev flow : List ℕ
flow = replicate 12544 5

call : Fills tables flow (0, over (1 ∷ 0 ∷ 0 ∷ 1 ∷ []) flow)
unfolding first_refusal ◌then◌ any_below sheet_refusals size_refusals used_refusals fill_refusals tables sheet_of
call = accept refl (refl, apart_filled flow)

-- met by the table that this call of `fill` wrote for two subjects and no channel: it passes 1, 5 and 12
call_sound : SoundFlow 2 (over (1 ∷ 0 ∷ 0 ∷ 1 ∷ []) flow)
unfolding tables
call_sound = table_sound tables flow _ call

-- whatever the call answers, it is 0
call_answers : (result : ℕ × List ℕ) → Fills tables flow result → result.0 ≡ 0
unfolding fill_refusals
call_answers result r =
    let f = fillable tables flow (none_refused tables flow _ call) in
    (sized_filled tables flow result r f.sized f.room).0

-- ---- a subject that reads and writes its object: the label of one is included in that of the other
abbrev joined : Sheet
joined = sheet (counts 1 1 1) (1 ∷ []) (3 ∷ []) []

by_role : (mode : ℕ) → Grants joined.counts (Assigned joined) (Plain joined) mode 0 0 0
by_role mode = record { role = lit< tt; has_role = refl; holds = inr refl }

joined_filled : (buffer : List ℕ) → FlowFilled joined buffer (over (1 ∷ 1 ∷ 1 ∷ 1 ∷ []) buffer)
joined_filled buffer = record { table = 1 ∷ 1 ∷ 1 ∷ 1 ∷ []; marked = record { size = refl; bytes = byte }; written = refl }
  where
    byte : (x y : ℕ) → x < 2 → y < 2 → Mark (SheetFlow joined x y) (at (1 ∷ 1 ∷ 1 ∷ 1 ∷ []) 2 x y)
    byte =
        four (λ x y. Mark (SheetFlow joined x y) (at (1 ∷ 1 ∷ 1 ∷ 1 ∷ []) 2 x y))
        (one refl here) (one refl (step here (writes 0 (lit< tt) (lit< tt) refl (record { by = 0; grants = by_role write }))))
        (one refl (step here (reads 0 (lit< tt) refl (lit< tt) (record { by = 0; grants = by_role read })))) (one refl here)

-- met by a subject that reads and writes its object: the filled table's byte from 0 to 1 is 1, so 0's label is included in 1's
joined_label : Included 2 (Bytes 2 (1 ∷ 1 ∷ 1 ∷ 1 ∷ [])) 0 1
unfolding over
joined_label = label_of_byte joined _ _ (joined_filled []) 0 1 (lit< tt) (lit< tt) (record { source = lit< tt; target = lit< tt; byte = refl })

-- met by the same table: 0's label is included in 1's, so its byte from 0 to 1 is 1
joined_byte : Bytes 2 (1 ∷ 1 ∷ 1 ∷ 1 ∷ []) 0 1
unfolding over
joined_byte = byte_of_label joined _ _ (joined_filled []) 0 1 (lit< tt) (lit< tt) joined_label

-- met by the same table: 0 and 1 are one class, named 0
joined_classes : OneClass 2 (Bytes 2 (1 ∷ 1 ∷ 1 ∷ 1 ∷ [])) 0 1 0 0
unfolding over
joined_classes = classes_partition joined _ _ (joined_filled []) 0 1 0 0 (lit< tt) (lit< tt)
