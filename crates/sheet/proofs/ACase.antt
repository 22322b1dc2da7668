-- Buffers of their least lengths pass, and each that has a byte less is refused; what lies past the used parts stays.
use mathlib.Core.Path.{◌≡◌, refl}
use Prim.Native.Nat.{ℕ}
use mathlib.Core.List.{[], ◌∷◌}
use lib.ListN.{replicate}
use Rattle.answers.specs.Call.{first_refusal}
use Rattle.answers.specs.Rows.{over}
use Rattle.tables.specs.Sheet.{sheet, counts}
use Rattle.reader.specs.Fill.{tables}
use Rattle.sheet.specs.Read.{read_refusals, tables_read}

-- of tables of these lengths
refusal : ℕ → ℕ → ℕ → ℕ
unfolding first_refusal read_refusals
refusal assignment permission separations = first_refusal (read_refusals (tables (replicate assignment 9) (replicate permission 9) (replicate separations 9)))

-- "1 | a lent buffer is shorter than its least length"
pub record LeastLengths : Type 0 where
  least : refusal 2304 3072 128 ≡ 0
  assignment_short : refusal 2303 3072 128 ≡ 1
  permission_short : refusal 2304 3071 128 ≡ 1
  separations_short : refusal 2304 3072 127 ≡ 1

-- "1 | a lent buffer is shorter than its least length": the tables lent to `read` pass at their least lengths; a byte less in any gives 1
pub least_lengths : LeastLengths
unfolding refusal first_refusal read_refusals
least_lengths = record { least = refl; assignment_short = refl; permission_short = refl; separations_short = refl }

-- "Bytes past the used part are neither judged nor altered": one subject with one role, which has mode 2 on one object, in longer tables
pub rest_stays : (tables_read (tables (7 ∷ 8 ∷ []) (5 ∷ 6 ∷ []) (9 ∷ [])) (sheet (counts 1 1 1) (1 ∷ []) (2 ∷ []) [])).tables
    ≡ tables (1 ∷ 8 ∷ []) (2 ∷ 6 ∷ []) (9 ∷ [])
unfolding over
rest_stays = refl
