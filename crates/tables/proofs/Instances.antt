-- A sheet that meets the premises of the laws: one subject with one role, which may read and write one object.
use mathlib.Core.Path.{refl}
use mathlib.Core.Bool.{false}
use mathlib.Core.List.{[], ◌∷◌}
use native.Mathlib.Omega.{arith}
use lib.ListN.{replicate}
use Rattle.answers.specs.Call.{first_refusal, ◌then◌, each_below}
use Rattle.answers.specs.Rows.{any_below}
use Rattle.tables.specs.Sheet.{Lent, lent, counts, sheet_of, Sound}
use Rattle.tables.specs.Refusals.{size_refusals, used_refusals, sheet_refusals, pair_refusals, separation_refusals}
use Rattle.tables.proofs.Accepted.{tables_passed, separations_passed}
use Rattle.tables.proofs.Sounds.{sound_of}

least : Lent
least = lent (counts 1 1 1) (replicate 2304 1) (replicate 3072 3)

-- met by one subject with one role, which may read and write one object, and the separations 0 to 0 and 0 to 1: a sound sheet
least_sound : Sound (sheet_of least 2 (0 ∷ 0 ∷ 0 ∷ 1 ∷ []))
unfolding first_refusal sheet_refusals size_refusals used_refusals any_below separation_refusals pair_refusals ◌then◌ each_below least
least_sound =
    sound_of least 2 _ (tables_passed false false least refl).sized (omega arith) (separations_passed 2 (0 ∷ 0 ∷ 0 ∷ 1 ∷ []) 2 refl)
