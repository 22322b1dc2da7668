-- Which number a rehearsal answers where several would do, and the last sizes that pass.
use Prim.Native.Nat.{ℕ}
use mathlib.Core.Path.{◌≡◌, refl}
use lib.ListN.{replicate}
use Rattle.answers.specs.Call.{first_refusal, ◌then◌}
use Rattle.answers.specs.Rows.{any_below}
use Rattle.tables.specs.Sheet.{Lent, lent, counts}
use Rattle.tables.specs.Refusals.{size_refusals, used_refusals, sheet_refusals}
use Rattle.transfers.specs.declared.Tally.{Tally}
use Rattle.transfers.specs.Transfers.{transfer}
use Rattle.transfers.specs.Rehearse.{tally, new_tally, tally_refusals, rehearsal_short}
use Rattle.rehearsal.specs.Calls.{rehearse_refusals, record_refusals}

-- tables that are in order, and tables with a mode of 9
sheet : Lent
sheet = lent (counts 2 1 2) (replicate 2304 1) (replicate 3072 3)

faulty : Lent
faulty = lent (counts 2 1 2) (replicate 2304 1) (replicate 3072 9)

-- of a list of n bytes, with m marks and v verdict bytes
flat : Lent → ℕ → ℕ → ℕ → Tally → ℕ
flat l n m v t = first_refusal (rehearse_refusals l (replicate n 0) (replicate m 0) (replicate v 0) t)

-- of a list of n records
records : ℕ → Tally → ℕ
records n t = first_refusal (record_refusals sheet (replicate n (transfer 0 0 2)) (replicate 112 0) (replicate 4096 0) t)

abbrev full : Tally
full = tally 4294963200 0 0

pub record Numbers : Type 0 where
  marks_short : flat sheet 12289 111 4096 full ≡ 1
  verdicts_short : flat sheet 12289 112 4095 full ≡ 1
  list_over : flat faulty 12289 112 4096 full ≡ 5
  faulty_byte : flat faulty 1 112 4096 full ≡ 11
  not_whole : flat sheet 1 112 4096 full ≡ 15
  applied_full : flat sheet 0 112 4096 full ≡ 17
  outside_full : flat sheet 3 112 4096 (tally 0 4294963200 0) ≡ 17
  barred_full : flat sheet 3 112 4096 (tally 0 0 4294963200) ≡ 17
  most_bytes : flat sheet 12288 112 4096 (tally 4294963199 4294963199 4294963199) ≡ 0
  records_over : records 4097 full ≡ 5
  records_full : records 0 full ≡ 17
  most_records : records 4096 new_tally ≡ 0

-- "1, 5, 11; .. then 10, 15, 17": the number that answers where several would do, and the last sizes and tallies that pass
pub numbers : Numbers
unfolding flat records faulty sheet first_refusal ◌then◌ sheet_refusals size_refusals used_refusals any_below rehearsal_short tally_refusals rehearse_refusals record_refusals
numbers =
    record {
      marks_short = refl;
      verdicts_short = refl;
      list_over = refl;
      faulty_byte = refl;
      not_whole = refl;
      applied_full = refl;
      outside_full = refl;
      barred_full = refl;
      most_bytes = refl;
      records_over = refl;
      records_full = refl;
      most_records = refl;
    }
