-- What `report` makes of a sheet of one subject, of a text that is refused, and of a buffer that is too short.
use Prim.Native.Nat.{ℕ}
use mathlib.Core.Path.{◌≡◌, refl}
use mathlib.Core.List.{List, [], ◌∷◌}
use lib.Dec.{lit<}
use lib.ListN.{replicate}
use Rattle.answers.specs.Call.{first_refusal, told}
use Rattle.answers.specs.Rows.{over}
use Rattle.answers.proofs.Calls.{accept}
use Rattle.digits.specs.Text.{codes}
use Rattle.report.specs.Report.{least_output, report_refusals, Reports}
use Rattle.report.proofs.Reporting.{too_short}
use Rattle.output.proofs.Example.{lone_output, empty_output}

buffer : List ℕ
buffer = replicate least_output 9

full : first_refusal (report_refusals buffer) ≡ 0
unfolding buffer report_refusals first_refusal
full = refl

-- an accepted sheet and a refused text, each with its output's length and the output in front of what the buffer held
lone_reported : Reports (codes "01010000\n050001\n") buffer (told 0 16, over (codes "8100000301\n8200\n") buffer)
unfolding codes
lone_reported = accept full (record { printed = codes "8100000301\n8200\n"; output = lone_output; written = refl })

empty_reported : Reports [] buffer (told 0 9, over (codes "80090001\n") buffer)
unfolding codes
empty_reported = accept full (record { printed = codes "80090001\n"; output = empty_output; written = refl })

-- a buffer that is too short: 1, and nothing is written
short_reported : Reports [] (9 ∷ []) (told 1 0, 9 ∷ [])
short_reported = too_short [] (9 ∷ []) (lit< tt)
