-- No output is longer than the least length of the buffer that it is written to.
use Prim.Native.Nat.{ℕ, ◌≤◌}
use mathlib.Core.Path.{◌≡◌, refl}
use mathlib.Core.List.{List}
use native.Mathlib.Omega.{arith}
use lib.ListN.{length, length-append}
use Rattle.tables.specs.Sheet.{Sheet, Sound}
use Rattle.digits.proofs.Puts.{line_long}
use Rattle.text.specs.Reading.{Read, accepted}
use Rattle.text.proofs.RoundTrip.{accepted_sound}
use Rattle.output.specs.Output.{SheetLines, refusal_line, Printed, refusal, sheet_lines, Output}
use Rattle.report.specs.Report.{least_output}
use Rattle.output.proofs.LineLaws.{lines_long}
use Rattle.report.proofs.VerdictLines.{line_short}

refusal_long : (n line : ℕ) → length (refusal_line n line) ≡ 9
unfolding refusal_line
refusal_long n line = line_long _

sheet_fits : {t : Sheet} {out : List ℕ} → Sound t → SheetLines t out → length out ≤ least_output
sheet_fits {t} s l =
    rw l.whole
    (simp length-append
    (omega (arith, lines_long l.each, line_long l.verdict_line, line_short t s.counts_fit.subjects l.verdict, s.counts_fit.subjects, s.counts_fit.objects)))

print_fits : {r : Read} {out : List ℕ} → ((t : Sheet) → r ≡ accepted t → Sound t) → Printed r out → length out ≤ least_output
print_fits sound (refusal {n = n} {line = line} e) = rw (e, refusal_long n line) (omega arith)
print_fits sound (sheet_lines {t = t} l) = sheet_fits (sound t refl) l

pub output_fits : (text out : List ℕ) → Output text out → length out ≤ least_output
output_fits text out = print_fits (λ t e. accepted_sound text e)
