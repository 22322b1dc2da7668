-- What C is handed for a verdict.
use Rattle.std.specs.Prelude.{ℕ, ◌+◌, ◌*◌}
use Rattle.separations.specs.declared.Judged.{Judged}

-- "There, judging returns answer + 256 x position + 65,536 x chain count."
unfoldable pub packed : Judged → ℕ
packed j = j.answer + 256 * j.position + 65536 * j.count
