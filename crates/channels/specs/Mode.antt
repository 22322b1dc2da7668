-- What is asked of a mode.
use Rattle.std.specs.Prelude.{ℕ}
use Rattle.access.specs.Channel.{read, write}
use Rattle.channels.specs.declared.permissions.Wanted.{Wanted}
use Rattle.channels.specs.declared.permissions.Wanted.TheVariants.{Read, Write}

-- "(1 read, 2 write, 3 both)": the mode that has this alone
abbrev pub mode_of : Wanted → ℕ
mode_of Read = read
mode_of Write = write
