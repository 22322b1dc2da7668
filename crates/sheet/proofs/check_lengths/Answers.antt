-- `sheet::check_lengths` meets its contract: its rules are those of the list.
use Rattle.std.proofs.Common.{rules}
use Rattle.answers.specs.Call.{◌then◌}
use Rattle.sheet.specs.Read.{read_refusals}
use Rattle.sheet.proofs.check_lengths.Goals as goal

pub returns : goal.returns
unfolding read_refusals ◌then◌
returns c = search rules
