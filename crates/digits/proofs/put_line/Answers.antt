-- `digits::put_line` meets its contract: the digits are written, and a line feed past them.
use Rattle.digits.proofs.Puts.{line_ended}
use Rattle.digits.proofs.put_line.Goals as goal

pub returns : goal.returns
returns c = line_ended _ _ _ _ _ c.put_bytes-end.ensures
