-- `parsing::parse_at` meets its contract: the line is the first one of the rest of the text.
use Rattle.parsing.proofs.Parses.{line_found}
use Rattle.parsing.proofs.parse_at.Goals as goal

pub returns : goal.returns
returns c = line_found _ _ _ _ c.requires c.end_of_line-end.ensures c.parse_line-parsed.ensures
