-- `judging::judge_channels` meets its contract: what was found, and its chain.
use Rattle.judging.proofs.Searching.{has_chain, found_one}
use Rattle.judging.proofs.judge_channels.Goals as goal

pub unwrap-count-requires : goal.unwrap-count-requires
unwrap-count-requires c =
    has_chain _ _ _ _ c.in_ok-position.ensures _ (rw (c.pair-x.ensures.0, c.pair-x.ensures.1) at c.show_chain.ensures)

pub returns : goal.returns
returns c =
    found_one _ _ _ _ _ c.in_ok-position.ensures
    (rw (c.pair-x.ensures.0, c.pair-x.ensures.1) at c.show_chain.ensures) c.unwrap-count.ensures
