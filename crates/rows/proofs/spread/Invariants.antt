-- `rows::spread` meets its contract. The entities before k have been looked at.
use Rattle.answers.specs.Rows.{Bytes}
use Rattle.rows.specs.Search.{Spread}
use Rattle.rows.proofs.spread.Given as goal

abbrev pub invariant-loop-k : goal.invariant-loop-k
invariant-loop-k l =
    Spread (Bytes l.channels.n l.channels.bytes.now) l.channels.n l.u l.k l.initial.order l.order l.tail l.end
