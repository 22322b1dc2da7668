-- `lines::end_of_line` meets its contract: the line ends at its line feed, or with the text.
use native.Mathlib.Omega.{arith}
use lib.ListN.{drop, length-drop}
use Rattle.lines.proofs.Starts.{rest, feed_found, no_feed_found}
use Rattle.lines.proofs.end_of_line.Goals as goal

pub returns-in-Some : goal.returns-in-Some
returns-in-Some c =
    let t = c.args.text.now in
    let x = feed_found (drop c.args.at t) _ (rw rest at c.in-Some.ensures) in
    (omega arith, omega (arith, length-drop c.args.at t))

pub returns-in-None : goal.returns-in-None
returns-in-None c =
    let t = c.args.text.now in
    let x = no_feed_found (drop c.args.at t) (rw rest at c.in-None.ensures) in
    (omega (arith, length-drop c.args.at t), omega arith)
