-- `pass_options::check_large` meets its contract: each return opens the definition and rewrites it by the tests and the calls on its way.
use mathlib.Core.Path.{ap}
use borrow.Author.Tests.{le-ltb, lt-ltb}
use Rattle.std.specs.Prelude.{Err}
use Rattle.floor.specs.Checks.{lowest}
use Rattle.pass_options.specs.Options.{any_large, large_place}
use Rattle.floor.proofs.Lowest.{found-some, found-none}
use Rattle.pass_options.proofs.check_large.Goals as goal

pub returns-then-too_large : goal.returns-then-too_large
unfolding any_large large_place
returns-then-too_large c = simp (← c.too_large.ensures, c.if-too_large.true) (ap Err c.refused.ensures)

pub returns-then-not-guided : goal.returns-then-not-guided
unfolding any_large large_place lowest
returns-then-not-guided c = simp (← c.too_large.ensures, c.if-too_large.false, c.if-not-guided.true)

pub returns-in-Some : goal.returns-in-Some
unfolding any_large large_place
returns-in-Some c =
    let at = found-some _ _ _ c.first_too_large.ensures c.in-Some.is in
    simp (← c.too_large.ensures, c.if-too_large.false, c.if-not-guided.false, ← at.0, lt-ltb _ _ at.1) (ap Err c.refused-in-Some.ensures)

pub returns : goal.returns
unfolding any_large large_place
returns c =
    simp (← c.too_large.ensures, c.if-too_large.false, c.if-not-guided.false, le-ltb _ _ (found-none _ _ c.first_too_large.ensures c.in_default.not-Some))
