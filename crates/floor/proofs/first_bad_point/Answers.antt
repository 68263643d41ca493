-- `floor::first_bad_point` meets its contract: `find` over a range finds the first index that passes.
use mathlib.Core.Path.{◌≡◌}
use mathlib.Core.Bool.{true, false}
use borrow.Author.Rules.{rules}
use Rattle.std.proofs.lemmas.Iterator.{first_from_Range}
use Rattle.floor.specs.Checks.{bad_point}
use Rattle.floor.proofs.Lowest.{found-by}
use Rattle.floor.proofs.first_bad_point.Goals as goal

pub returns : goal.returns
returns c =
    found-by _ _ _ (first_from_Range _ _ _ _ (λ i. bad_point c.args.points.now i ≡ true) (λ i. bad_point c.args.points.now i ≡ false) c.find.ensures.ran
    (λ x q k. search rules)
    (λ x q k. search rules))
