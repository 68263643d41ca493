-- `floor::first_bad_corner` meets its contract: `find` over a range finds the first index that passes.
use mathlib.Core.Path.{◌≡◌}
use mathlib.Core.Bool.{true, false}
use borrow.Author.Rules.{rules}
use Rattle.std.proofs.lemmas.Iterator.{first_from_Range}
use Rattle.floor.specs.Checks.{bad_corner}
use Rattle.floor.proofs.Lowest.{found-by}
use Rattle.floor.proofs.first_bad_corner.Goals as goal

pub returns : goal.returns
returns c =
    found-by _ _ _ (first_from_Range _ _ _ _ (λ i. bad_corner c.args.triangles.now c.args.n i ≡ true) (λ i. bad_corner c.args.triangles.now c.args.n i ≡ false) c.find.ensures.ran
    (λ x q k. search rules)
    (λ x q k. search rules))
