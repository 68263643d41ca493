-- `pass_options::first_not_finite` meets its contract: `find` over a range finds the first index that passes.
use mathlib.Core.Path.{◌≡◌}
use mathlib.Core.Bool.{true, false}
use borrow.Author.Rules.{rules}
use Rattle.std.proofs.lemmas.Iterator.{first_from_Range}
use Rattle.floor.proofs.Lowest.{found-by}
use Rattle.pass_options.specs.Options.{not_finite_at}
use Rattle.pass_options.proofs.first_not_finite.Goals as goal

pub returns : goal.returns
returns c =
    found-by _ _ _ (first_from_Range _ _ _ _ (λ i. not_finite_at c.args.angles.now i ≡ true) (λ i. not_finite_at c.args.angles.now i ≡ false) c.find.ensures.ran
    (λ x q k. search rules)
    (λ x q k. search rules))
