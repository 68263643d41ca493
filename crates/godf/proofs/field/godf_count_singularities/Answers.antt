-- `godf::field::godf_count_singularities` meets its contract: each return opens the definition and rewrites it by the tests and the calls on its way.
use mathlib.Core.Path.{refl}
use Rattle.godf.proofs.field.godf_count_singularities.Goals as goal

pub returns-in_default : goal.returns-in_default
returns-in_default c = simp (← c.count_singularities.ensures, c.in_default.is) (record { number = refl; three-is = refl; five-is = refl })

pub returns : goal.returns
returns c = simp (← c.count_singularities.ensures, c.in-Ok.is) (record { number = refl; three-is = refl; five-is = refl })
