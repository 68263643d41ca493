-- `godf::product::godf_vertex_product` meets its contract: each return opens the definition and rewrites it by the tests and the calls on its way.
use mathlib.Core.Path.{refl}
use Rattle.godf.proofs.product.godf_vertex_product.Goals as goal

pub returns-in_default : goal.returns-in_default
returns-in_default c = simp (← c.vertex_product-product.ensures, c.in_default.is) (record { number = refl; re-is = refl; im-is = refl })

pub returns : goal.returns
returns c = simp (← c.vertex_product-product.ensures, c.in-Some.is) (record { number = refl; re-is = refl; im-is = refl })
