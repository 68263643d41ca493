-- A floor that is given by lists: of coordinates, of triangles counter-clockwise and their areas, of sides in the order first met and the transports
-- along them. Definitions only.
use Rattle.std.specs.Prelude.{ℕ, List, get_or, Float}
use Rattle.std.proofs.Math.Option.{Option, none, some}
use Rattle.std.specs.Float.{nan}
use Rattle.complex.specs.declared.Complex.{Complex}
use Rattle.complex.specs.Complex.{cnan}
use Rattle.mesh.specs.Mesh.{Side, Tri, tri, key, index_in}
use Rattle.pass_assembly.specs.declared.Triple.{Triple}
use Rattle.pass_assembly.specs.Assembly.{Assembled}

abbrev pub triple_of : Tri → Triple
triple_of (tri i j k) = record { i = i; j = j; k = k }

-- the Rust's `edge_map.get(&key)`. Each side of a listed triangle is there, so that 0 stands for none of them
abbrev pub found : Option ℕ → ℕ
found none = 0
found (some e) = e

unfoldable pub number_in : List Side → ℕ → ℕ → ℕ
number_in l i j = found (index_in (key i j) l)

abbrev pub numbers_in : List Side → Tri → Triple
numbers_in l (tri i j k) = record { i = number_in l i j; j = number_in l j k; k = number_in l k i }

unfoldable pub assembled_of : List Float → List Float → List Tri → List Float → List Side → List Complex → Assembled
assembled_of xs ys ts areas l rs = record {
  x = λ v. get_or xs v nan;
  y = λ v. get_or ys v nan;
  corners = λ t. triple_of (get_or ts t (tri 0 0 0));
  areas = λ t. get_or areas t nan;
  numbers = λ t. numbers_in l (get_or ts t (tri 0 0 0));
  transports = λ e. get_or rs e cnan;
}
