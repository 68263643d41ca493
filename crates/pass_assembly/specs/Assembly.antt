-- The mass and the energy matrix of a pass, summed over its triangles in list order: lines 1295 to 1418 of the Rust's solve_mesh. Definitions only.
-- Each value of a matrix is a sum of its own, from +0: of what the triangles add at one point, or along one side.
use Rattle.std.specs.Prelude.{ℕ, zero, suc, cond, List, eqb, ltb, length, Float}
use Rattle.float.specs.Double.{lit, ◌⊕◌}
use Rattle.complex.specs.declared.Complex.{Complex}
use Rattle.complex.specs.Complex.{czero, cadd, cconj}
use Rattle.geometry.specs.Triangle.{at}
use Rattle.pass_terms.specs.declared.Mode.{Mode}
use Rattle.pass_terms.specs.declared.Corners.{Corners}
use Rattle.pass_terms.specs.declared.Sides.{Sides}
use Rattle.pass_terms.specs.declared.Part.{Part}
use Rattle.pass_terms.specs.declared.Terms.{Terms}
use Rattle.pass_terms.specs.Terms.{is_plain, terms_of}
use Rattle.linear_cells.specs.Region.{tab}
use Rattle.linear_hermitian.specs.Hermitian.{Matrix}
use Rattle.pass_assembly.specs.declared.Triple.{Triple}

-- a floor as it is assembled: the coordinates of each point; the corners of each triangle, counter-clockwise, its area, and the numbers of its sides
-- from corner i to j, j to k and k to i; and the transport along each side from its lower to its upper end
pub record Assembled : Type 0 where
  pub x : ℕ → Float
  pub y : ℕ → Float
  pub corners : ℕ → Triple
  pub areas : ℕ → Float
  pub numbers : ℕ → Triple
  pub transports : ℕ → Complex

-- ---- one triangle

-- lines 1318 to 1322, 1370 to 1374 and 1410 to 1414: a value along the side from i to j, as the value from its lower to its upper end, or back
unfoldable pub toward_upper : ℕ → ℕ → Complex → Complex
toward_upper i j z = cond (ltb i j) z (cconj z)

unfoldable pub directed_sides : Triple → Sides → Sides
directed_sides c z = record { ij = toward_upper c.i c.j z.ij; jk = toward_upper c.j c.k z.jk; ki = toward_upper c.k c.i z.ki }

abbrev pub directed_part : Triple → Part → Part
directed_part c p = record { corners = p.corners; sides = directed_sides c p.sides }

unfoldable pub directed_terms : Triple → Terms → Terms
directed_terms c z = record { mass = directed_part c z.mass; energy = directed_part c z.energy; correction = z.correction }

-- the transports along the sides s of the triangle with the corners c
unfoldable pub transports_on : (ℕ → Complex) → Triple → Triple → Sides
transports_on R c s = directed_sides c (record { ij = R s.i; jk = R s.j; ki = R s.k })

-- what it adds, where its area is a
unfoldable pub terms_on : Mode → (ℕ → Float) → (ℕ → Float) → (ℕ → Complex) → Triple → Triple → Float → Terms
terms_on m X Y R c s a = directed_terms c (terms_of m a (transports_on R c s) (at X Y c.i) (at X Y c.j) (at X Y c.k))

unfoldable pub terms_at : Mode → Assembled → ℕ → Terms
terms_at m f t = terms_on m f.x f.y f.transports (f.corners t) (f.numbers t) (f.areas t)

-- ---- one point, one side

-- what x, added at i, makes of the sum at v
abbrev pub add_at : {A : Type 0} → (A → A → A) → ℕ → ℕ → A → A → A
add_at plus v i x sum = cond (eqb v i) (plus sum x) sum

unfoldable pub add_corners : ℕ → Triple → Corners → Float → Float
add_corners v c d sum = add_at ◌⊕◌ v c.k d.k (add_at ◌⊕◌ v c.j d.j (add_at ◌⊕◌ v c.i d.i sum))

unfoldable pub add_sides : ℕ → Triple → Sides → Complex → Complex
add_sides e s z sum = add_at cadd e s.k z.ki (add_at cadd e s.j z.jk (add_at cadd e s.i z.ij sum))

-- line 1344: the correction x at each corner, where the holomorphic weight h is not 0
abbrev pub thrice : Float → Corners
thrice x = record { i = x; j = x; k = x }

unfoldable pub add_correction : Float → ℕ → Triple → Float → Float → Float
add_correction h v c x sum = cond (is_plain h) sum (add_corners v c (thrice x) sum)

-- ---- the sums over the first t triangles: on the diagonal at point v, off it for side e

unfoldable pub mass_diagonal_to : Mode → Assembled → ℕ → ℕ → Float
mass_diagonal_to m f v zero = lit 0
mass_diagonal_to m f v (suc t) = add_corners v (f.corners t) (terms_at m f t).mass.corners (mass_diagonal_to m f v t)

unfoldable pub mass_off_to : Mode → Assembled → ℕ → ℕ → Complex
mass_off_to m f e zero = czero
mass_off_to m f e (suc t) = add_sides e (f.numbers t) (terms_at m f t).mass.sides (mass_off_to m f e t)

unfoldable pub energy_diagonal_to : Mode → Assembled → ℕ → ℕ → Float
energy_diagonal_to m f v zero = lit 0
energy_diagonal_to m f v (suc t) =
    add_correction m.holomorphic v (f.corners t) (terms_at m f t).correction
    (add_corners v (f.corners t) (terms_at m f t).energy.corners (energy_diagonal_to m f v t))

unfoldable pub energy_off_to : Mode → Assembled → ℕ → ℕ → Complex
energy_off_to m f e zero = czero
energy_off_to m f e (suc t) = add_sides e (f.numbers t) (terms_at m f t).energy.sides (energy_off_to m f e t)

-- ---- the matrices of n points and t triangles, whose sides have the lower ends a and the upper ends b

unfoldable pub mass_matrix : Mode → Assembled → ℕ → ℕ → List ℕ → List ℕ → Matrix
mass_matrix m f n t a b = record {
  diagonal = tab (λ v. mass_diagonal_to m f v t) n;
  off = tab (λ e. mass_off_to m f e t) (length a);
  edge_a = a;
  edge_b = b;
}

unfoldable pub energy_matrix : Mode → Assembled → ℕ → ℕ → List ℕ → List ℕ → Matrix
energy_matrix m f n t a b = record {
  diagonal = tab (λ v. energy_diagonal_to m f v t) n;
  off = tab (λ e. energy_off_to m f e t) (length a);
  edge_a = a;
  edge_b = b;
}
