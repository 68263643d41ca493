-- How the work slices hold a floor and the two matrices, what the functions require of them, and the iterations of the loop on lists; what the traces' check answers. Definitions only.
use Rattle.std.specs.Prelude.{ℕ, ◌+◌, ◌*◌, ◌≤◌, ◌<◌, ◌≡◌, cond, List, [], ◌∷◌, get_or, set, replicate, Float, Ok, Err}
use Rattle.std.specs.Float.{nan}
use Rattle.float.specs.Double.{lit, not_positive, ◌⊕◌}
use Rattle.complex.specs.declared.Complex.{Complex}
use Rattle.complex.specs.Complex.{cnan, cadd}
use Rattle.edges.specs.Numbering.{Below}
use Rattle.pass_geometries.specs.Work.{coords_from}
use Rattle.pass_terms.specs.declared.Mode.{Mode}
use Rattle.pass_terms.specs.declared.Corners.{Corners}
use Rattle.pass_terms.specs.declared.Sides.{Sides}
use Rattle.pass_terms.specs.declared.Terms.{Terms}
use Rattle.pass_terms.specs.declared.Part.{Part}
use Rattle.pass_terms.specs.Terms.{is_plain}
use Rattle.linear_cells.specs.Region.{tab, region, put}
use Rattle.linear_cells.specs.Cell.{get_c, flat, region_c, put_c}
use Rattle.linear_cells.specs.Spans.{Span, span, laid, Ranged}
use Rattle.linear_hermitian.specs.declared.Hermitian.{Hermitian}
use Rattle.refusals.specs.Refusal.{gave_up, Verdict}
use Rattle.pass_assembly.specs.declared.Triple.{Triple}
use Rattle.pass_assembly.specs.declared.AssemblyPlan.{AssemblyPlan}
use Rattle.pass_assembly.specs.declared.shift.Traces.{Traces}
use Rattle.pass_assembly.specs.Assembly.{Assembled, thrice, terms_on, mass_diagonal_to, mass_off_to, energy_diagonal_to, energy_off_to}

-- ---- the floor

abbrev pub triple_from : ℕ → List ℕ → ℕ → Triple
triple_from b u t = record { i = get_or u (b + 3 * t) 0; j = get_or u (b + 3 * t + 1) 0; k = get_or u (b + 3 * t + 2) 0 }

-- its e sides have their transports in one vector
unfoldable pub floor_from : List Float → List ℕ → AssemblyPlan → ℕ → Assembled
floor_from w u l e = record {
  x = coords_from w l.x;
  y = coords_from w l.y;
  corners = triple_from l.corners u;
  areas = coords_from w l.areas;
  numbers = triple_from l.numbers u;
  transports = get_c w l.transports e;
}

-- what triangle t adds
unfoldable pub terms_from : Mode → List Float → AssemblyPlan → ℕ → Triple → Triple → ℕ → Terms
terms_from m w l e c s t = terms_on m (coords_from w l.x) (coords_from w l.y) (get_c w l.transports e) c s (coords_from w l.areas t)

-- ---- the two matrices

pub record Sums : Type 0 where
  pub mass_diagonal : List Float
  pub mass_off : List Complex
  pub energy_diagonal : List Float
  pub energy_off : List Complex

abbrev pub bases : Hermitian → Hermitian → List Span
bases mass energy =
    span mass.diagonal mass.size ∷ span mass.off (2 * mass.edges) ∷ span energy.diagonal energy.size ∷ span energy.off (2 * energy.edges) ∷ []

abbrev pub vectors : Sums → List (List Float)
vectors s = s.mass_diagonal ∷ flat s.mass_off ∷ s.energy_diagonal ∷ flat s.energy_off ∷ []

unfoldable pub read : List Float → Hermitian → Hermitian → Sums
read w mass energy = record {
  mass_diagonal = region nan w mass.diagonal mass.size;
  mass_off = region_c w mass.off mass.edges;
  energy_diagonal = region nan w energy.diagonal energy.size;
  energy_off = region_c w energy.off energy.edges;
}

-- w with both matrices replaced
unfoldable pub lay : List Float → Hermitian → Hermitian → Sums → List Float
lay w mass energy s = laid w (bases mass energy) (vectors s)

-- the sums over the first t triangles, for n points and e sides
unfoldable pub sums_to : Mode → Assembled → ℕ → ℕ → ℕ → Sums
sums_to m f n e t = record {
  mass_diagonal = tab (λ v. mass_diagonal_to m f v t) n;
  mass_off = tab (λ s. mass_off_to m f s t) e;
  energy_diagonal = tab (λ v. energy_diagonal_to m f v t) n;
  energy_off = tab (λ s. energy_off_to m f s t) e;
}

-- w with the matrices of its floor: their values are those of `mass_of` and `energy_of`, and all else is as it was
unfoldable pub assembled_to : Mode → List Float → List ℕ → AssemblyPlan → Hermitian → Hermitian → ℕ → List Float
assembled_to m w u l mass energy t = lay w mass energy (sums_to m (floor_from w u l mass.edges) mass.size mass.edges t)

-- ---- what is required

-- the two matrices, of one size, one after the other
pub record AddRoom (len : ℕ) (mass energy : Hermitian) : Type 0 where
  pub matrices-in : Ranged mass.diagonal len (bases mass energy)
  pub one_size : energy.size ≡ mass.size
  pub one-graph : energy.edges ≡ mass.edges

-- the planes lie below the two matrices, which are of one size and come one after the other
pub record AssemblyRoom (lenw lenu : ℕ) (l : AssemblyPlan) (mass energy : Hermitian) : Type 0 where
  pub x_below : l.x + mass.size ≤ mass.diagonal
  pub y-below : l.y + mass.size ≤ mass.diagonal
  pub areas-below : l.areas + l.triangles ≤ mass.diagonal
  pub transports-below : l.transports + 2 * mass.edges ≤ mass.diagonal
  pub matrices : AddRoom lenw mass energy
  pub corners-in : l.corners + 3 * l.triangles ≤ lenu
  pub numbers-in : l.numbers + 3 * l.triangles ≤ lenu

-- every corner is a point, and every number that of a side
pub record Indexed (u : List ℕ) (l : AssemblyPlan) (n e : ℕ) : Type 0 where
  pub points : Below n l.corners u (3 * l.triangles)
  pub sides : Below e l.numbers u (3 * l.triangles)

-- three indices below n
abbrev pub Within : ℕ → Triple → Type 0
Within n c = (c.i < n) × ((c.j < n) × (c.k < n))

-- a matrix lies in a slice, its diagonal before what is off it
abbrev pub MatrixIn : ℕ → Hermitian → Type 0
MatrixIn len h = (h.diagonal + h.size ≤ h.off) × (h.off + 2 * h.edges ≤ len)

-- what one triangle's terms are read from
pub record TermsIn (len : ℕ) (l : AssemblyPlan) (n e t : ℕ) : Type 0 where
  pub x-in : l.x + n ≤ len
  pub y-in : l.y + n ≤ len
  pub area_in : l.areas + t < len
  pub transports-in : l.transports + 2 * e ≤ len

-- ---- turns

abbrev pub add_in : {A : Type 0} → (A → A → A) → A → List A → ℕ → A → List A
add_in plus d xs i x = set xs i (plus (get_or xs i d) x)

-- a triangle's terms added to the values at its corners, and to those of its sides
unfoldable pub corners_added : Triple → Corners → List Float → List Float
corners_added c d v = add_in ◌⊕◌ nan (add_in ◌⊕◌ nan (add_in ◌⊕◌ nan v c.i d.i) c.j d.j) c.k d.k

unfoldable pub sides_added : Triple → Sides → List Complex → List Complex
sides_added s z v = add_in cadd cnan (add_in cadd cnan (add_in cadd cnan v s.i z.ij) s.j z.jk) s.k z.ki

unfoldable pub correction_added : Float → Triple → Float → List Float → List Float
correction_added h c x v = cond (is_plain h) v (corners_added c (thrice x) v)

-- w with a part added to the matrix at h
unfoldable pub part_added : Hermitian → Triple → Triple → Part → List Float → List Float
part_added h c s p w =
    put_c
    (put w h.diagonal (corners_added c p.corners (region nan w h.diagonal h.size)))
    h.off
    (sides_added s p.sides (region_c w h.off h.edges))

unfoldable pub added : Float → Triple → Triple → Terms → Sums → Sums
added h c s z v = record {
  mass_diagonal = corners_added c z.mass.corners v.mass_diagonal;
  mass_off = sides_added s z.mass.sides v.mass_off;
  energy_diagonal = correction_added h c z.correction (corners_added c z.energy.corners v.energy_diagonal);
  energy_off = sides_added s z.energy.sides v.energy_off;
}

-- w with triangle t added to both matrices
unfoldable pub triangle_added : Mode → List ℕ → AssemblyPlan → Hermitian → Hermitian → ℕ → List Float → List Float
triangle_added m u l mass energy t w =
    lay w mass energy
    (added m.holomorphic (triple_from l.corners u t) (triple_from l.numbers u t)
    (terms_from m w l mass.edges (triple_from l.corners u t) (triple_from l.numbers u t) t)
    (read w mass energy))

-- a matrix of zeros
unfoldable pub cleared : Hermitian → List Float → List Float
cleared h w = put (put w h.diagonal (replicate h.size (lit 0))) h.off (replicate (2 * h.edges) (lit 0))

-- ---- the traces

-- what `check` answers: reason 1, and then reason 2
unfoldable pub traces_stage : Traces → Verdict
traces_stage t = cond (not_positive t.energy) (Err (gave_up 1 0)) (cond (not_positive t.mass) (Err (gave_up 2 0)) (Ok tt))

pub record TraceRoom (len : ℕ) (mass energy : Hermitian) : Type 0 where
  pub mass-in : mass.diagonal + mass.size ≤ len
  pub energy-in : energy.diagonal + energy.size ≤ len
