-- The floor that the slices hold, where they hold lists: the matrices are those of the lists. Assumes nothing.
use Prim.Native.Nat.{ℕ, zero, suc, ◌+◌, ◌*◌, ◌≤◌, ◌<◌}
use native.Mathlib.Omega.{arith}
use native.Mathlib.Decide.{dec_le, ℕ_discrete}
use mathlib.Core.Path.{◌≡◌, sym, ap, ◌∙◌}
use mathlib.Core.List.{List}
use lib.ListN.{length, get_or}
use lib.Ieee.{Float, nan}
use Rattle.complex.specs.declared.Complex.{Complex}
use Rattle.complex.specs.Complex.{cnan}
use Rattle.mesh.specs.Mesh.{Side, Tri, tri, key}
use Rattle.mesh.proofs.Theorem.{index_below}
use Rattle.edges.specs.Numbering.{tri_from, Below}
use Rattle.edges.specs.Table.{NumbersOf}
use Rattle.geometry.specs.Triangle.{at}
use Rattle.pass_geometries.specs.Work.{coords_from}
use Rattle.pass_terms.specs.declared.Mode.{Mode}
use Rattle.linear_cells.specs.Region.{region}
use Rattle.linear_cells.specs.Cell.{get_c, region_c}
use Rattle.linear_cells.proofs.Regions.{get_or-region}
use Rattle.linear_cells.proofs.Cells.{get_or-region_c}
use Rattle.linear_hermitian.specs.declared.Hermitian.{Hermitian}
use Rattle.linear_hermitian.specs.Work.{matrix}
use Rattle.pass_assembly.specs.declared.Triple.{Triple}
use Rattle.pass_assembly.specs.declared.AssemblyPlan.{AssemblyPlan}
use Rattle.pass_assembly.specs.Lists.{triple_of, number_in, numbers_in, assembled_of}
use Rattle.pass_assembly.specs.Assembly.{mass_matrix, energy_matrix}
use Rattle.pass_assembly.specs.Work.{triple_from, floor_from, assembled_to, AssemblyRoom, Indexed}
use Rattle.pass_assembly.proofs.Sums.{SameTo}
use Rattle.pass_assembly.proofs.Floors.{within, terms-agree}
use Rattle.pass_assembly.proofs.Matrices.{mass-same, energy-same, mass-matrix, energy-matrix}

-- n points, e sides and the triangles of a plan stand in the slices
pub record Holds (w : List Float) (u : List ℕ) (l : AssemblyPlan) (n e : ℕ) (xs ys : List Float) (ts : List Tri) (areas : List Float) (sides : List Side) (rs : List Complex) : Type 0 where
  pub all-x : region nan w l.x n ≡ xs
  pub all-y : region nan w l.y n ≡ ys
  pub all-areas : region nan w l.areas l.triangles ≡ areas
  pub all-transports : region_c w l.transports e ≡ rs
  pub corners : (t : ℕ) → t < l.triangles → tri_from l.corners u t ≡ get_or ts t (tri 0 0 0)
  pub numbers : (t : ℕ) → t < l.triangles
      → NumbersOf (get_or ts t (tri 0 0 0)) sides (get_or u (l.numbers + 3 * t) 0) (get_or u (l.numbers + 3 * t + 1) 0) (get_or u (l.numbers + 3 * t + 2) 0)

numbers-in : (s : Tri) (l : List Side) (p q r : ℕ) → NumbersOf s l p q r → ◌≡◌ {A = Triple} (record { i = p; j = q; k = r }) (numbers_in l s)
unfolding number_in
numbers-in (tri a b c) l p q r h = sym (rw (h.0, h.1, h.2))

pub floor-lists : (m : Mode) (w : List Float) (u : List ℕ) (l : AssemblyPlan) (n e : ℕ) (xs ys : List Float) (ts : List Tri) (areas : List Float) (sides : List Side) (rs : List Complex)
    → Indexed u l n e → Holds w u l n e xs ys ts areas sides rs → SameTo m (floor_from w u l e) (assembled_of xs ys ts areas sides rs) l.triangles
unfolding floor_from assembled_of
floor-lists m w u l n e xs ys ts areas sides rs ix h t k =
    let c = within n l.corners u t l.triangles ix.points k in
    let s = within e l.numbers u t l.triangles ix.sides k in
    let cs : triple_from l.corners u t ≡ triple_of (get_or ts t (tri 0 0 0)) = ap triple_of (h.corners t k) in
    let ns : triple_from l.numbers u t ≡ numbers_in sides (get_or ts t (tri 0 0 0)) = numbers-in (get_or ts t (tri 0 0 0)) sides _ _ _ (h.numbers t k) in (
      cs,
      (
        ns,
        terms-agree m (floor_from w u l e) (assembled_of xs ys ts areas sides rs) t cs ns (sym (get_or-region w l.areas l.triangles t nan k) ∙ ap (λ v. get_or v t nan) h.all-areas) (record {
          p = point (get_or u (l.corners + 3 * t) 0) c.0;
          q = point (get_or u (l.corners + 3 * t + 1) 0) c.1.0;
          r = point (get_or u (l.corners + 3 * t + 2) 0) c.1.1;
          ij = transport (get_or u (l.numbers + 3 * t) 0) s.0;
          jk = transport (get_or u (l.numbers + 3 * t + 1) 0) s.1.0;
          ki = transport (get_or u (l.numbers + 3 * t + 2) 0) s.1.1;
        }),
      ),
    )
  where
    plane : (b v : ℕ) (vs : List Float) → region nan w b n ≡ vs → v < n → coords_from w b v ≡ get_or vs v nan
    plane b v vs q r = sym (get_or-region w b n v nan r) ∙ ap (λ o. get_or o v nan) q

    point : (v : ℕ) → v < n → at (coords_from w l.x) (coords_from w l.y) v ≡ at (λ v. get_or xs v nan) (λ v. get_or ys v nan) v
    point v q = rw (plane l.x v xs h.all-x q, plane l.y v ys h.all-y q)

    transport : (v : ℕ) → v < e → get_c w l.transports e v ≡ get_or rs v cnan
    transport v q = sym (get_or-region_c w l.transports e v q) ∙ ap (λ o. get_or o v cnan) h.all-transports

-- ---- the matrices

module _ (m : Mode) (w : List Float) (u : List ℕ) (l : AssemblyPlan) (mass energy : Hermitian) {lenu : ℕ} (ok : AssemblyRoom (length w) lenu l mass energy) (ix : Indexed u l mass.size mass.edges)
    (xs ys : List Float) (ts : List Tri) (areas : List Float) (sides : List Side) (rs : List Complex) (h : Holds w u l mass.size mass.edges xs ys ts areas sides rs) where
  pub mass-lists : (a b : List ℕ) → length a ≡ mass.edges
      → matrix (assembled_to m w u l mass energy l.triangles) mass a b ≡ mass_matrix m (assembled_of xs ys ts areas sides rs) mass.size l.triangles a b
  mass-lists a b k =
      mass-matrix m w u l mass energy ok l.triangles a b k
      ∙ mass-same m (floor_from w u l mass.edges) (assembled_of xs ys ts areas sides rs) mass.size l.triangles a b (floor-lists m w u l mass.size mass.edges xs ys ts areas sides rs ix h)

  pub energy-lists : (a b : List ℕ) → length a ≡ mass.edges
      → matrix (assembled_to m w u l mass energy l.triangles) energy a b ≡ energy_matrix m (assembled_of xs ys ts areas sides rs) mass.size l.triangles a b
  energy-lists a b k =
      energy-matrix m w u l mass energy ok l.triangles a b k
      ∙ energy-same m (floor_from w u l mass.edges) (assembled_of xs ys ts areas sides rs) mass.size l.triangles a b (floor-lists m w u l mass.size mass.edges xs ys ts areas sides rs ix h)

-- ---- belongs in crate edges: the numbers that `NumberedTo` says of are those of sides

three-below : (s : Tri) (l : List Side) (p q r : ℕ) → NumbersOf s l p q r → (p < length l) × ((q < length l) × (r < length l))
three-below (tri a b c) l p q r h = (index_below (key a b) l p h.0, (index_below (key b c) l q h.1, index_below (key c a) l r h.2))

pub numbers-below : (ts : ℕ → Tri) (l : List Side) (b : ℕ) (u : List ℕ) (t : ℕ)
    → ((i : ℕ) → i < t → NumbersOf (ts i) l (get_or u (b + 3 * i) 0) (get_or u (b + 3 * i + 1) 0) (get_or u (b + 3 * i + 2) 0)) → Below (length l) b u (3 * t)
numbers-below ts l b u zero h j k = absurd (omega arith)
numbers-below ts l b u (suc t) h j k = go (numbers-below ts l b u t (λ i q. h i (omega arith)) j) (dec_le (3 * t) j) (ℕ_discrete j (3 * t)) (ℕ_discrete j (3 * t + 1))
  where
    z : (get_or u (b + 3 * t) 0 < length l) × ((get_or u (b + 3 * t + 1) 0 < length l) × (get_or u (b + 3 * t + 2) 0 < length l))
    z = three-below (ts t) l _ _ _ (h t (omega arith))

    at : (i : ℕ) → i ≡ b + j → get_or u i 0 < length l → get_or u (b + j) 0 < length l
    at i e q = rw e at q

    go : (j < 3 * t → get_or u (b + j) 0 < length l) → Dec (3 * t ≤ j) → Dec (j ≡ 3 * t) → Dec (j ≡ 3 * t + 1) → get_or u (b + j) 0 < length l
    go below (no f) c d = below (omega arith)
    go below (yes f) (yes c) d = at (b + 3 * t) (omega arith) z.0
    go below (yes f) (no c) (yes d) = at (b + 3 * t + 1) (omega arith) z.1.0
    go below (yes f) (no c) (no d) = at (b + 3 * t + 2) (omega arith) z.1.1
