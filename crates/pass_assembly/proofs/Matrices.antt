-- What a caller reads of the slice once the matrices are assembled: the two matrices, and all else as it was. Assumes nothing.
use Prim.Native.Nat.{ℕ, ◌+◌, ◌*◌, ◌≤◌}
use native.Mathlib.Omega.{arith}
use mathlib.Core.Path.{◌≡◌, refl, sym, ap, ◌∙◌}
use mathlib.Core.List.{List}
use lib.ListN.{length}
use lib.Ieee.{Float, nan}
use Rattle.complex.specs.declared.Complex.{Complex}
use Rattle.pass_terms.specs.declared.Mode.{Mode}
use Rattle.linear_cells.specs.Region.{region, put}
use Rattle.linear_cells.specs.Cell.{flat, region_c}
use Rattle.linear_cells.specs.Spans.{laid}
use Rattle.linear_cells.proofs.Loops.{apart}
use Rattle.linear_cells.proofs.Regions.{region-else}
use Rattle.linear_cells.proofs.Cells.{length-flat}
use Rattle.linear_hermitian.specs.declared.Hermitian.{Hermitian}
use Rattle.linear_hermitian.specs.Work.{matrix}
use Rattle.pass_assembly.specs.declared.AssemblyPlan.{AssemblyPlan}
use Rattle.pass_assembly.specs.Assembly.{Assembled, mass_matrix, energy_matrix}
use Rattle.pass_assembly.specs.Work.{Sums, floor_from, lay, sums_to, assembled_to, AssemblyRoom}
use Rattle.pass_assembly.proofs.Lays.{Sized, get-mass-diagonal, get-mass-off, get-energy-diagonal, get-energy-off, length-lay, lay-region}
use Rattle.pass_assembly.proofs.Sums.{SameTo, sums-sized, sums_same}

-- ---- the matrices, of floors whose triangles add the same

of-mass : (m : Mode) (f : Assembled) (n e t : ℕ) (a b : List ℕ) → length a ≡ e
    → record { diagonal = (sums_to m f n e t).mass_diagonal; off = (sums_to m f n e t).mass_off; edge_a = a; edge_b = b } ≡ mass_matrix m f n t a b
unfolding sums_to mass_matrix
of-mass m f n e t a b k = rw k

of-energy : (m : Mode) (f : Assembled) (n e t : ℕ) (a b : List ℕ) → length a ≡ e
    → record { diagonal = (sums_to m f n e t).energy_diagonal; off = (sums_to m f n e t).energy_off; edge_a = a; edge_b = b } ≡ energy_matrix m f n t a b
unfolding sums_to energy_matrix
of-energy m f n e t a b k = rw k

pub mass-same : (m : Mode) (f g : Assembled) (n t : ℕ) (a b : List ℕ) → SameTo m f g t → mass_matrix m f n t a b ≡ mass_matrix m g n t a b
mass-same m f g n t a b h =
    sym (of-mass m f n (length a) t a b refl)
    ∙ ap (λ (s : Sums). record { diagonal = s.mass_diagonal; off = s.mass_off; edge_a = a; edge_b = b }) (sums_same m f g n (length a) t h)
    ∙ of-mass m g n (length a) t a b refl

pub energy-same : (m : Mode) (f g : Assembled) (n t : ℕ) (a b : List ℕ) → SameTo m f g t → energy_matrix m f n t a b ≡ energy_matrix m g n t a b
energy-same m f g n t a b h =
    sym (of-energy m f n (length a) t a b refl)
    ∙ ap (λ (s : Sums). record { diagonal = s.energy_diagonal; off = s.energy_off; edge_a = a; edge_b = b }) (sums_same m f g n (length a) t h)
    ∙ of-energy m g n (length a) t a b refl

-- a matrix by what its two regions hold
matrix-by : (w : List Float) (h : Hermitian) (a b : List ℕ) {d : List Float} {o : List Complex} → region nan w h.diagonal h.size ≡ d → region_c w h.off h.edges ≡ o
    → matrix w h a b ≡ record { diagonal = d; off = o; edge_a = a; edge_b = b }
unfolding matrix
matrix-by w h a b p q = λ i. record { diagonal = p i; off = q i; edge_a = a; edge_b = b }

module _ (m : Mode) (w : List Float) (u : List ℕ) (l : AssemblyPlan) (mass energy : Hermitian) {lenu : ℕ} (ok : AssemblyRoom (length w) lenu l mass energy) (t : ℕ) where
  sized : Sized mass energy (sums_to m (floor_from w u l mass.edges) mass.size mass.edges t)
  sized = sums-sized m (floor_from w u l mass.edges) t mass energy ok.matrices.one_size ok.matrices.one-graph

  pub mass-matrix : (a b : List ℕ) → length a ≡ mass.edges
      → matrix (assembled_to m w u l mass energy t) mass a b ≡ mass_matrix m (floor_from w u l mass.edges) mass.size t a b
  unfolding assembled_to
  mass-matrix a b k =
      let f : Assembled = floor_from w u l mass.edges in
      let v : Sums = sums_to m f mass.size mass.edges t in
      matrix-by (lay w mass energy v) mass a b (get-mass-diagonal w mass energy ok.matrices v sized) (get-mass-off w mass energy ok.matrices v sized)
      ∙ of-mass m f mass.size mass.edges t a b k

  pub energy-matrix : (a b : List ℕ) → length a ≡ mass.edges
      → matrix (assembled_to m w u l mass energy t) energy a b ≡ energy_matrix m (floor_from w u l mass.edges) mass.size t a b
  unfolding assembled_to
  energy-matrix a b k =
      let f : Assembled = floor_from w u l mass.edges in
      let v : Sums = sums_to m f mass.size mass.edges t in
      matrix-by (lay w mass energy v) energy a b (get-energy-diagonal w mass energy ok.matrices v sized) (get-energy-off w mass energy ok.matrices v sized)
      ∙ of-energy m f mass.size mass.edges t a b k

  -- ---- all else

  pub assembled-length : length (assembled_to m w u l mass energy t) ≡ length w
  unfolding assembled_to
  assembled-length = length-lay w mass energy _

  pub assembled-below : (b n : ℕ) → b + n ≤ mass.diagonal → region nan (assembled_to m w u l mass energy t) b n ≡ region nan w b n
  unfolding assembled_to
  assembled-below b n h = lay-region w mass energy ok.matrices (sums_to m (floor_from w u l mass.edges) mass.size mass.edges t) sized b n h

  pub assembled-above : (b n : ℕ) → energy.off + 2 * energy.edges ≤ b → region nan (assembled_to m w u l mass energy t) b n ≡ region nan w b n
  unfolding assembled_to lay laid
  assembled-above b n h =
      let r = ok.matrices.matrices-in in
      let v : Sums = sums_to m (floor_from w u l mass.edges) mass.size mass.edges t in
      let w₁ : List Float = put w energy.off (flat v.energy_off) in
      let w₂ : List Float = put w₁ energy.diagonal v.energy_diagonal in
      let w₃ : List Float = put w₂ mass.off (flat v.mass_off) in
      region-else w₃ mass.diagonal v.mass_diagonal sized.mass-n nan b n (omega (arith, apart))
      ∙ region-else w₂ mass.off (flat v.mass_off) (length-flat v.mass_off sized.mass-e) nan b n (omega (arith, apart))
      ∙ region-else w₁ energy.diagonal v.energy_diagonal sized.energy-n nan b n (omega (arith, apart))
      ∙ region-else w energy.off (flat v.energy_off) (length-flat v.energy_off sized.energy-e) nan b n (omega (arith, apart))
