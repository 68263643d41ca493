-- A triangle added to both matrices, all of them, and the matrices that stand there then. Assumes nothing.
use Prim.Native.Nat.{ℕ, ◌+◌, ◌≤◌, ◌<◌}
use native.Mathlib.Omega.{arith}
use mathlib.Core.Path.{◌≡◌, refl, sym, ap, ◌∙◌}
use mathlib.Core.List.{List}
use lib.ListN.{length, length-replicate, get_or, replicate}
use lib.Ieee.{Float, nan}
use Rattle.float.specs.Double.{lit}
use Rattle.complex.specs.Complex.{czero}
use Rattle.pass_terms.specs.declared.Mode.{Mode}
use Rattle.pass_terms.specs.declared.Part.{Part}
use Rattle.pass_terms.specs.declared.Terms.{Terms}
use Rattle.linear_cells.specs.Region.{region, put}
use Rattle.linear_cells.proofs.Changes.{zeros as vector-zeros}
use Rattle.linear_hermitian.specs.declared.Hermitian.{Hermitian}
use Rattle.pass_assembly.specs.declared.Triple.{Triple}
use Rattle.pass_assembly.specs.declared.AssemblyPlan.{AssemblyPlan}
use Rattle.pass_assembly.specs.Assembly.{Assembled, terms_at}
use Rattle.pass_assembly.specs.Work.{Sums, triple_from, floor_from, terms_from, read, lay, sums_to, assembled_to, AddRoom, AssemblyRoom, Indexed}
use Rattle.pass_assembly.specs.Work.{corners_added, sides_added, correction_added, part_added, added, triangle_added, cleared}
use Rattle.pass_assembly.proofs.Adds.{length-corners_added, length-sides_added, length-correction_added}
use Rattle.pass_assembly.proofs.Lays.{Sized, read-sized, lay-read, length-lay, get-all, get-mass-diagonal, get-mass-off, get-energy-diagonal, get-energy-off, put-mass-diagonal, put-mass-off, put-energy-diagonal, put-energy-off, lay-then, lay-below}
use Rattle.pass_assembly.proofs.Sums.{sums-sized, zeros, sums_none, sums-more, sums_same}
use Rattle.pass_assembly.proofs.Floors.{within, floor-same}

-- ---- one triangle's terms

abbrev with_mass : List Float → Sums → Sums
with_mass d s = record { mass_diagonal = d; mass_off = s.mass_off; energy_diagonal = s.energy_diagonal; energy_off = s.energy_off }

module _ (w : List Float) (mass energy : Hermitian) (ok : AddRoom (length w) mass energy) (v : Sums) (y : Sized mass energy v) (c s : Triple) where
  massed : (p : Part) → Sums
  massed p = record { mass_diagonal = corners_added c p.corners v.mass_diagonal; mass_off = sides_added s p.sides v.mass_off; energy_diagonal = v.energy_diagonal; energy_off = v.energy_off }

  energised : (p : Part) → Sums
  energised p = record { mass_diagonal = v.mass_diagonal; mass_off = v.mass_off; energy_diagonal = corners_added c p.corners v.energy_diagonal; energy_off = sides_added s p.sides v.energy_off }

  corrected : Float → Float → Sums
  corrected h x = record { mass_diagonal = v.mass_diagonal; mass_off = v.mass_off; energy_diagonal = correction_added h c x v.energy_diagonal; energy_off = v.energy_off }

  massed-sized : (p : Part) → Sized mass energy (massed p)
  unfolding massed
  massed-sized p = record {
    mass-n = length-corners_added c p.corners v.mass_diagonal ∙ y.mass-n;
    mass-e = length-sides_added s p.sides v.mass_off ∙ y.mass-e;
    energy-n = y.energy-n;
    energy-e = y.energy-e;
  }

  energised-sized : (p : Part) → Sized mass energy (energised p)
  unfolding energised
  energised-sized p = record {
    mass-n = y.mass-n;
    mass-e = y.mass-e;
    energy-n = length-corners_added c p.corners v.energy_diagonal ∙ y.energy-n;
    energy-e = length-sides_added s p.sides v.energy_off ∙ y.energy-e;
  }

  corrected-sized : (h x : Float) → Sized mass energy (corrected h x)
  unfolding corrected
  corrected-sized h x = record {
    mass-n = y.mass-n;
    mass-e = y.mass-e;
    energy-n = length-correction_added h c x v.energy_diagonal ∙ y.energy-n;
    energy-e = y.energy-e;
  }

  part-mass : (p : Part) → part_added mass c s p (lay w mass energy v) ≡ lay w mass energy (massed p)
  unfolding part_added massed
  part-mass p =
      let k : length (corners_added c p.corners v.mass_diagonal) ≡ mass.size = length-corners_added c p.corners v.mass_diagonal ∙ y.mass-n in
      let half : Sums = with_mass (corners_added c p.corners v.mass_diagonal) v in
      let z : Sized mass energy half = record { mass-n = k; mass-e = y.mass-e; energy-n = y.energy-n; energy-e = y.energy-e } in
      rw (get-mass-diagonal w mass energy ok v y, get-mass-off w mass energy ok v y, put-mass-diagonal w mass energy ok v y (corners_added c p.corners v.mass_diagonal) k)
      (put-mass-off w mass energy ok half z (sides_added s p.sides v.mass_off) (length-sides_added s p.sides v.mass_off ∙ y.mass-e))

  part-energy : (p : Part) → part_added energy c s p (lay w mass energy v) ≡ lay w mass energy (energised p)
  unfolding part_added energised
  part-energy p =
      let d : List Float = corners_added c p.corners v.energy_diagonal in
      let k : length d ≡ energy.size = length-corners_added c p.corners v.energy_diagonal ∙ y.energy-n in
      let half : Sums = record { mass_diagonal = v.mass_diagonal; mass_off = v.mass_off; energy_diagonal = d; energy_off = v.energy_off } in
      let z : Sized mass energy half = record { mass-n = y.mass-n; mass-e = y.mass-e; energy-n = k; energy-e = y.energy-e } in
      rw (get-energy-diagonal w mass energy ok v y, get-energy-off w mass energy ok v y, put-energy-diagonal w mass energy ok v y d k)
      (put-energy-off w mass energy ok half z (sides_added s p.sides v.energy_off) (length-sides_added s p.sides v.energy_off ∙ y.energy-e))

  correction-energy : (h x : Float)
      → put (lay w mass energy v) energy.diagonal (correction_added h c x (region nan (lay w mass energy v) energy.diagonal energy.size)) ≡ lay w mass energy (corrected h x)
  unfolding corrected
  correction-energy h x =
      rw (get-energy-diagonal w mass energy ok v y)
      (put-energy-diagonal w mass energy ok v y (correction_added h c x v.energy_diagonal) (length-correction_added h c x v.energy_diagonal ∙ y.energy-n))

pub terms-all : (w : List Float) (mass energy : Hermitian) → AddRoom (length w) mass energy → (c s : Triple) (h : Float) (z : Terms) {w₁ w₂ w₃ : List Float}
    → w₁ ≡ part_added mass c s z.mass w → w₂ ≡ part_added energy c s z.energy w₁
    → w₃ ≡ put w₂ energy.diagonal (correction_added h c z.correction (region nan w₂ energy.diagonal energy.size))
    → w₃ ≡ lay w mass energy (added h c s z (read w mass energy))
unfolding added massed energised corrected
terms-all w mass energy ok c s h z {w₁} {w₂} e₁ e₂ e₃ =
    let v : Sums = read w mass energy in
    let y : Sized mass energy v = read-sized w mass energy in
    let v₁ : Sums = massed w mass energy ok v y c s z.mass in
    let y₁ : Sized mass energy v₁ = massed-sized w mass energy ok v y c s z.mass in
    let v₂ : Sums = energised w mass energy ok v₁ y₁ c s z.energy in
    let y₂ : Sized mass energy v₂ = energised-sized w mass energy ok v₁ y₁ c s z.energy in
    let f₁ : w₁ ≡ lay w mass energy v₁ = e₁ ∙ ap (part_added mass c s z.mass) (lay-read w mass energy) ∙ part-mass w mass energy ok v y c s z.mass in
    let f₂ : w₂ ≡ lay w mass energy v₂ = e₂ ∙ ap (part_added energy c s z.energy) f₁ ∙ part-energy w mass energy ok v₁ y₁ c s z.energy in
    e₃ ∙ rw f₂ (correction-energy w mass energy ok v₂ y₂ c s h z.correction)

-- ---- one triangle

pub triangle-all : (m : Mode) (w : List Float) (u : List ℕ) (l : AssemblyPlan) (mass energy : Hermitian) (t : ℕ) {c s : Triple} {z : Terms} {w₁ : List Float}
    → c ≡ triple_from l.corners u t → s ≡ triple_from l.numbers u t → z ≡ terms_from m w l mass.edges c s t
    → w₁ ≡ lay w mass energy (added m.holomorphic c s z (read w mass energy)) → w₁ ≡ triangle_added m u l mass energy t w
unfolding triangle_added
triangle-all m w u l mass energy t p q r e = e ∙ rw (r, p, q)

-- ---- all of them

module _ (m : Mode) (w : List Float) (u : List ℕ) (l : AssemblyPlan) (mass energy : Hermitian) where
  to-sized : {lenu : ℕ} → AssemblyRoom (length w) lenu l mass energy → (t : ℕ) → Sized mass energy (sums_to m (floor_from w u l mass.edges) mass.size mass.edges t)
  to-sized ok t = sums-sized m (floor_from w u l mass.edges) t mass energy ok.matrices.one_size ok.matrices.one-graph

  pub length_to : (t : ℕ) → length (assembled_to m w u l mass energy t) ≡ length w
  unfolding assembled_to
  length_to t = length-lay w mass energy _

  pub to-again : AssemblyRoom (length w) (length u) l mass energy → Indexed u l mass.size mass.edges → (t : ℕ) → t < l.triangles → {w₁ w₂ : List Float}
      → w₁ ≡ assembled_to m w u l mass energy t → w₂ ≡ triangle_added m u l mass energy t w₁ → w₂ ≡ assembled_to m w u l mass energy (t + 1)
  unfolding assembled_to triangle_added terms_from terms_at floor_from
  to-again ok ix t h {w₁} {w₂} e₁ e₂ =
      let f : Assembled = floor_from w u l mass.edges in
      let v : Sums = sums_to m f mass.size mass.edges t in
      let y : Sized mass energy v = to-sized ok t in
      let c : Triple = triple_from l.corners u t in
      let s : Triple = triple_from l.numbers u t in
      let same = (floor-same w (lay w mass energy v) u l mass energy ok ix (lay-below w mass energy ok.matrices v y) m t h).1.1 in
      e₂ ∙ rw e₁
      (ap (λ z. lay (lay w mass energy v) mass energy (added m.holomorphic c s z (read (lay w mass energy v) mass energy))) same
      ∙ ap (λ z. lay (lay w mass energy v) mass energy (added m.holomorphic c s (terms_at m f t) z)) (get-all w mass energy ok.matrices v y)
      ∙ ap (lay (lay w mass energy v) mass energy) (sums-more m f mass.size mass.edges t (within mass.size l.corners u t l.triangles ix.points h) (within mass.edges l.numbers u t l.triangles ix.sides h))
      ∙ lay-then w mass energy ok.matrices v y (sums_to m f mass.size mass.edges (t + 1)) (to-sized ok (t + 1)))

  pub to-done : {w₁ : List Float} {t : ℕ} → t ≤ l.triangles → l.triangles ≤ t → w₁ ≡ assembled_to m w u l mass energy t → w₁ ≡ assembled_to m w u l mass energy l.triangles
  to-done {w₁} {t} a b e = let z : t ≡ l.triangles = omega arith in e ∙ rw z

-- ---- over what stood there

module _ (w : List Float) (mass energy : Hermitian) (ok : AddRoom (length w) mass energy) (v : Sums) (y : Sized mass energy v) where
  mass-zeros : Sums
  mass-zeros = record { mass_diagonal = replicate mass.size (lit 0); mass_off = replicate mass.edges czero; energy_diagonal = v.energy_diagonal; energy_off = v.energy_off }

  mass-zeros-sized : Sized mass energy mass-zeros
  unfolding mass-zeros
  mass-zeros-sized = record { mass-n = length-replicate mass.size (lit 0); mass-e = length-replicate mass.edges czero; energy-n = y.energy-n; energy-e = y.energy-e }

  clear-mass : cleared mass (lay w mass energy v) ≡ lay w mass energy mass-zeros
  unfolding cleared mass-zeros
  clear-mass =
      let k : length (replicate mass.size (lit 0)) ≡ mass.size = length-replicate mass.size (lit 0) in
      let half : Sums = with_mass (replicate mass.size (lit 0)) v in
      let z : Sized mass energy half = record { mass-n = k; mass-e = y.mass-e; energy-n = y.energy-n; energy-e = y.energy-e } in
      vector-zeros _ mass.off mass.edges refl
      ∙ rw (put-mass-diagonal w mass energy ok v y (replicate mass.size (lit 0)) k)
      (put-mass-off w mass energy ok half z (replicate mass.edges czero) (length-replicate mass.edges czero))

  energy-zeros : Sums
  energy-zeros = record { mass_diagonal = v.mass_diagonal; mass_off = v.mass_off; energy_diagonal = replicate energy.size (lit 0); energy_off = replicate energy.edges czero }

  clear-energy : cleared energy (lay w mass energy v) ≡ lay w mass energy energy-zeros
  unfolding cleared energy-zeros
  clear-energy =
      let d : List Float = replicate energy.size (lit 0) in
      let k : length d ≡ energy.size = length-replicate energy.size (lit 0) in
      let half : Sums = record { mass_diagonal = v.mass_diagonal; mass_off = v.mass_off; energy_diagonal = d; energy_off = v.energy_off } in
      let z : Sized mass energy half = record { mass-n = y.mass-n; mass-e = y.mass-e; energy-n = k; energy-e = y.energy-e } in
      vector-zeros _ energy.off energy.edges refl
      ∙ rw (put-energy-diagonal w mass energy ok v y d k)
      (put-energy-off w mass energy ok half z (replicate energy.edges czero) (length-replicate energy.edges czero))

both-cleared : (w : List Float) (mass energy : Hermitian) → AddRoom (length w) mass energy → {w₁ w₂ : List Float} → w₁ ≡ cleared mass w → w₂ ≡ cleared energy w₁
    → w₂ ≡ lay w mass energy (zeros mass.size mass.edges)
unfolding zeros mass-zeros energy-zeros
both-cleared w mass energy ok {w₁} e₁ e₂ =
    let v : Sums = read w mass energy in
    let y : Sized mass energy v = read-sized w mass energy in
    let f₁ : w₁ ≡ lay w mass energy (mass-zeros w mass energy ok v y) = e₁ ∙ ap (cleared mass) (lay-read w mass energy) ∙ clear-mass w mass energy ok v y in
    e₂ ∙ ap (cleared energy) f₁ ∙ clear-energy w mass energy ok (mass-zeros w mass energy ok v y) (mass-zeros-sized w mass energy ok v y) ∙ rw (ok.one_size, ok.one-graph)

pub cleared-room : (w : List Float) (l : AssemblyPlan) (mass energy : Hermitian) {lenu : ℕ} → AssemblyRoom (length w) lenu l mass energy → {w₁ w₂ : List Float} → w₁ ≡ cleared mass w
    → w₂ ≡ cleared energy w₁ → AssemblyRoom (length w₂) lenu l mass energy
cleared-room w l mass energy ok {w₁} {w₂} e₁ e₂ =
    let k : length w₂ ≡ length w = ap length (both-cleared w mass energy ok.matrices e₁ e₂) ∙ length-lay w mass energy (zeros mass.size mass.edges) in
    rw k ok

module _ (m : Mode) (w : List Float) (u : List ℕ) (l : AssemblyPlan) (mass energy : Hermitian) (ok : AssemblyRoom (length w) (length u) l mass energy) {w₁ w₂ : List Float} (e₁ : w₁ ≡ cleared mass w) (e₂ : w₂ ≡ cleared energy w₁) where
  start : (f : Assembled) → w₂ ≡ lay w mass energy (sums_to m f mass.size mass.edges 0)
  start f = both-cleared w mass energy ok.matrices e₁ e₂ ∙ ap (lay w mass energy) (sums_none m f mass.size mass.edges)

  -- over zeros
  pub cleared-none : w₂ ≡ assembled_to m w₂ u l mass energy 0
  unfolding assembled_to
  cleared-none =
      let f : Assembled = floor_from w₂ u l mass.edges in
      let v : Sums = sums_to m f mass.size mass.edges 0 in
      let y : Sized mass energy v = sums-sized m f 0 mass energy ok.matrices.one_size ok.matrices.one-graph in
      start f ∙ sym (ap (λ t. lay t mass energy v) (start f) ∙ lay-then w mass energy ok.matrices v y v y)

  pub assemble-all : Indexed u l mass.size mass.edges → {w₃ : List Float} → w₃ ≡ assembled_to m w₂ u l mass energy l.triangles → w₃ ≡ assembled_to m w u l mass energy l.triangles
  unfolding assembled_to
  assemble-all ix e₃ =
      let f : Assembled = floor_from w u l mass.edges in
      let v : Sums = sums_to m f mass.size mass.edges 0 in
      let y : Sized mass energy v = sums-sized m f 0 mass energy ok.matrices.one_size ok.matrices.one-graph in
      let z : Sums = sums_to m f mass.size mass.edges l.triangles in
      let below : (j : ℕ) → j < mass.diagonal → get_or w₂ j nan ≡ get_or w j nan =
      λ j h. ap (λ t. get_or t j nan) (start f) ∙ lay-below w mass energy ok.matrices v y j h in
      e₃
      ∙ ap (lay w₂ mass energy) (sums_same m (floor_from w₂ u l mass.edges) f mass.size mass.edges l.triangles (floor-same w w₂ u l mass energy ok ix below m))
      ∙ ap (λ t. lay t mass energy z) (start f)
      ∙ lay-then w mass energy ok.matrices v y z (sums-sized m f l.triangles mass energy ok.matrices.one_size ok.matrices.one-graph)
