-- The floor that a work slice holds: its triangles' indices, and what it is where the slice changes above it. Assumes nothing.
use Prim.Native.Nat.{ℕ, ◌+◌, ◌*◌, ◌≤◌, ◌<◌}
use native.Mathlib.Omega.{arith}
use mathlib.Core.Path.{◌≡◌, refl, sym, ◌∙◌, subst}
use mathlib.Core.List.{List}
use lib.ListN.{get_or}
use lib.Ieee.{Float, nan}
use Rattle.edges.specs.Numbering.{Below}
use Rattle.geometry.specs.Triangle.{at}
use Rattle.pass_geometries.specs.Work.{coords_from}
use Rattle.pass_geometries.proofs.Steps.{corners-below}
use Rattle.pass_terms.specs.declared.Mode.{Mode}
use Rattle.linear_cells.specs.Cell.{get_c}
use Rattle.linear_hermitian.specs.declared.Hermitian.{Hermitian}
use Rattle.pass_assembly.specs.declared.Triple.{Triple}
use Rattle.pass_assembly.specs.declared.AssemblyPlan.{AssemblyPlan}
use Rattle.pass_assembly.specs.Assembly.{Assembled, transports_on, terms_on, terms_at}
use Rattle.pass_assembly.specs.Work.{triple_from, floor_from, Within, AssemblyRoom, TermsIn, Indexed}
use Rattle.pass_assembly.proofs.Sums.{SameTo}

-- the three indices of triangle t
pub within : (n b : ℕ) (u : List ℕ) (t k : ℕ) → Below n b u (3 * k) → t < k → Within n (triple_from b u t)
within n b u t k h l = corners-below n b u t (λ j m. h j (omega arith))

-- ---- two floors with the same triangle t, where their planes agree at what it reads

pub record Agree (f g : Assembled) (c s : Triple) : Type 0 where
  pub p : at f.x f.y c.i ≡ at g.x g.y c.i
  pub q : at f.x f.y c.j ≡ at g.x g.y c.j
  pub r : at f.x f.y c.k ≡ at g.x g.y c.k
  pub ij : f.transports s.i ≡ g.transports s.i
  pub jk : f.transports s.j ≡ g.transports s.j
  pub ki : f.transports s.k ≡ g.transports s.k

terms-on : (m : Mode) (f g : Assembled) (c s : Triple) (a : Float) → Agree f g c s
    → terms_on m f.x f.y f.transports c s a ≡ terms_on m g.x g.y g.transports c s a
unfolding terms_on transports_on
terms-on m f g c s a h = rw (h.p, h.q, h.r, h.ij, h.jk, h.ki)

pub terms-agree : (m : Mode) (f g : Assembled) (t : ℕ) → f.corners t ≡ g.corners t → f.numbers t ≡ g.numbers t → f.areas t ≡ g.areas t
    → Agree f g (f.corners t) (f.numbers t) → terms_at m f t ≡ terms_at m g t
unfolding terms_at
terms-agree m f g t c s a h = terms-on m f g (f.corners t) (f.numbers t) (f.areas t) h ∙ rw (c, s, a)

-- ---- a slice that is the same below the matrices

module _ (w w' : List Float) (u : List ℕ) (l : AssemblyPlan) (mass energy : Hermitian) {lenw lenu : ℕ} (ok : AssemblyRoom lenw lenu l mass energy) (ix : Indexed u l mass.size mass.edges)
    (h : (j : ℕ) → j < mass.diagonal → get_or w' j nan ≡ get_or w j nan) where
  position : (i : ℕ) → i < mass.size → at (coords_from w' l.x) (coords_from w' l.y) i ≡ at (coords_from w l.x) (coords_from w l.y) i
  position i k = rw (h (l.x + i) (omega (arith, ok.x_below)), h (l.y + i) (omega (arith, ok.y-below)))

  transport : (i : ℕ) → i < mass.edges → get_c w' l.transports mass.edges i ≡ get_c w l.transports mass.edges i
  unfolding get_c
  transport i k = rw (h (l.transports + i) (omega (arith, ok.transports-below)), h (l.transports + mass.edges + i) (omega (arith, ok.transports-below)))

  pub floor-same : (m : Mode) → SameTo m (floor_from w' u l mass.edges) (floor_from w u l mass.edges) l.triangles
  unfolding floor_from
  floor-same m t k =
      let c = within mass.size l.corners u t l.triangles ix.points k in
      let s = within mass.edges l.numbers u t l.triangles ix.sides k in (
        refl,
        (
          refl,
          terms-agree m (floor_from w' u l mass.edges) (floor_from w u l mass.edges) t refl refl (h (l.areas + t) (omega (arith, ok.areas-below))) (record {
            p = position (get_or u (l.corners + 3 * t) 0) c.0;
            q = position (get_or u (l.corners + 3 * t + 1) 0) c.1.0;
            r = position (get_or u (l.corners + 3 * t + 2) 0) c.1.1;
            ij = transport (get_or u (l.numbers + 3 * t) 0) s.0;
            jk = transport (get_or u (l.numbers + 3 * t + 1) 0) s.1.0;
            ki = transport (get_or u (l.numbers + 3 * t + 2) 0) s.1.1;
          }),
        ),
      )

-- ---- what is asked of triangle t

pub terms-in : {lenw lenu : ℕ} (l : AssemblyPlan) (mass energy : Hermitian) → AssemblyRoom lenw lenu l mass energy → (t : ℕ) → t < l.triangles → TermsIn lenw l mass.size mass.edges t
terms-in {lenw} l mass energy ok t h =
    let r = ok.matrices.matrices-in in
    let k : mass.diagonal ≤ lenw = omega arith in
    record {
      x-in = omega (arith, ok.x_below);
      y-in = omega (arith, ok.y-below);
      area_in = omega (arith, ok.areas-below);
      transports-in = omega (arith, ok.transports-below);
    }

pub both-within : (u : List ℕ) (l : AssemblyPlan) {n e t : ℕ} {c s : Triple} → Indexed u l n e → t < l.triangles → c ≡ triple_from l.corners u t → s ≡ triple_from l.numbers u t
    → Within n c × Within e s
both-within u l {n} {e} {t} ix h p q =
    (subst (Within n) (sym p) (within n l.corners u t l.triangles ix.points h), subst (Within e) (sym q) (within e l.numbers u t l.triangles ix.sides h))
