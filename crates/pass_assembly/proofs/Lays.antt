-- The work slice as two matrices, each a diagonal and what is off it: one of the four read, one written, all of them. Assumes nothing.
use Prim.Native.Nat.{ℕ, ◌+◌, ◌≤◌, ◌<◌}
use native.Mathlib.Omega.{arith}
use native.Mathlib.Nat.{zero-add}
use mathlib.Core.Path.{◌≡◌, sym, ap, ◌∙◌}
use mathlib.Core.List.{List, []}
use lib.ListN.{length, get_or, set}
use lib.Ieee.{Float, nan}
use Rattle.complex.specs.declared.Complex.{Complex}
use Rattle.linear_cells.specs.Region.{region, put}
use Rattle.linear_cells.specs.Cell.{flat, region_c, put_c}
use Rattle.linear_cells.specs.Spans.{span, contents, laid, Spanned}
use Rattle.linear_cells.proofs.Regions.{length-region, get_or-region}
use Rattle.linear_cells.proofs.Cells.{length-flat, length-region_c, flat-region_c, region_c-flat}
use Rattle.linear_cells.proofs.Rows.{laid-rows, laid-below, laid-at, laid-set, laid-laid, length-laid}
use Rattle.linear_hermitian.specs.declared.Hermitian.{Hermitian}
use Rattle.pass_assembly.specs.Work.{Sums, bases, vectors, read, lay, AddRoom}

-- each list has its region's size
pub record Sized (mass energy : Hermitian) (s : Sums) : Type 0 where
  pub mass-n : length s.mass_diagonal ≡ mass.size
  pub mass-e : length s.mass_off ≡ mass.edges
  pub energy-n : length s.energy_diagonal ≡ energy.size
  pub energy-e : length s.energy_off ≡ energy.edges

rowed : (mass energy : Hermitian) (s : Sums) → Sized mass energy s → Spanned (bases mass energy) (vectors s)
rowed mass energy s z = (z.mass-n, (length-flat s.mass_off z.mass-e, (z.energy-n, (length-flat s.energy_off z.energy-e, tt))))

pub read-sized : (w : List Float) (mass energy : Hermitian) → Sized mass energy (read w mass energy)
unfolding read
read-sized w mass energy = record {
  mass-n = length-region nan w mass.diagonal mass.size;
  mass-e = length-region_c w mass.off mass.edges;
  energy-n = length-region nan w energy.diagonal energy.size;
  energy-e = length-region_c w energy.off energy.edges;
}

pub lay-read : (w : List Float) (mass energy : Hermitian) → w ≡ lay w mass energy (read w mass energy)
unfolding lay read contents
lay-read w mass energy =
    sym (rw (flat-region_c w mass.off mass.edges, flat-region_c w energy.off energy.edges) (laid-rows nan w (bases mass energy)))

pub length-lay : (w : List Float) (mass energy : Hermitian) (s : Sums) → length (lay w mass energy s) ≡ length w
unfolding lay
length-lay w mass energy s = length-laid nan w (bases mass energy) (vectors s)

module _ (w : List Float) (mass energy : Hermitian) (ok : AddRoom (length w) mass energy) (s : Sums) (z : Sized mass energy s) where
  get : (j : ℕ) → j < 4 → region nan (laid w (bases mass energy) (vectors s)) (get_or (bases mass energy) j (span 0 0)).base (get_or (bases mass energy) j (span 0 0)).size ≡ get_or (vectors s) j []
  get j h = laid-at nan w mass.diagonal (bases mass energy) (vectors s) ok.matrices-in (rowed mass energy s z) j h

  store : (j : ℕ) → j < 4 → (v : List Float) → length v ≡ (get_or (bases mass energy) j (span 0 0)).size
      → put (laid w (bases mass energy) (vectors s)) (get_or (bases mass energy) j (span 0 0)).base v ≡ laid w (bases mass energy) (set (vectors s) j v)
  store j h v k = laid-set nan w mass.diagonal (length w) (bases mass energy) (vectors s) ok.matrices-in (rowed mass energy s z) j h v k

  -- ---- one read, one written

  pub get-mass-diagonal : region nan (lay w mass energy s) mass.diagonal mass.size ≡ s.mass_diagonal
  unfolding lay
  get-mass-diagonal = get 0 (omega arith)

  pub get-mass-off : region_c (lay w mass energy s) mass.off mass.edges ≡ s.mass_off
  unfolding lay
  get-mass-off = region_c-flat _ mass.off mass.edges s.mass_off z.mass-e (get 1 (omega arith))

  pub get-energy-diagonal : region nan (lay w mass energy s) energy.diagonal energy.size ≡ s.energy_diagonal
  unfolding lay
  get-energy-diagonal = get 2 (omega arith)

  pub get-energy-off : region_c (lay w mass energy s) energy.off energy.edges ≡ s.energy_off
  unfolding lay
  get-energy-off = region_c-flat _ energy.off energy.edges s.energy_off z.energy-e (get 3 (omega arith))

  pub put-mass-diagonal : (v : List Float) → length v ≡ mass.size
      → put (lay w mass energy s) mass.diagonal v ≡ lay w mass energy (record { mass_diagonal = v; mass_off = s.mass_off; energy_diagonal = s.energy_diagonal; energy_off = s.energy_off })
  unfolding lay
  put-mass-diagonal v h = store 0 (omega arith) v h

  pub put-mass-off : (v : List Complex) → length v ≡ mass.edges
      → put_c (lay w mass energy s) mass.off v ≡ lay w mass energy (record { mass_diagonal = s.mass_diagonal; mass_off = v; energy_diagonal = s.energy_diagonal; energy_off = s.energy_off })
  unfolding lay put_c
  put-mass-off v h = store 1 (omega arith) (flat v) (length-flat v h)

  pub put-energy-diagonal : (v : List Float) → length v ≡ energy.size
      → put (lay w mass energy s) energy.diagonal v ≡ lay w mass energy (record { mass_diagonal = s.mass_diagonal; mass_off = s.mass_off; energy_diagonal = v; energy_off = s.energy_off })
  unfolding lay
  put-energy-diagonal v h = store 2 (omega arith) v h

  pub put-energy-off : (v : List Complex) → length v ≡ energy.edges
      → put_c (lay w mass energy s) energy.off v ≡ lay w mass energy (record { mass_diagonal = s.mass_diagonal; mass_off = s.mass_off; energy_diagonal = s.energy_diagonal; energy_off = v })
  unfolding lay put_c
  put-energy-off v h = store 3 (omega arith) (flat v) (length-flat v h)

  -- ---- all of them

  pub get-all : read (lay w mass energy s) mass energy ≡ s
  unfolding read
  get-all = λ k. record { mass_diagonal = get-mass-diagonal k; mass_off = get-mass-off k; energy_diagonal = get-energy-diagonal k; energy_off = get-energy-off k }

  -- what a function makes of the matrices, where the slice holds s
  pub lay-then : (t : Sums) → Sized mass energy t → lay (lay w mass energy s) mass energy t ≡ lay w mass energy t
  unfolding lay
  lay-then t y = laid-laid nan w mass.diagonal (length w) (bases mass energy) (vectors s) (vectors t) ok.matrices-in (rowed mass energy s z) (rowed mass energy t y)

  -- what lies below
  pub lay-region : (b n : ℕ) → b + n ≤ mass.diagonal → region nan (lay w mass energy s) b n ≡ region nan w b n
  unfolding lay
  lay-region b n h = laid-below nan w mass.diagonal (length w) (bases mass energy) (vectors s) ok.matrices-in (rowed mass energy s z) b n h

  pub lay-below : (j : ℕ) → j < mass.diagonal → get_or (lay w mass energy s) j nan ≡ get_or w j nan
  lay-below j l =
      let at : (v : List Float) → get_or (region nan v 0 mass.diagonal) j nan ≡ get_or v j nan =
      λ v. get_or-region v 0 mass.diagonal j nan l ∙ ap (λ i. get_or v i nan) (zero-add j) in
      sym (at (lay w mass energy s)) ∙ ap (λ v. get_or v j nan) (lay-region 0 mass.diagonal (omega arith)) ∙ at w
