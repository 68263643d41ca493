-- The matrices that stand in the work slices once they are assembled over a floor that is set up are those of the floor's definition, and so are their
-- traces and the shifted energy. Nothing before the matrices changes, and nothing behind them. Assumes nothing.
use Prim.Native.Nat.{ℕ, zero, suc, ◌*◌, ◌≤◌, ◌<◌}
use native.Mathlib.Omega.{arith}
use mathlib.Core.Path.{◌≡◌, refl, sym, ap, ◌∙◌, subst}
use mathlib.Core.List.{List}
use lib.ListN.{length, length-append, get_or}
use lib.Ieee.{Float, nan}
use Rattle.linear_cells.specs.Region.{region}
use Rattle.linear_cells.proofs.Loops.{apart}
use Rattle.linear_cells.proofs.Regions.{length-region}
use Rattle.linear_cells.proofs.Changes.{region-one}
use Rattle.edges.specs.Numbering.{tris_from}
use Rattle.floor.specs.Floor.{Floor, point_count, triangle_count}
use Rattle.linear_hermitian.specs.Hermitian.{Matrix}
use Rattle.linear_hermitian.specs.Work.{matrix, shift_matrix, ShiftRoom}
use Rattle.pass_assembly.specs.Work.{assembled_to, Indexed, TraceRoom}
use Rattle.pass_assembly.specs.Work as work
use Rattle.pass_assembly.proofs.Lists as lists
use Rattle.pass_assembly.proofs.Matrices.{assembled-length, assembled-below, assembled-above}
use Rattle.pass_assembly.specs.declared.shift.Traces.{Traces}
use Rattle.pass_assembly.specs.Shift.{traces_of, shift_of, shifted_energy}
use Rattle.pass_terms.specs.declared.Mode.{Mode}
use Rattle.linear_hermitian.proofs.Elsewhere.{shift-else-real, mass-shifted}
use Rattle.pass_assembly.proofs.Energy.{energy-shifted}
use Rattle.pass_options.specs.declared.Options.{Options}
use Rattle.pass_layout.specs.declared.Layout.{Layout}
use Rattle.pass_layout.specs.Layout.{Ordered}
use Rattle.pass_layout.specs.Matrices.{mass_at, energy_at}
use Rattle.pass_layout.specs.Work.{floor_in, from_list, to_list}
use Rattle.pass_setup.specs.Setup.{wound_of, areas_of, edges_of, lowers_of, uppers_of, transports_of}
use Rattle.pass_setup.specs.Work.{Stands}
use Rattle.pass_branches.specs.Work.{built_in}
use Rattle.pass.specs.Pass.{mode_of, assembled_floor, mass_of, energy_of, traces_in, built_of}
use Rattle.pass.specs.Work.{plan_at}
use Rattle.pass.proofs.Below.{below-regions}

pub points-in : (l : Layout) (w : List Float) (u : List ℕ) → point_count (floor_in l w u) ≡ l.points
unfolding floor_in
points-in l w u = length-region nan w l.x l.points

length-tris : (c : ℕ) (u : List ℕ) (t : ℕ) → length (tris_from c u t) ≡ t
unfolding tris_from
length-tris c u zero = refl
length-tris c u (suc t) = length-append (tris_from c u t) _ ∙ omega (arith, length-tris c u t)

pub triangles-in : (l : Layout) (w : List Float) (u : List ℕ) → triangle_count (floor_in l w u) ≡ l.triangles
unfolding floor_in
triangles-in l w u = length-tris l.given u l.triangles

-- ---- room

module _ (l : Layout) (m : ℕ) {reals words : ℕ} (ok : Ordered l reals words) (few : m ≤ 3 * l.triangles) where
  pub assembly-room : work.AssemblyRoom reals words (plan_at l) (mass_at l m) (energy_at l m)
  assembly-room = record {
    x_below = omega arith;
    y-below = omega arith;
    areas-below = omega arith;
    transports-below = omega arith;
    matrices = record { matrices-in = (omega arith, (omega arith, (omega arith, (omega arith, omega arith)))); one_size = refl; one-graph = refl };
    corners-in = omega arith;
    numbers-in = omega arith;
  }

  pub shift-room : ShiftRoom reals (energy_at l m) (mass_at l m)
  shift-room = record {
    one_size = refl;
    one-graph = refl;
    diagonals = record { x-in = omega arith; y-in = omega arith; y-x = omega (arith, apart) };
    offs = record { x-in = omega arith; y-in = omega arith; y-x = omega (arith, apart) };
    diagonal-off = omega (arith, apart);
    diagonal-mass = omega (arith, apart);
  }

  pub trace-room : (mode : Mode) (w : List Float) (u : List ℕ) → length w ≡ reals → length u ≡ words → {w₁ : List Float}
      → w₁ ≡ assembled_to mode w u (plan_at l) (mass_at l m) (energy_at l m) l.triangles → TraceRoom (length w₁) (mass_at l m) (energy_at l m)
  trace-room mode w u a b {w₁} e =
      let fits : work.AssemblyRoom (length w) (length u) (plan_at l) (mass_at l m) (energy_at l m) = rw (a, b) assembly-room in
      let k : length w₁ ≡ reals = ap length e ∙ assembled-length mode w u (plan_at l) (mass_at l m) (energy_at l m) fits l.triangles ∙ a in
      record { mass-in = omega arith; energy-in = omega arith }

-- ---- the matrices

pub indexed : {l : Layout} {m : ℕ} {f : Floor} {w : List Float} {u : List ℕ} → Stands l m f w u → Indexed u (plan_at l) l.points m
indexed s = record { points = s.corners-below; sides = s.numbers-below }

module _ (l : Layout) (m : ℕ) (w : List Float) (u : List ℕ) (o : Options) (ok : Ordered l (length w) (length u)) (s : Stands l m (floor_in l w u) w u) where
  abbrev built : List Float
  built = assembled_to (mode_of o) w u (plan_at l) (mass_at l m) (energy_at l m) l.triangles

  room : work.AssemblyRoom (length w) (length u) (plan_at l) (mass_at l m) (energy_at l m)
  room = assembly-room l m ok s.edged.few

  holds : lists.Holds w u (plan_at l) l.points m (floor_in l w u).xs (floor_in l w u).ys (wound_of (floor_in l w u)) (areas_of (floor_in l w u)) (edges_of (floor_in l w u)) (transports_of (floor_in l w u))
  unfolding floor_in
  holds = record { all-x = refl; all-y = refl; all-areas = s.areas; all-transports = s.transports; corners = s.corners; numbers = s.numbers }

  all-lowers : length (lowers_of (floor_in l w u)) ≡ m
  all-lowers = ap length (sym s.lowers) ∙ length-region 0 u l.from m

  pub mass-built : matrix built (mass_at l m) (from_list l m u) (to_list l m u) ≡ mass_of o (floor_in l w u)
  unfolding mass_of assembled_floor
  mass-built =
      rw (s.lowers, s.uppers, points-in l w u, triangles-in l w u)
      (lists.mass-lists (mode_of o) w u (plan_at l) (mass_at l m) (energy_at l m) room (indexed s) _ _ _ _ _ _ holds (lowers_of (floor_in l w u)) (uppers_of (floor_in l w u)) all-lowers)

  pub energy-built : matrix built (energy_at l m) (from_list l m u) (to_list l m u) ≡ energy_of o (floor_in l w u)
  unfolding energy_of assembled_floor
  energy-built =
      rw (s.lowers, s.uppers, points-in l w u, triangles-in l w u)
      (lists.energy-lists (mode_of o) w u (plan_at l) (mass_at l m) (energy_at l m) room (indexed s) _ _ _ _ _ _ holds (lowers_of (floor_in l w u)) (uppers_of (floor_in l w u)) all-lowers)

  pub built-length : length built ≡ length w
  built-length = assembled-length (mode_of o) w u (plan_at l) (mass_at l m) (energy_at l m) room l.triangles

  pub built-below : (j : ℕ) → j < l.mass → get_or built j nan ≡ get_or w j nan
  built-below = below-regions nan l.mass w built (assembled-below (mode_of o) w u (plan_at l) (mass_at l m) (energy_at l m) room l.triangles)

  pub built-behind : (j : ℕ) → l.packed ≤ j → get_or built j nan ≡ get_or w j nan
  built-behind j h = region-one nan w built j (assembled-above (mode_of o) w u (plan_at l) (mass_at l m) (energy_at l m) room l.triangles j 1 (omega (arith, s.edged.few)))

  -- ---- traces and shift

  module _ (t : Traces) (e : t ≡ traces_of (region nan built l.mass l.points) (region nan built l.energy l.points)) where
    pub traces-built : t ≡ traces_in o (floor_in l w u)
    unfolding traces_in
    traces-built = e ∙ both
      where
        diagonal : (h : ℕ) (off : ℕ) (q : Matrix) → matrix built (record { size = l.points; edges = m; diagonal = h; off = off }) (from_list l m u) (to_list l m u) ≡ q → region nan built h l.points ≡ q.diagonal
        diagonal h off q p = unfold matrix in ap (λ (x : Matrix). x.diagonal) p

        both : traces_of (region nan built l.mass l.points) (region nan built l.energy l.points) ≡ traces_of (mass_of o (floor_in l w u)).diagonal (energy_of o (floor_in l w u)).diagonal
        both = rw (diagonal l.mass l.mass_off _ mass-built, diagonal l.energy l.energy_off _ energy-built)

    abbrev shifted : List Float
    shifted = shift_matrix built (energy_at l m) (shift_of t) (mass_at l m)

    shift_fits : ShiftRoom (length built) (energy_at l m) (mass_at l m)
    shift_fits = subst (λ (k : ℕ). ShiftRoom k (energy_at l m) (mass_at l m)) (sym built-length) (shift-room l m ok s.edged.few)

    pub shifted-below : (j : ℕ) → j < l.mass → get_or shifted j nan ≡ get_or w j nan
    shifted-below j h =
        below-regions nan l.mass built shifted (λ b n g. shift-else-real built (energy_at l m) (shift_of t) (mass_at l m) b n (omega (arith, apart)) (omega (arith, apart))) j h
        ∙ built-below j h

    pub shifted_behind : (j : ℕ) → l.packed ≤ j → get_or shifted j nan ≡ get_or w j nan
    shifted_behind j h =
        region-one nan built shifted j (shift-else-real built (energy_at l m) (shift_of t) (mass_at l m) j 1 (apart l.energy l.points j 1 (omega arith)) (apart l.energy_off (2 * m) j 1 (omega (arith, s.edged.few))))
        ∙ built-behind j h

    pub matrices-built : built_in l m t.energy shifted u ≡ built_of o (floor_in l w u)
    unfolding built_of
    matrices-built = λ k. record { mass = mass k; energy = energy k; trace = (traces-built k).energy }
      where
        mass : matrix shifted (mass_at l m) (from_list l m u) (to_list l m u) ≡ mass_of o (floor_in l w u)
        mass = mass-shifted built (energy_at l m) (shift_of t) (mass_at l m) shift_fits (omega (arith, apart)) (from_list l m u) (to_list l m u) ∙ mass-built

        energy : matrix shifted (energy_at l m) (from_list l m u) (to_list l m u) ≡ shifted_energy (mass_of o (floor_in l w u)) (energy_of o (floor_in l w u))
        energy = energy-shifted built (mass_at l m) (energy_at l m) t shift_fits e (from_list l m u) (to_list l m u) ∙ rw (mass-built, energy-built)
