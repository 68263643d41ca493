-- What stands in the slices after boundary_targets, as its callers read it. Assumes nothing.
use Prim.Native.Nat.{ℕ, ◌*◌}
use native.Mathlib.Omega.{arith}
use mathlib.Core.Path.{◌≡◌, ap, ◌∙◌}
use mathlib.Core.List.{List}
use lib.ListN.{length}
use lib.Ieee.{Float}
use Rattle.complex.specs.declared.Complex.{Complex}
use Rattle.linear_cells.specs.Region.{region, put, Apart}
use Rattle.linear_cells.specs.Cell.{region_c, put_c}
use Rattle.linear_cells.proofs.Loops.{apart, length-tab}
use Rattle.linear_cells.proofs.Regions.{length-put, region-put}
use Rattle.linear_cells.proofs.Cells.{region_c-put_c, region_c-else}
use Rattle.pass_boundary.specs.declared.Listing.{Listing}
use Rattle.pass_boundary.specs.declared.Planes.{Planes}
use Rattle.pass_boundary.specs.Boundary.{targets_of, firsts_of, flags_of}
use Rattle.pass_boundary.specs.Work.{xs_in, ys_in, tris_in, table_of, ListRoom, PlaneRoom, counts_of, Bounded}
use Rattle.pass_boundary.proofs.Points.{length-flags, length-targets}

module _ {l : Listing} {p : Planes} {u u' : List ℕ} {w w' : List Float} {r : ℕ} (b : Bounded l p u w u' w' r) where
  pub targets-after : PlaneRoom p (length w) → region_c w' p.targets p.points ≡ targets_of (xs_in p w) (ys_in p w) (tris_in l u) p.points
  unfolding firsts_of
  targets-after room =
      let T : List Complex = targets_of (xs_in p w) (ys_in p w) (tris_in l u) p.points in
      let F : List Complex = firsts_of (xs_in p w) (ys_in p w) (tris_in l u) p.points in
      let ahead : Apart p.first (2 * p.points) p.targets (2 * p.points) = apart p.first (2 * p.points) p.targets (2 * p.points) (omega (arith, room.targets-in)) in
      ap (λ (t : List Float). region_c t p.targets p.points) b.reals
      ∙ region_c-else (put_c w p.targets T) p.first F (length-tab _ p.points) p.targets p.points ahead
      ∙ region_c-put_c w p.targets T (length-targets (xs_in p w) (ys_in p w) (tris_in l u) p.points) (omega (arith, room.targets-in, room.first-in))

  pub flags-after : ListRoom l p.points (length u) → region 0 u' l.flags p.points ≡ flags_of (tris_in l u) p.points
  flags-after room =
      let v : List ℕ = put u l.counts (counts_of (table_of l u) (tris_in l u) l.sides) in
      ap (λ (t : List ℕ). region 0 t l.flags p.points) b.words
      ∙ region-put v l.flags (flags_of (tris_in l u) p.points) (length-flags (tris_in l u) p.points) 0 (omega (arith, length-put u l.counts (counts_of (table_of l u) (tris_in l u) l.sides), room.flags-in))
