-- The packed copy of the matrix that is solved with: once its entries are made the solver can multiply by it, and nothing else of the system or of the pencil has
-- changed. Assumes nothing.
use mathlib.Core.Path.{◌≡◌}
use mathlib.Core.List.{List}
use Prim.Native.Nat.{ℕ, ◌+◌, ◌*◌, ◌≤◌, ◌<◌}
use native.Mathlib.Omega.{arith}
use lib.Ieee.{Float, nan}
use lib.ListN.{length, get_or}
use Rattle.linear_cells.specs.Region.{region}
use Rattle.linear_cells.specs.Cell.{region_c, put_c}
use Rattle.linear_cells.proofs.Loops.{apart}
use Rattle.linear_cells.proofs.Changes.{region-one}
use Rattle.linear_hermitian.specs.declared.Hermitian.{Hermitian}
use Rattle.linear_hermitian.specs.Work.{matrix}
use Rattle.linear_packing.specs.declared.Packing.{Packing}
use Rattle.linear_packing.specs.declared.Source.{Source}
use Rattle.linear_packing.specs.Slots.{entries_of}
use Rattle.linear_packing.specs.Packed.{Packed}
use Rattle.linear_packing.specs.Pack.{from_list, to_list, EntriesRoom}
use Rattle.linear_packing.proofs.Whole.{packed, length-with, reals-kept, cells-kept, matrix-kept}
use Rattle.linear_conjugate_gradient.specs.declared.Vectors.{Vectors}
use Rattle.linear_conjugate_gradient.specs.Work.{SolverRoom, Engine}
use Rattle.linear_conjugate_gradient.proofs.Lays.{same-room}
use Rattle.pass_inverse_iteration.specs.declared.Outer.{Outer}
use Rattle.pass_soft.specs.Work.{system_in}
use Rattle.pass_field.specs.Work.{FieldRoom}
use Rattle.pass_options.specs.Pass.{Passed}
use Rattle.pass_branches.specs.declared.solver.BranchPlan.{BranchPlan}
use Rattle.pass_branches.specs.Work.{Leaves, LeavesLinear, LeavesVector, CopyRoom, CopyBehind, Copies}
use Rattle.pass_branches.proofs.Ends.{leaves_after}
use Rattle.refusals.specs.Refusal.{Verdict}

module _ (plan : BranchPlan) where
  abbrev h : Hermitian
  h = plan.system.energy

  abbrev mass : Hermitian
  mass = plan.system.mass

  abbrev l : Vectors
  l = plan.system.vectors

  abbrev at : ℕ
  at = plan.angles

  abbrev o : Outer
  o = plan.outer

  abbrev c : Packing
  c = plan.copy

  abbrev e : Source
  e = plan.source

  -- the entries have room
  pub entries-room : {len : ℕ} → SolverRoom len h l → CopyRoom plan → EntriesRoom len h c e
  entries-room {len} ok room =
      let z : l.x ≤ len = omega (arith, ok.vector-room.vectors-in) in
      record {
        one-graph = room.one-graph;
        off-in = omega (arith, z, ok.off-below);
        entries-in = omega (arith, z, room.entries_below);
        entries-off = apart c.entries (2 * c.slots) h.off (2 * h.edges) (omega (arith, room.off-before));
      }

  -- the angles of a solution have room
  pub angles-room : {len len₁ : ℕ} → SolverRoom len h l → at + h.size ≤ l.x → len₁ ≡ len → FieldRoom len₁ l.x at h.size
  angles-room ok before q = omega (arith, apart, ok.vector-room.vectors-in)

  module _ (w : List Float) (from to u : List ℕ) (ok : SolverRoom (length w) h l) (room : CopyRoom plan) (k : Copies u from to plan) where
    made : EntriesRoom (length w) h c e
    made = entries-room ok room

    module _ {w₁ : List Float} (ew : w₁ ≡ put_c w c.entries (entries_of (matrix w h (from_list e u) (to_list e u)) c.size)) where
      pub copied-length : length w₁ ≡ length w
      copied-length = length-with u c e k.ready w h made ew

      -- the cells before the entries
      before : (b n : ℕ) → b + n ≤ c.entries → region nan w₁ b n ≡ region nan w b n
      before b n z = reals-kept u c e k.ready w h made ew b n (apart c.entries (2 * c.slots) b n (omega arith))

      -- a matrix before them
      matrix-before : (g : Hermitian) → g.diagonal + g.size ≤ c.entries → g.off + 2 * g.edges ≤ c.entries → matrix w₁ g from to ≡ matrix w g from to
      matrix-before g x y =
          matrix-kept u c e k.ready w h made ew g
          (apart c.entries (2 * c.slots) g.diagonal g.size (omega arith)) (apart c.entries (2 * c.slots) g.off (2 * g.edges) (omega arith)) from to

      one-matrix : matrix w₁ h from to ≡ matrix w h from to
      one-matrix = matrix-before h room.diagonal-before room.off-before

      copy-packed : Packed (matrix w h from to) w₁ u c
      copy-packed = rw (k.lower, k.upper) (packed u c e k.ready w h made ew)

      pub copied-engine : Engine w₁ h l from to u c
      copied-engine =
          let p = k.ready.interleaved.room in
          record {
            room = record {
              one_size = room.one_size;
              entries_below = room.entries_below;
              starts-in = omega (arith, p.behind, p.neighbours-in, p.halves_in, p.from_in, p.to_in, p.marks-in);
              neighbours-in = omega (arith, p.neighbours-in, p.halves_in, p.from_in, p.to_in, p.marks-in);
              marks-in = p.marks-in;
            };
            packed = rw one-matrix copy-packed;
          }

      pub copied-room : SolverRoom (length w₁) h l
      copied-room = same-room copied-length h l ok

      copied-before : (j : ℕ) → j < c.entries → get_or w₁ j nan ≡ get_or w j nan
      copied-before j z = region-one nan w w₁ j (before j 1 (omega arith))

      copied_behind : (j : ℕ) → l.x ≤ j → get_or w₁ j nan ≡ get_or w j nan
      copied_behind j z = region-one nan w w₁ j (reals-kept u c e k.ready w h made ew j 1 (apart c.entries (2 * c.slots) j 1 (omega (arith, room.entries_below))))

      same-system : system_in w₁ h l from to ≡ system_in w h l from to
      same-system =
          let r : region_c w₁ l.residual h.size ≡ region_c w l.residual h.size =
          cells-kept u c e k.ready w h made ew l.residual h.size (apart c.entries (2 * c.slots) l.residual (2 * h.size) (omega (arith, room.entries_below, ok.vector-room.vectors-in))) in
          λ i. record { matrix = one-matrix i; rhs = r i }

      kept : {w₂ : List Float} {p : Passed} {r : Verdict} → Leaves w₁ w₂ plan p r → Leaves w w₂ plan p r
      kept a =
          leaves_after plan copied-length (λ j z. copied-before j (omega (arith, room.angles-before))) (λ j d o. copied-before j (omega (arith, room.diagonal-before)))
          (λ j z. copied_behind j (omega (arith, ok.vector-room.vectors-in))) a

      pub leaves-linear : {w₂ : List Float} {r : Verdict} → LeavesLinear w₁ w₂ plan from to r → LeavesLinear w w₂ plan from to r
      leaves-linear a = kept (rw same-system at a)

      pub leaves-vector : CopyBehind plan → {w₂ : List Float} {r : Verdict} → LeavesVector w₁ w₂ plan from to r
          → LeavesVector w w₂ plan from to r
      leaves-vector b a =
          kept (rw (one-matrix, matrix-before mass b.mass-before b.mass-off-before, before o.x h.size b.x-before, before o.y h.size b.y-before) at a)
