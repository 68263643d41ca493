-- Laws of the flags and the targets by the point, for whoever goes on from them. Assumes nothing.
use Prim.Native.Nat.{ℕ, ◌<◌}
use mathlib.Core.Path.{◌≡◌, refl, sym, ap, ◌∙◌}
use mathlib.Core.Bool.{Bool, true, false}
use mathlib.Core.List.{List}
use lib.Dec.{eqb}
use lib.ListN.{length, get_or}
use lib.Ieee.{Float}
use Rattle.complex.specs.Complex.{czero, cnan}
use Rattle.linear_cells.proofs.Loops.{length-tab, get_or-tab}
use Rattle.mesh.specs.Mesh.{Tri, one}
use Rattle.pass_boundary.specs.Boundary.{boundary_sides, marks, target_at, marks_of, targets_of, touched, flags_of}

pub length-flags : (ts : List Tri) (n : ℕ) → length (flags_of ts n) ≡ n
unfolding flags_of
length-flags ts n = length-tab _ n

pub length-targets : (X Y : ℕ → Float) (ts : List Tri) (n : ℕ) → length (targets_of X Y ts n) ≡ n
unfolding targets_of
length-targets X Y ts n = length-tab _ n

-- a flag is 1 exactly at an end of a boundary side
pub flag_at : (ts : List Tri) (n v : ℕ) → v < n → eqb (get_or (flags_of ts n) v 0) 1 ≡ touched (boundary_sides ts) v
unfolding flags_of
flag_at ts n v h = ap (λ (k : ℕ). eqb k 1) (get_or-tab (λ v. one (touched (boundary_sides ts) v)) n v 0 h) ∙ test (touched (boundary_sides ts) v)
  where
    test : (b : Bool) → eqb (one b) 1 ≡ b
    test true = refl
    test false = refl

-- the target is 0 where there is no flag
pub target-off : (X Y : ℕ → Float) (ts : List Tri) (n v : ℕ) → v < n → eqb (get_or (flags_of ts n) v 0) 1 ≡ false → get_or (targets_of X Y ts n) v cnan ≡ czero
unfolding targets_of target_at marks_of
target-off X Y ts n v h e =
    let off : touched (boundary_sides ts) v ≡ false = sym (flag_at ts n v h) ∙ e in
    get_or-tab (target_at (boundary_sides ts) (marks X Y (boundary_sides ts))) n v cnan h ∙ rw off
