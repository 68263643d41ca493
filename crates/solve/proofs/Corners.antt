-- Corners in range, and where they stand: of the triangles as given, from row 8, and of the refined ones in the slice that takes them. Assumes nothing.
use Prim.Native.Nat.{ℕ, zero, suc, ◌+◌, ◌*◌, ◌≤◌, ◌<◌}
use native.Mathlib.Omega.{arith}
use mathlib.Core.Path.{◌≡◌, sym, ap, ◌∙◌}
use mathlib.Core.List.{List, [], ◌∷◌, append-nil}
use lib.ListN.{length, get_or}
use lib.Seq.{sets}
use Rattle.slices.proofs.Runs.{sets-within}
use Rattle.mesh.specs.Mesh.{Tri, tri, All}
use Rattle.mesh.specs.Claim.{InRange}
use Rattle.mesh.proofs.Whole.{All-append}
use Rattle.edges.specs.Numbering.{tris_from, Below}
use Rattle.refinement.specs.Floor.{tri_at, tris, corners_of}
use Rattle.refinement.proofs.Triangles.{corners-length, tris-of, tris-held}

-- triangles whose corners are below n
pub below-in-range : (l : List ℕ) (n t : ℕ) → ((j : ℕ) → j < 3 * t → get_or l j 0 < n) → All (InRange n) (tris l t)
unfolding tris
below-in-range l n zero h = tt
below-in-range l n (suc t) h =
    All-append (InRange n) (tris l t) (tri_at l t ∷ []) (below-in-range l n t (λ j g. h j (omega arith)))
    ((h (3 * t) (omega arith), h (3 * t + 1) (omega arith), h (3 * t + 2) (omega arith)), tt)

-- and the other way
pub in-range-below : (n : ℕ) (ts : List Tri) → All (InRange n) ts → (j : ℕ) → j < 3 * length ts → get_or (corners_of ts) j 0 < n
unfolding corners_of
in-range-below n [] h j g = absurd (omega arith)
in-range-below n (tri a b c ∷ ts) h zero g = h.0.0
in-range-below n (tri a b c ∷ ts) h (suc zero) g = h.0.1
in-range-below n (tri a b c ∷ ts) h (suc (suc zero)) g = h.0.2
in-range-below n (tri a b c ∷ ts) h (suc (suc (suc j))) g = in-range-below n ts h.1 j (omega arith)

-- triangles that were stored in a slice from b on
module _ (u : List ℕ) (b : ℕ) (ts : List Tri) (room : b + 3 * length ts ≤ length u) {u' : List ℕ} (e : u' ≡ sets u b (corners_of ts)) where
  stands : (j : ℕ) → j < 3 * length ts → get_or u' (b + j) 0 ≡ get_or (corners_of ts) j 0
  stands j h = ap (λ (x : List ℕ). get_or x (b + j) 0) e ∙ sets-within u b (corners_of ts) j 0 (omega (arith, corners-length ts)) (omega (arith, corners-length ts))

  pub stored-tris : tris_from b u' (length ts) ≡ ts
  stored-tris =
      tris-held b (length ts) u' (corners_of ts) stands
      ∙ ap (λ (l : List ℕ). tris l (length ts)) (sym (append-nil (corners_of ts)))
      ∙ tris-of ts []

  pub stored-below : (n : ℕ) → All (InRange n) ts → Below n b u' (3 * length ts)
  stored-below n h j g = rw (stands j g) (in-range-below n ts h j g)
