-- Triangles as they lie in a list of numbers, three corners each: how many they are, the same triangles in a longer slice, and
-- their corners in range. Assumes nothing.
use Prim.Native.Nat.{ℕ, zero, suc, ◌+◌, ◌*◌, ◌<◌}
use native.Mathlib.Omega.{arith}
use mathlib.Core.Path.{◌≡◌, refl, ap, ◌∙◌}
use mathlib.Core.Bool.{false}
use mathlib.Core.List.{List, [], ◌∷◌, ◌++◌}
use borrow.Author.Tests.{leb-false}
use lib.Dec.{leb}
use lib.ListN.{length, get_or, length-append}
use Rattle.mesh.specs.Mesh.{Tri, tri, All}
use Rattle.mesh.specs.Claim.{InRange}
use Rattle.mesh.proofs.Whole.{All-append}
use Rattle.edges.specs.Numbering.{tris_from}
use Rattle.floor.specs.Checks.{bad_corner}
use Rattle.floor.proofs.Rows.{or-none}
use Rattle.refinement.specs.Floor.{tri_at, tris, corners_of}

pub tris-length : (l : List ℕ) (i : ℕ) → length (tris l i) ≡ i
unfolding tris
tris-length l zero = refl
tris-length l (suc i) = length-append (tris l i) _ ∙ omega (arith, tris-length l i)

pub corners-length : (s : List Tri) → length (corners_of s) ≡ 3 * length s
unfolding corners_of
corners-length [] = refl
corners-length (tri a b c ∷ s) = omega (arith, corners-length s)

pub corners-append : (s t : List Tri) → corners_of (s ++ t) ≡ corners_of s ++ corners_of t
unfolding corners_of
corners-append [] t = refl
corners-append (tri a b c ∷ s) t = ap (λ (l : List ℕ). a ∷ b ∷ c ∷ l) (corners-append s t)

-- the triangles of the corners of a list of triangles, whatever follows them
tris-shift : (a b c : ℕ) (l : List ℕ) (i : ℕ) → tris (a ∷ b ∷ c ∷ l) (suc i) ≡ tri a b c ∷ tris l i
unfolding tris
tris-shift a b c l zero = refl
tris-shift a b c l (suc i) =
    let e₁ : 3 * suc i + 1 ≡ suc (suc (suc (3 * i + 1))) = omega arith in
    let e₂ : 3 * suc i + 2 ≡ suc (suc (suc (3 * i + 2))) = omega arith in
    let e₀ : 3 * suc i ≡ suc (suc (suc (3 * i))) = omega arith in
    rw (tris-shift a b c l i, e₁, e₂, e₀) refl

no-tris : (l : List ℕ) → tris l 0 ≡ []
unfolding tris
no-tris l = refl

pub tris-of : (ts : List Tri) (rest : List ℕ) → tris (corners_of ts ++ rest) (length ts) ≡ ts
unfolding corners_of
tris-of [] rest = no-tris rest
tris-of (tri a b c ∷ ts) rest = tris-shift a b c (corners_of ts ++ rest) (length ts) ∙ ap (λ (s : List Tri). tri a b c ∷ s) (tris-of ts rest)

-- the triangles of the list l, where it stands from c on in a slice
pub tris-held : (c t : ℕ) (u l : List ℕ) → ((j : ℕ) → j < 3 * t → get_or u (c + j) 0 ≡ get_or l j 0) → tris_from c u t ≡ tris l t
unfolding tris_from tris
tris-held c zero u l h = refl
tris-held c (suc t) u l h =
    let e₁ : c + (3 * t + 1) ≡ c + 3 * t + 1 = omega arith in
    let e₂ : c + (3 * t + 2) ≡ c + 3 * t + 2 = omega arith in
    rw (tris-held c t u l (λ j g. h j (omega arith)), h (3 * t) (omega arith), ← e₁, ← e₂, h (3 * t + 1) (omega arith), h (3 * t + 2) (omega arith))

-- ---- corners in range: what row 8 leaves

corner-in : (l : List ℕ) (n i : ℕ) → bad_corner l n i ≡ false → InRange n (tri_at l i)
unfolding bad_corner
corner-in l n i e =
    let a = or-none (leb n (get_or l (3 * i) 0)) _ e in
    let b = or-none (leb n (get_or l (3 * i + 1) 0)) _ a.1 in
    (leb-false n (get_or l (3 * i) 0) a.0, leb-false n (get_or l (3 * i + 1) 0) b.0, leb-false n (get_or l (3 * i + 2) 0) b.1)

pub in-range : (l : List ℕ) (n t : ℕ) → ((i : ℕ) → i < t → bad_corner l n i ≡ false) → All (InRange n) (tris l t)
unfolding tris
in-range l n zero h = tt
in-range l n (suc t) h = All-append (InRange n) (tris l t) (tri_at l t ∷ []) (in-range l n t (λ i q. h i (omega arith))) (corner-in l n t (h t (omega arith)), tt)
