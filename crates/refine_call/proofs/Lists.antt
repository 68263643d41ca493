-- Triangles that stay, corners and ends as they lie in a slice. Assumes nothing.
use Prim.Native.Nat.{ℕ, zero, suc, ◌+◌, ◌*◌, ◌≤◌}
use native.Mathlib.Omega.{arith}
use mathlib.Core.Path.{◌≡◌, refl, sym, ap, ◌∙◌}
use mathlib.Core.List.{List, [], ◌∷◌, ◌++◌, append_assoc}
use lib.ListN.{length, get_or, take, take-append-drop}
use lib.Seq.{take-suc}
use Rattle.mesh.specs.Mesh.{Tri, tri, Side, side, index_in, mid, refined}
use Rattle.edges.specs.Table.{pairs}
use Rattle.edges.specs.TwoSlices.{lo_at, hi_at, sides_at}
use Rattle.edges.proofs.Tree.{length_pairs}
use Rattle.refinement.specs.Floor.{tris, tri_at, corners_of, ends_of, over}
use Rattle.refinement.proofs.Triangles.{corners-append}
use Rattle.refine_call.proofs.Splitting.{drop-same}

-- with no cut sides each triangle is its only piece
pub refined-none : (n : ℕ) (ts : List Tri) → refined (mid n []) ts ≡ ts
unfolding mid index_in
refined-none n [] = refl
refined-none n (tri a b c ∷ ts) = ap (λ (s : List Tri). tri a b c ∷ s) (refined-none n ts)

pub corners-of-tris : (l : List ℕ) (t : ℕ) → 3 * t ≤ length l → corners_of (tris l t) ≡ take (3 * t) l
unfolding tris corners_of
corners-of-tris l zero h = refl
corners-of-tris l (suc t) h =
    let e : 3 * suc t ≡ suc (suc (suc (3 * t))) = omega arith in
    let e₁ : 3 * t + 1 ≡ suc (3 * t) = omega arith in
    let e₂ : 3 * t + 2 ≡ suc (suc (3 * t)) = omega arith in
    corners-append (tris l t) (tri_at l t ∷ []) ∙ rw (corners-of-tris l t (omega arith), e, take-suc l (suc (suc (3 * t))) 0 (omega arith), take-suc l (suc (3 * t)) 0 (omega arith), take-suc l (3 * t) 0 (omega arith), e₁, e₂)
    (sym (append_assoc (take (3 * t) l ++ (get_or l (3 * t) 0 ∷ [])) (get_or l (suc (3 * t)) 0 ∷ []) (get_or l (suc (suc (3 * t))) 0 ∷ []) ∙ append_assoc (take (3 * t) l) (get_or l (3 * t) 0 ∷ []) _))

ends-append : (s t : List Side) → ends_of (s ++ t) ≡ ends_of s ++ ends_of t
unfolding ends_of
ends-append [] t = refl
ends-append (side a b ∷ s) t = ap (λ (l : List ℕ). a ∷ b ∷ l) (ends-append s t)

ends-length : (s : List Side) → length (ends_of s) ≡ 2 * length s
unfolding ends_of
ends-length [] = refl
ends-length (side a b ∷ s) = omega (arith, ends-length s)

ends-take : (e : List ℕ) (m : ℕ) → 2 * m ≤ length e → ends_of (sides_at e m) ≡ take (2 * m) e
unfolding pairs ends_of
ends-take e zero h = refl
ends-take e (suc m) h =
    let z : 2 * suc m ≡ suc (suc (2 * m)) = omega arith in
    let z₁ : 2 * m + 1 ≡ suc (2 * m) = omega arith in
    ends-append (sides_at e m) (side (lo_at e m) (hi_at e m) ∷ []) ∙ rw (ends-take e m (omega arith), z, take-suc e (suc (2 * m)) 0 (omega arith), take-suc e (2 * m) 0 (omega arith), z₁)
    (sym (append_assoc (take (2 * m) e) (get_or e (2 * m) 0 ∷ []) (get_or e (suc (2 * m)) 0 ∷ [])))

-- the ends of the cut sides are the front of their slice, and the rest is as it was
pub ends-front : (e e' : List ℕ) (m : ℕ) → 2 * m ≤ length e' → length e' ≡ length e → ((j : ℕ) → 2 * m ≤ j → get_or e' j 0 ≡ get_or e j 0) → e' ≡ over (ends_of (sides_at e' m)) e
ends-front e e' m room same behind =
    let many : length (ends_of (sides_at e' m)) ≡ 2 * m = ends-length (sides_at e' m) ∙ ap (λ (k : ℕ). 2 * k) (length_pairs (lo_at e') (hi_at e') m) in
    rw many (sym (take-append-drop (2 * m) e') ∙ rw (ends-take e' m room, drop-same (2 * m) e' e same behind) refl)
