-- The points and sizes of a refined floor lie where `Placed` says, so that its areas are kept. Assumes nothing.
use mathlib.Core.Path.{◌≡◌, refl, sym, ap, ◌∙◌}
use Prim.Native.Nat.{ℕ, zero, ◌+◌, ◌*◌, ◌<◌}
use native.Mathlib.Omega.{arith}
use mathlib.Core.Bool.{Bool, true, false, cond}
use mathlib.Core.List.{List, [], ◌∷◌, ◌++◌, map}
use mathlib.Core.Option.{none, some}
use lib.Dec.{ltb}
use lib.ListN.{length, get_or, length-append, length-map, get_or-append}
use lib.Seq.{get_or-append-add}
use lib.Ieee.{Float, nan}
use Rattle.float.specs.Double.{lit}
use Rattle.mesh.specs.Mesh.{Tri, Side, side, key, index_in, mid, Good, All}
use Rattle.mesh.proofs.Cuts.{side-discrete, never, next-some, above-some, index-here, index-past}
use Rattle.mesh.specs.Area.{halfway}
use Rattle.mesh.specs.Points.{x_of, y_of, z_of, size_of, mid_x, mid_y, midpoint, midpoints, more_points, mid_size, mid_sizes, more_sizes}
use Rattle.mesh.specs.AreaClaim.{Placed, EvenPoints, KeepsArea}
use Rattle.mesh.proofs.Coordinates.{halfway-either}
use Rattle.mesh.proofs.Floor.{keeps-area}

-- ---- what stands at the place of a side

-- in a list that has w numbers for each side
module _ (w : ℕ) (g : Side → List Float) (wide : (s : Side) → length (g s) ≡ w) (each : List Side → List Float) (none_Each : each [] ≡ []) (one_more_lem : (s : Side) (l : List Side) → each (s ∷ l) ≡ g s ++ each l) where
  each_at : (s : Side) (l : List Side) (k j : ℕ) → j < w → index_in s l ≡ some k → get_or (each l) (w * k + j) nan ≡ get_or (g s) j nan
  unfolding index_in
  each_at s [] k j b h = never none k refl h
  each_at s (t ∷ l) k j b h = rw (one_more_lem t l) (go (side-discrete s t) (λ i. each_at s l i j b))
    where
      go : Dec (s ≡ t) → ((i : ℕ) → index_in s l ≡ some i → get_or (each l) (w * i + j) nan ≡ get_or (g s) j nan) → get_or (g t ++ each l) (w * k + j) nan ≡ get_or (g s) j nan
      go (yes e) ih =
          let z : zero ≡ k = cc (index-here s t l e) in
          let i : w * k + j ≡ j = ap (λ (x : ℕ). w * x + j) (sym z) ∙ omega arith in
          rw (i, e) (get_or-append (g t) (each l) nan j (omega (arith, wide t)))
      go (no e) ih =
          let d = next-some (index_in s l) k (sym (index-past s t l e) ∙ h) in
          let i : w * k + j ≡ length (g t) + (w * d.0 + j) = ap (λ (x : ℕ). w * x + j) d.2 ∙ omega (arith, wide t) in
          rw i (get_or-append-add (g t) (each l) (w * d.0 + j) nan ∙ ih d.0 d.1)

mids-at : (pts : List Float) (s : Side) (l : List Side) (k j : ℕ) → j < 3 → index_in s l ≡ some k → get_or (midpoints pts l) (3 * k + j) nan ≡ get_or (midpoint pts s) j nan
unfolding midpoints
mids-at pts = each_at 3 (midpoint pts) (λ s. refl) (midpoints pts) refl (λ s l. refl)

sizes-at : (sizes : List Float) (s : Side) (l : List Side) (k : ℕ) → index_in s l ≡ some k → get_or (mid_sizes sizes l) k nan ≡ mid_size sizes s
unfolding mid_sizes
sizes-at sizes s l k h = let e : k ≡ 1 * k + 0 = omega arith in ap (λ (i : ℕ). get_or (map (mid_size sizes) l) i nan) e ∙ each_at 1 (λ s. mid_size sizes s ∷ []) (λ s. refl) (map (mid_size sizes)) refl (λ s l. refl) s l k 0 (omega arith) h

-- half the sum does not depend on the side's direction
key-half : (z : ℕ → Float) (h : Side → Float) → ((u v : ℕ) → h (side u v) ≡ halfway (z u) (z v)) → (u v : ℕ) → h (key u v) ≡ halfway (z u) (z v)
unfolding key
key-half z h is u v = go (ltb u v)
  where
    go : (b : Bool) → h (cond b (side u v) (side v u)) ≡ halfway (z u) (z v)
    go true = is u v
    go false = is v u ∙ halfway-either (z v) (z u)

-- ---- the refined floor

module _ (n : ℕ) (pts sizes : List Float) (l : List Side) (whole : length pts ≡ 3 * n) (sized : length sizes ≡ n) where
  old-number : (i : ℕ) → i < length pts → get_or (more_points pts l) i nan ≡ get_or pts i nan
  unfolding more_points
  old-number i h = get_or-append pts (midpoints pts l) nan i h

  new-number : (u v p j : ℕ) → j < 3 → mid n l u v ≡ some p → get_or (more_points pts l) (3 * p + j) nan ≡ get_or (midpoint pts (key u v)) j nan
  unfolding more_points mid
  new-number u v p j b e =
      let k = above-some n (index_in (key u v) l) p e in
      let i : 3 * p + j ≡ length pts + (3 * k.0 + j) = omega (arith, k.2) in
      rw i (get_or-append-add pts (midpoints pts l) (3 * k.0 + j) nan ∙ mids-at pts (key u v) l k.0 j b k.1)

  new-size : (u v p : ℕ) → mid n l u v ≡ some p → size_of (more_sizes sizes l) p ≡ mid_size sizes (key u v)
  unfolding more_sizes mid
  new-size u v p e =
      let k = above-some n (index_in (key u v) l) p e in
      let i : p ≡ length sizes + k.0 = omega (arith, k.2) in
      rw i (get_or-append-add sizes (mid_sizes sizes l) k.0 nan ∙ sizes-at sizes (key u v) l k.0 k.1)

  old-size-of : (v : ℕ) → v < n → size_of (more_sizes sizes l) v ≡ size_of sizes v
  unfolding more_sizes
  old-size-of v h = get_or-append sizes (mid_sizes sizes l) nan v (omega arith)

  no-height : (u v p : ℕ) → mid n l u v ≡ some p → z_of (more_points pts l) p ≡ lit 0
  no-height u v p e = new-number u v p 2 (omega arith) e

  half-size : (u v : ℕ) → mid_size sizes (key u v) ≡ halfway (size_of sizes u) (size_of sizes v)
  half-size = key-half (size_of sizes) (mid_size sizes) (λ u v. refl)

  pub placed : Placed n (mid n l) pts sizes (more_points pts l) (more_sizes sizes l)
  placed = record {
    old-x = λ v h. old-number (3 * v) (omega arith);
    old-y = λ v h. old-number (3 * v + 1) (omega arith);
    old-z = λ v h. old-number (3 * v + 2) (omega arith);
    old-size = old-size-of;
    mid-x = λ u v p e. let z : 3 * p ≡ 3 * p + 0 = omega arith in ap (λ (i : ℕ). get_or (more_points pts l) i nan) z ∙ new-number u v p 0 (omega arith) e ∙ key-half (x_of pts) (mid_x pts) (λ u v. refl) u v;
    mid-y = λ u v p e. new-number u v p 1 (omega arith) e ∙ key-half (y_of pts) (mid_y pts) (λ u v. refl) u v;
    mid-z = no-height;
    mid-size = λ u v p e. new-size u v p e ∙ half-size u v;
  }

  -- with even whole coordinates, refinement by the cut sides l keeps each triangle's area
  pub floor-keeps-area : (ts : List Tri) → All (Good n) ts → EvenPoints n pts → KeepsArea n pts (more_points pts l) (mid n l) ts
  floor-keeps-area ts good even = keeps-area n (mid n l) pts sizes (more_points pts l) (more_sizes sizes l) placed even ts good

-- ---- how many points and sizes

pub mids-length : (pts : List Float) (s : List Side) → length (midpoints pts s) ≡ 3 * length s
unfolding midpoints
mids-length pts [] = refl
mids-length pts (x ∷ s) = omega (arith, mids-length pts s)

pub points-length : (pts : List Float) (l : List Side) → length (more_points pts l) ≡ length pts + 3 * length l
unfolding more_points
points-length pts l = length-append pts (midpoints pts l) ∙ omega (arith, mids-length pts l)

pub sizes-length : (sizes : List Float) (l : List Side) → length (more_sizes sizes l) ≡ length sizes + length l
unfolding more_sizes mid_sizes
sizes-length sizes l = length-append sizes (mid_sizes sizes l) ∙ omega (arith, length-map l (mid_size sizes))
