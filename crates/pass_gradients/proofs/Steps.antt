-- The sums of a pass's gradients, one more triangle at a time: at each point, what a triangle adds there. What is read lies before the sums, and is the
-- same for points, triangles and areas that are the same. Assumes nothing.
use Prim.Native.Nat.{ℕ, zero, suc, ◌+◌, ◌-◌, ◌*◌, ◌≤◌, ◌<◌}
use native.Mathlib.Omega.{arith}
use native.Mathlib.Decide.{ℕ_discrete}
use native.Mathlib.Numerals.{add-one}
use mathlib.Core.Path.{◌≡◌, refl, ap, ap₂, ◌∙◌}
use mathlib.Core.Logic.{◌≢◌, ◌⊎◌, inl, ⊎_elim}
use mathlib.Core.Bool.{cond}
use mathlib.Core.List.{List}
use borrow.Author.Tests.{eq-eqb, ne_eqb}
use lib.Dec.{eqb}
use lib.ListN.{length, length-set, get_or, replicate, length-replicate, get_or-replicate}
use lib.Seq.{get_or-set_same, get_or-set_other}
use lib.Ieee.{Float, nan}
use Rattle.float.specs.Double.{lit, ◌⊕◌, ◌⊗◌}
use Rattle.plane.specs.declared.Pair.{Pair}
use Rattle.mesh.specs.Mesh.{Tri, tri}
use Rattle.linear_cells.specs.Region.{put, Apart}
use Rattle.linear_cells.proofs.Loops.{apart}
use Rattle.linear_cells.proofs.Regions.{length-put, put-within, put-else}
use Rattle.edges.specs.Numbering.{tri_from, Below}
use Rattle.pass_geometries.specs.Work.{coords_from, Cornered}
use Rattle.pass_geometries.proofs.Steps.{corners-below}
use Rattle.pass_gradients.specs.declared.GradientsPlan.{GradientsPlan}
use Rattle.pass_gradients.specs.Gradients.{gradient_on, add_corner, add_tri, sum_to, weighed_x, weighed_y}
use Rattle.pass_gradients.specs.Work.{GradientsRoom, gradient_in, part_x, part_y, add_at, add_three, add_triangle, GatheredTriangle, GatheredTo}

-- a triangle whose corners and gradient were read
pub added : (p : GradientsPlan) (t : ℕ) (u : List ℕ) (w : List Float) (a : Float) {w' : List Float} {i j k : ℕ} {d : Pair} → i ≡ get_or u (p.wound + 3 * t) 0 → j ≡ get_or u (p.wound + 3 * t + 1) 0 → k ≡ get_or u (p.wound + 3 * t + 2) 0
    → a ≡ coords_from w p.areas t → d ≡ gradient_in p w (tri i j k) a → w' ≡ add_triangle p.gradients p.points (tri i j k) (a ⊗ d.x) (a ⊗ d.y) a w → GatheredTriangle p t u w w'
added p t u w a e f g l h q = q ∙ rw (h, ← e, ← f, ← g, ← l)

-- ---- what is read

-- points, triangles and areas that are the same, of n points and t triangles
module _ (X Y S A X' Y' S' A' : ℕ → Float) (ts ts' : ℕ → Tri) (n t : ℕ) (same-x : (v : ℕ) → v < n → X v ≡ X' v) (same-y : (v : ℕ) → v < n → Y v ≡ Y' v) (same_s : (v : ℕ) → v < n → S v ≡ S' v)
    (same-a : (i : ℕ) → i < t → A i ≡ A' i) (same-t : (i : ℕ) → i < t → ts i ≡ ts' i) (cornered : (i : ℕ) → i < t → Cornered n (ts i)) where
  gradient-same : (s : Tri) (a : Float) → Cornered n s → gradient_on X Y S s a ≡ gradient_on X' Y' S' s a
  gradient-same (tri i j k) a b =
      rw (same-x i b.0, same-y i b.0, same_s i b.0, same-x j b.1.0, same-y j b.1.0, same_s j b.1.0, same-x k b.1.1, same-y k b.1.1, same_s k b.1.1)

  on_same : (i : ℕ) → i < t → gradient_on X Y S (ts i) (A i) ≡ gradient_on X' Y' S' (ts' i) (A' i)
  on_same i h = gradient-same (ts i) (A i) (cornered i h) ∙ ap₂ (gradient_on X' Y' S') (same-t i h) (same-a i h)

  pub weighed-x-same : (i : ℕ) → i < t → weighed_x X Y S ts A i ≡ weighed_x X' Y' S' ts' A' i
  weighed-x-same i h = ap₂ (λ (a : Float) (d : Pair). a ⊗ d.x) (same-a i h) (on_same i h)

  pub weighed-y-same : (i : ℕ) → i < t → weighed_y X Y S ts A i ≡ weighed_y X' Y' S' ts' A' i
  weighed-y-same i h = ap₂ (λ (a : Float) (d : Pair). a ⊗ d.y) (same-a i h) (on_same i h)

pub sum_same : (ts ts' : ℕ → Tri) (f f' : ℕ → Float) (v t : ℕ) → ((i : ℕ) → i < t → ts i ≡ ts' i) → ((i : ℕ) → i < t → f i ≡ f' i) → sum_to ts f v t ≡ sum_to ts' f' v t
unfolding sum_to
sum_same ts ts' f f' v zero p q = refl
sum_same ts ts' f f' v (suc t) p q = rw (sum_same ts ts' f f' v t (λ i h. p i (omega arith)) (λ i h. q i (omega arith)), p t (omega arith), q t (omega arith))

-- a slice that is the same before the sums
module _ (p : GradientsPlan) (u : List ℕ) (w w' : List Float) {reals : ℕ} (room : GradientsRoom p reals (length u)) (below : Below p.points p.wound u (3 * p.triangles)) (same : (j : ℕ) → j < p.gradients → get_or w' j nan ≡ get_or w j nan) where
  plane : (b n : ℕ) → b + n ≤ p.gradients → (v : ℕ) → v < n → coords_from w' b v ≡ coords_from w b v
  plane b n h v g = same (b + v) (omega arith)

  cornered : (i : ℕ) → i < p.triangles → Cornered p.points (tri_from p.wound u i)
  cornered i h = corners-below p.points p.wound u i (λ q r. below q (omega arith))

  pub area_same : (i : ℕ) → i < p.triangles → coords_from w' p.areas i ≡ coords_from w p.areas i
  area_same = plane p.areas p.triangles room.areas-in

  pub part-x-same : (i : ℕ) → i < p.triangles → part_x p w' u i ≡ part_x p w u i
  part-x-same = weighed-x-same _ _ _ _ _ _ _ _ (tri_from p.wound u) (tri_from p.wound u) p.points p.triangles (plane p.x p.points room.x-in) (plane p.y p.points room.y-in) (plane p.sizes p.points room.sizes-in) area_same (λ i h. refl) cornered

  pub part-y-same : (i : ℕ) → i < p.triangles → part_y p w' u i ≡ part_y p w u i
  part-y-same = weighed-y-same _ _ _ _ _ _ _ _ (tri_from p.wound u) (tri_from p.wound u) p.points p.triangles (plane p.x p.points room.x-in) (plane p.y p.points room.y-in) (plane p.sizes p.points room.sizes-in) area_same (λ i h. refl) cornered

-- ---- at one place

add_same : (w : List Float) (j : ℕ) (x : Float) → j < length w → get_or (add_at w j x) j nan ≡ get_or w j nan ⊕ x
unfolding add_at
add_same w j x h = get_or-set_same w j (get_or w j nan ⊕ x) nan h

add-other : (w : List Float) (j i : ℕ) (x : Float) → i ≢ j → get_or (add_at w j x) i nan ≡ get_or w i nan
unfolding add_at
add-other w j i x h = get_or-set_other w j i (get_or w j nan ⊕ x) nan h

pub add-length : (w : List Float) (j : ℕ) (x : Float) → length (add_at w j x) ≡ length w
unfolding add_at
add-length w j x = length-set w j (get_or w j nan ⊕ x)

-- what stands at base + p, where x was added at base + v
add-corner : (w : List Float) (b v p : ℕ) (x : Float) → b + v < length w → get_or (add_at w (b + v) x) (b + p) nan ≡ add_corner p v x (get_or w (b + p) nan)
add-corner w b v p x h = go (ℕ_discrete p v)
  where
    go : Dec (p ≡ v) → get_or (add_at w (b + v) x) (b + p) nan ≡ cond (eqb p v) (get_or w (b + p) nan ⊕ x) (get_or w (b + p) nan)
    go (yes z) = rw (eq-eqb p v z, z) (add_same w (b + v) x h)
    go (no z) = rw (ne_eqb p v z) (add-other w (b + v) (b + p) x (omega arith))

-- ---- the three sums of one corner

module _ (g n v : ℕ) (x y a : Float) (w : List Float) (h : v < n) (room : g + 3 * n ≤ length w) where
  w₁ : List Float
  w₁ = add_at w (g + v) x

  w₂ : List Float
  unfolding w₁
  w₂ = add_at w₁ (g + n + v) y

  len₁ : length w₁ ≡ length w
  unfolding w₁
  len₁ = add-length w (g + v) x

  len₂ : length w₂ ≡ length w
  unfolding w₂
  len₂ = add-length w₁ (g + n + v) y ∙ len₁

  pub three-length : length (add_three g n v x y a w) ≡ length w
  unfolding add_three w₂ w₁
  three-length = add-length w₂ (g + 2 * n + v) a ∙ len₂

  pub three-x : (p : ℕ) → p < n → get_or (add_three g n v x y a w) (g + p) nan ≡ add_corner p v x (get_or w (g + p) nan)
  unfolding add_three w₂ w₁
  three-x p q = add-other w₂ (g + 2 * n + v) (g + p) a (omega arith) ∙ add-other w₁ (g + n + v) (g + p) y (omega arith) ∙ add-corner w g v p x (omega arith)

  pub three-y : (p : ℕ) → p < n → get_or (add_three g n v x y a w) (g + n + p) nan ≡ add_corner p v y (get_or w (g + n + p) nan)
  unfolding add_three w₂ w₁
  three-y p q =
      add-other w₂ (g + 2 * n + v) (g + n + p) a (omega arith) ∙ add-corner w₁ (g + n) v p y (omega (arith, len₁))
      ∙ ap (add_corner p v y) (add-other w (g + v) (g + n + p) x (omega arith))

  pub three-a : (p : ℕ) → p < n → get_or (add_three g n v x y a w) (g + 2 * n + p) nan ≡ add_corner p v a (get_or w (g + 2 * n + p) nan)
  unfolding add_three w₂ w₁
  three-a p q =
      add-corner w₂ (g + 2 * n) v p a (omega (arith, len₂))
      ∙ ap (add_corner p v a) (add-other w₁ (g + n + v) (g + 2 * n + p) y (omega arith) ∙ add-other w (g + v) (g + 2 * n + p) x (omega arith))

  pub three-else : (j : ℕ) → (j < g) ⊎ (g + 3 * n ≤ j) → get_or (add_three g n v x y a w) j nan ≡ get_or w j nan
  unfolding add_three w₂ w₁
  three-else j q =
      add-other w₂ (g + 2 * n + v) j a (⊎_elim (λ b. omega arith) (λ b. omega arith) q) ∙ add-other w₁ (g + n + v) j y (⊎_elim (λ b. omega arith) (λ b. omega arith) q)
      ∙ add-other w (g + v) j x (⊎_elim (λ b. omega arith) (λ b. omega arith) q)

-- ---- the three corners of a triangle

module _ (g n : ℕ) (i j k : ℕ) (x y a : Float) (w : List Float) (hi : i < n) (hj : j < n) (hk : k < n) (room : g + 3 * n ≤ length w) where
  v₁ : List Float
  v₁ = add_three g n i x y a w

  v₂ : List Float
  unfolding v₁
  v₂ = add_three g n j x y a v₁

  r₁ : g + 3 * n ≤ length v₁
  unfolding v₁
  r₁ = omega (arith, three-length g n i x y a w hi room)

  r₂ : g + 3 * n ≤ length v₂
  unfolding v₂
  r₂ = omega (arith, three-length g n j x y a v₁ hj r₁, r₁)

  pub tri-length : length (add_triangle g n (tri i j k) x y a w) ≡ length w
  unfolding v₂ v₁
  tri-length = three-length g n k x y a v₂ hk r₂ ∙ three-length g n j x y a v₁ hj r₁ ∙ three-length g n i x y a w hi room

  pub tri-x : (p : ℕ) → p < n → get_or (add_triangle g n (tri i j k) x y a w) (g + p) nan ≡ add_tri p (tri i j k) x (get_or w (g + p) nan)
  unfolding v₂ v₁
  tri-x p h = three-x g n k x y a v₂ hk r₂ p h ∙ ap (add_corner p k x) (three-x g n j x y a v₁ hj r₁ p h ∙ ap (add_corner p j x) (three-x g n i x y a w hi room p h))

  pub tri-y : (p : ℕ) → p < n → get_or (add_triangle g n (tri i j k) x y a w) (g + n + p) nan ≡ add_tri p (tri i j k) y (get_or w (g + n + p) nan)
  unfolding v₂ v₁
  tri-y p h = three-y g n k x y a v₂ hk r₂ p h ∙ ap (add_corner p k y) (three-y g n j x y a v₁ hj r₁ p h ∙ ap (add_corner p j y) (three-y g n i x y a w hi room p h))

  pub tri-a : (p : ℕ) → p < n → get_or (add_triangle g n (tri i j k) x y a w) (g + 2 * n + p) nan ≡ add_tri p (tri i j k) a (get_or w (g + 2 * n + p) nan)
  unfolding v₂ v₁
  tri-a p h = three-a g n k x y a v₂ hk r₂ p h ∙ ap (add_corner p k a) (three-a g n j x y a v₁ hj r₁ p h ∙ ap (add_corner p j a) (three-a g n i x y a w hi room p h))

  pub tri-else : (q : ℕ) → (q < g) ⊎ (g + 3 * n ≤ q) → get_or (add_triangle g n (tri i j k) x y a w) q nan ≡ get_or w q nan
  unfolding v₂ v₁
  tri-else q h = three-else g n k x y a v₂ hk r₂ q h ∙ three-else g n j x y a v₁ hj r₁ q h ∙ three-else g n i x y a w hi room q h

-- ---- all the triangles

pub gathered-more : {p : GradientsPlan} {t : ℕ} {u : List ℕ} {w₀ w w' : List Float} → GradientsRoom p (length w₀) (length u) → Below p.points p.wound u (3 * p.triangles) → t < p.triangles → GatheredTo p t u w₀ w → GatheredTriangle p t u w w'
    → GatheredTo p (t + 1) u w₀ w'
unfolding sum_to
gathered-more {p} {t} {u} {w₀} {w} {w'} room below h k e =
    record {
      same_length = ap length z ∙ tri-length g n i j l X Y A w b.0 b.1.0 b.1.1 rm ∙ k.same_length;
      sums-x = λ v q. rw (add-one t) (ap (λ (o : List Float). get_or o (g + v) nan) z ∙ tri-x g n i j l X Y A w b.0 b.1.0 b.1.1 rm v q ∙ ap (add_tri v (tri i j l) X) (k.sums-x v q));
      sums-y = λ v q. rw (add-one t) (ap (λ (o : List Float). get_or o (g + n + v) nan) z ∙ tri-y g n i j l X Y A w b.0 b.1.0 b.1.1 rm v q ∙ ap (add_tri v (tri i j l) Y) (k.sums-y v q));
      all-weights = λ v q. rw (add-one t) (ap (λ (o : List Float). get_or o (g + 2 * n + v) nan) z ∙ tri-a g n i j l X Y A w b.0 b.1.0 b.1.1 rm v q ∙ ap (add_tri v (tri i j l) A) (k.all-weights v q));
      elsewhere = λ q r. ap (λ (o : List Float). get_or o q nan) z ∙ tri-else g n i j l X Y A w b.0 b.1.0 b.1.1 rm q r ∙ k.elsewhere q r;
    }
  where
    g : ℕ
    g = p.gradients

    n : ℕ
    n = p.points

    i : ℕ
    i = get_or u (p.wound + 3 * t) 0

    j : ℕ
    j = get_or u (p.wound + 3 * t + 1) 0

    l : ℕ
    l = get_or u (p.wound + 3 * t + 2) 0

    b : Cornered p.points (tri_from p.wound u t)
    b = corners-below p.points p.wound u t (λ q r. below q (omega arith))

    rm : p.gradients + 3 * p.points ≤ length w
    rm = omega (arith, room.sums-in, k.same_length)

    X : Float
    X = part_x p w₀ u t

    Y : Float
    Y = part_y p w₀ u t

    A : Float
    A = coords_from w₀ p.areas t

    same : (q : ℕ) → q < p.gradients → get_or w q nan ≡ get_or w₀ q nan
    same q r = k.elsewhere q (inl r)

    z : w' ≡ add_triangle p.gradients p.points (tri i j l) X Y A w
    z = e ∙ rw (part-x-same p u w₀ w room below same t h, part-y-same p u w₀ w room below same t h, area_same p u w₀ w room below same t h)

-- ---- over sums of 0

module _ (p : GradientsPlan) (u : List ℕ) (w : List Float) {w₁ : List Float} (room : GradientsRoom p (length w) (length u)) (filled : w₁ ≡ put w p.gradients (replicate (3 * p.points) (lit 0))) where
  zero-at : (j : ℕ) → j < 3 * p.points → get_or w₁ (p.gradients + j) nan ≡ lit 0
  zero-at j h =
      ap (λ (l : List Float). get_or l (p.gradients + j) nan) filled
      ∙ put-within w p.gradients (replicate (3 * p.points) (lit 0)) j nan (omega (arith, length-replicate {A = Float} (3 * p.points) (lit 0))) (omega (arith, room.sums-in))
      ∙ get_or-replicate (3 * p.points) j (lit 0) nan h

  zero-from : (b v : ℕ) → p.gradients ≤ b → b + v < p.gradients + 3 * p.points → get_or w₁ (b + v) nan ≡ lit 0
  zero-from b v h g =
      let e : b + v ≡ p.gradients + (b - p.gradients + v) = omega arith in
      ap (λ (j : ℕ). get_or w₁ j nan) e ∙ zero-at (b - p.gradients + v) (omega arith)

  pub filled-length : length w₁ ≡ length w
  filled-length = ap length filled ∙ length-put w p.gradients (replicate (3 * p.points) (lit 0))

  else-where : (j : ℕ) → (j < p.gradients) ⊎ (p.gradients + 3 * p.points ≤ j) → get_or w₁ j nan ≡ get_or w j nan
  else-where j h =
      let off : Apart p.gradients (3 * p.points) j 1 = ⊎_elim (λ b. omega (arith, apart)) (λ b. omega (arith, apart)) h in
      let e : j + 0 ≡ j = omega arith in
      ap (λ (l : List Float). get_or l j nan) filled ∙ (rw e at (put-else w p.gradients (replicate (3 * p.points) (lit 0)) (length-replicate (3 * p.points) (lit 0)) nan j 1 0 off (omega arith)))

  pub gathered_none : GatheredTo p 0 u w₁ w₁
  unfolding sum_to
  gathered_none = record {
    same_length = refl;
    sums-x = λ v h. zero-from p.gradients v (omega arith) (omega arith);
    sums-y = λ v h. zero-from (p.gradients + p.points) v (omega arith) (omega arith);
    all-weights = λ v h. zero-from (p.gradients + 2 * p.points) v (omega arith) (omega arith);
    elsewhere = λ j h. refl;
  }

  -- and so from the slice as it was before
  pub gathered-all : Below p.points p.wound u (3 * p.triangles) → {w₂ : List Float} → GatheredTo p p.triangles u w₁ w₂ → GatheredTo p p.triangles u w w₂
  gathered-all below k = record {
    same_length = k.same_length ∙ filled-length;
    sums-x = λ v h. k.sums-x v h ∙ sum_same _ _ _ _ v p.triangles (λ i l. refl) (part-x-same p u w w₁ room below before);
    sums-y = λ v h. k.sums-y v h ∙ sum_same _ _ _ _ v p.triangles (λ i l. refl) (part-y-same p u w w₁ room below before);
    all-weights = λ v h. k.all-weights v h ∙ sum_same _ _ _ _ v p.triangles (λ i l. refl) (area_same p u w w₁ room below before);
    elsewhere = λ j h. k.elsewhere j h ∙ else-where j h;
  }
    where
      before : (j : ℕ) → j < p.gradients → get_or w₁ j nan ≡ get_or w j nan
      before j h = else-where j (inl h)
