-- The iterations of the loop over the edges, and the product of a matrix and a vector, over lists. Assumes nothing.
use mathlib.Core.Path.{◌≡◌, refl, sym, ◌∙◌}
use mathlib.Core.List.{List}
use Prim.Native.Nat.{ℕ, ◌+◌, ◌*◌, ◌≤◌, ◌<◌}
use native.Mathlib.Omega.{arith}
use lib.Ieee.{Float, nan}
use lib.ListN.{length, get_or, set, length-set}
use lib.Seq.{get_or-set_other}
use Rattle.complex.specs.declared.Complex.{Complex}
use Rattle.complex.specs.Complex.{cnan, cadd, cmul, cconj}
use Rattle.linear_cells.specs.Iter.{iter}
use Rattle.linear_cells.specs.Region.{region, Apart}
use Rattle.linear_cells.specs.Cell.{get_c, region_c, put_c}
use Rattle.linear_cells.proofs.Loops.{iter-none, iter-more, iter-keeps, length-tab}
use Rattle.linear_cells.proofs.Cells.{put_c-region_c, region_c-else, region_c-put_c, put_c-put_c, get_or-region_c, length-region_c, put_c-at, put_c-set, put_c-else}
use Rattle.linear_hermitian.specs.declared.Hermitian.{Hermitian}
use Rattle.linear_hermitian.specs.Hermitian.{Matrix, scaled, add_at, edge_step, edged, applied}
use Rattle.linear_hermitian.specs.Work.{matrix, Graph, EdgesRoom, ApplyRoom, ends_c, edge_c}

length-add_at : (v : List Complex) (i : ℕ) (z : Complex) → length (add_at v i z) ≡ length v
unfolding add_at
length-add_at v i z = length-set v i (cadd (get_or v i cnan) z)

pub length-scaled : (d : List Float) (x : List Complex) → length (scaled d x) ≡ length x
unfolding scaled
length-scaled d x = length-tab _ (length x)

pub length-edged : (m : Matrix) (x y : List Complex) → length (edged m x y) ≡ length y
unfolding edged edge_step
length-edged m x y = iter-keeps (λ v. length v ≡ length y) _ (length m.edge_a) y refl (λ i v l h. simp length-add_at h)

pub length-applied : (m : Matrix) (x : List Complex) → length (applied m x) ≡ length x
unfolding applied
length-applied m x = rw (length-edged, length-scaled)

-- ---- an edge's iteration

-- where y's region is v
put_c-edge : (w : List Float) (y x off m n : ℕ) (v : List Complex) → length v ≡ n → y + 2 * n ≤ length w → Apart y (2 * n) off (2 * m) → Apart y (2 * n) x (2 * n)
    → (e a b : ℕ) → e < m → a < n → b < n → (a ≡ b → ⊥)
    → edge_c (put_c w y v) y x off n m e a b ≡ put_c w y (add_at (add_at v a (cmul (get_c w off m e) (get_c w x n b))) b (cmul (cconj (get_c w off m e)) (get_c w x n a)))
unfolding edge_c ends_c add_at
put_c-edge w y x off m n v k h ao ax e a b le la lb ne =
    let p : Complex = cadd (get_or v a cnan) (cmul (get_c w off m e) (get_c w x n b)) in
    let other : get_or (set v a p) b cnan ≡ get_or v b cnan = get_or-set_other v a b p cnan (λ z. ne (sym z)) in
    rw (
      put_c-else w y v k off m e ao le,
      put_c-else w y v k x n a ax la,
      put_c-else w y v k x n b ax lb,
      put_c-at w y v k a la h,
      put_c-at w y v k b lb h,
      put_c-set w y v k a p la,
      other,
    )
    (put_c-set w y (set v a p) (length-set v a p ∙ k) b _ lb)

module _ (w : List Float) (y x : ℕ) (h : Hermitian) (from to : List ℕ) where
  unfoldable pub edges_to : ℕ → List Complex
  edges_to e = iter (edge_step (matrix w h from to) (region_c w x h.size)) e (region_c w y h.size)

  length-edges_to : (e : ℕ) → length (edges_to e) ≡ h.size
  unfolding edges_to edge_step
  length-edges_to e = iter-keeps (λ v. length v ≡ h.size) _ e (region_c w y h.size) (length-region_c w y h.size) (λ i v l h. simp length-add_at h)

  edges_more : (e : ℕ) → e < h.edges → get_or from e 0 < h.size → get_or to e 0 < h.size
      → edges_to (e + 1) ≡ add_at (add_at (edges_to e) (get_or from e 0) (cmul (get_c w h.off h.edges e) (get_c w x h.size (get_or to e 0)))) (get_or to e 0) (cmul (cconj (get_c w h.off h.edges e)) (get_c w x h.size (get_or from e 0)))
  unfolding edges_to edge_step matrix
  edges_more e l la lb =
      iter-more _ e (region_c w y h.size) ∙ rw (get_or-region_c w h.off h.edges e l, get_or-region_c w x h.size (get_or from e 0) la, get_or-region_c w x h.size (get_or to e 0) lb)

  pub edges_none : w ≡ put_c w y (edges_to 0)
  unfolding edges_to
  edges_none = rw (iter-none, put_c-region_c)

  pub edges-again : EdgesRoom (length w) h.off x y h.size h.edges → Graph h from to → (e : ℕ) → e < length from → {w₁ w₂ : List Float}
      → w₁ ≡ put_c w y (edges_to e) → w₂ ≡ edge_c w₁ y x h.off h.size h.edges e (get_or from e 0) (get_or to e 0) → w₂ ≡ put_c w y (edges_to (e + 1))
  edges-again p g e l e₁ e₂ =
      let la : get_or from e 0 < h.size = g.a-below e l in
      let lb : get_or to e 0 < h.size = g.b-below e (omega arith) in
      let le : e < h.edges = omega arith in
      e₂ ∙ rw (e₁, edges_more e le la lb) (put_c-edge w y x h.off h.edges h.size (edges_to e) (length-edges_to e) p.y-in p.y-off p.y-x e _ _ le la lb (g.different e l))

  pub edges-done : {w₁ : List Float} {e m : ℕ} → m ≡ length from → e ≤ length from → m ≤ e → w₁ ≡ put_c w y (edges_to e)
      → w₁ ≡ put_c w y (edged (matrix w h from to) (region_c w x h.size) (region_c w y h.size))
  unfolding edges_to edged matrix
  edges-done {w₁} {e} k l g i = let z : e ≡ length from = omega arith in i ∙ rw z

  -- ---- the product

  pub apply-all : ApplyRoom (length w) h x y → {w₁ w₂ : List Float}
      → w₁ ≡ put_c w y (scaled (region nan w h.diagonal h.size) (region_c w x h.size))
      → w₂ ≡ put_c w₁ y (edged (matrix w₁ h from to) (region_c w₁ x h.size) (region_c w₁ y h.size))
      → w₂ ≡ put_c w y (applied (matrix w h from to) (region_c w x h.size))
  unfolding applied matrix edged edge_step
  apply-all p {w₁} {w₂} e₁ e₂ =
      let v : List Complex = scaled (region nan w h.diagonal h.size) (region_c w x h.size) in
      let k : length v ≡ h.size = rw (length-scaled, length-region_c) in
      e₂ ∙ rw (
        e₁,
        region_c-else w y v k h.off h.edges p.edges_room.y-off,
        region_c-else w y v k x h.size p.edges_room.y-x,
        region_c-put_c w y v k p.edges_room.y-in,
      )
      (put_c-put_c w y _ (iter-keeps (λ t. length t ≡ h.size) _ (length from) v k (λ i t l z. simp length-add_at z)) v k)
