-- A refined floor on even whole coordinates keeps its area, triangle by triangle. Assumes nothing.
use mathlib.Core.Path.{◌≡◌, refl, sym, ap, ap₂, ◌∙◌, subst}
use Prim.Native.Nat.{ℕ, ◌<◌}
use native.Mathlib.Omega.{arith}
use mathlib.Core.List.{List, [], ◌∷◌}
use mathlib.Core.Option.{Option, none, some}
use lib.Dec.{T}
use lib.IntN.{ℤ, nat_abs, ◌+ℤ◌}
use lib.Ieee.{Float}
use Rattle.mesh.specs.Mesh.{Tri, tri, total, pieces, refined, Good, All}
use Rattle.mesh.proofs.Whole.{total-append, All-map}
use Rattle.mesh.specs.Area.{is_whole, coord, signed, twice, shares, Shared, SharedOf}
use Rattle.mesh.specs.Points.{x_of, y_of}
use Rattle.mesh.specs.AreaClaim.{Placed, EvenPoints, whole_x, whole_y, twice_area, KeepsArea}
use Rattle.mesh.proofs.Area.{Near, Cut, split-shares, shared-area}
use Rattle.mesh.proofs.Coordinates.{halved, even-near, whole-near}

module _ (n : ℕ) (m : ℕ → ℕ → Option ℕ) (pts sizes pts' sizes' : List Float) (h : Placed n m pts sizes pts' sizes') (even : EvenPoints n pts) where
  -- the old points on the new floor
  same-x : (v : ℕ) → v < n → whole_x pts' v ≡ whole_x pts v
  same-x v l = ap coord (h.old-x v l)

  same-y : (v : ℕ) → v < n → whole_y pts' v ≡ whole_y pts v
  same-y v l = ap coord (h.old-y v l)

  same-signed : (t : Tri) → Good n t → signed (whole_x pts') (whole_y pts') t ≡ signed (whole_x pts) (whole_y pts) t
  unfolding signed
  same-signed (tri a b c) g = rw (same-x a g.0, same-y a g.0, same-x b g.1, same-y b g.1, same-x c g.2, same-y c g.2)

  same_area : (t : Tri) → Good n t → twice_area pts' t ≡ twice_area pts t
  unfolding twice
  same_area t g = ap nat_abs (same-signed t g)

  near : (v : ℕ) → v < n → Near 1048576 (whole_x pts') (whole_y pts') v
  near v l = (rw (same-x v l) (even-near (x_of pts v) (even.even-x v l)), rw (same-y v l) (even-near (y_of pts v) (even.even-y v l)))

  half-x : (u v p : ℕ) → u < n → v < n → m u v ≡ some p → T (is_whole (x_of pts' p)) × (whole_x pts' p +ℤ whole_x pts' p ≡ whole_x pts u +ℤ whole_x pts v)
  half-x u v p hu hv e =
      let k = halved (x_of pts u) (x_of pts v) (even.even-x u hu) (even.even-x v hv) in
      subst (λ (z : Float). T (is_whole z) × (coord z +ℤ coord z ≡ whole_x pts u +ℤ whole_x pts v)) (sym (h.mid-x u v p e)) (k.is-whole, k.in-middle)

  half-y : (u v p : ℕ) → u < n → v < n → m u v ≡ some p → T (is_whole (y_of pts' p)) × (whole_y pts' p +ℤ whole_y pts' p ≡ whole_y pts u +ℤ whole_y pts v)
  half-y u v p hu hv e =
      let k = halved (y_of pts u) (y_of pts v) (even.even-y u hu) (even.even-y v hv) in
      subst (λ (z : Float). T (is_whole z) × (coord z +ℤ coord z ≡ whole_y pts u +ℤ whole_y pts v)) (sym (h.mid-y u v p e)) (k.is-whole, k.in-middle)

  cut : (u v : ℕ) → u < n → v < n → (o : Option ℕ) → m u v ≡ o → Cut 1048576 (whole_x pts') (whole_y pts') o u v
  cut u v hu hv none e = tt
  cut u v hu hv (some p) e =
      let a = half-x u v p hu hv e in
      let b = half-y u v p hu hv e in
      ((whole-near (x_of pts' p) a.0, whole-near (y_of pts' p) b.0), (a.1 ∙ sym (ap₂ ◌+ℤ◌ (same-x u hu) (same-x v hv)), b.1 ∙ sym (ap₂ ◌+ℤ◌ (same-y u hu) (same-y v hv))))

  shared : (a b c : ℕ) → Good n (tri a b c) → Shared (whole_x pts') (whole_y pts') (signed (whole_x pts') (whole_y pts') (tri a b c)) (pieces m (tri a b c)) (shares (m a b) (m b c) (m c a))
  shared a b c g =
      split-shares 1048576 (whole_x pts') (whole_y pts') a b c (m a b) (m b c) (m c a) (near a g.0) (near b g.1) (near c g.2)
      (cut a b g.0 g.1 (m a b) refl) (cut b c g.1 g.2 (m b c) refl) (cut c a g.2 g.0 (m c a) refl)

  one : (t : Tri) → Good n t → SharedOf (whole_x pts) (whole_y pts) (whole_x pts') (whole_y pts') m t
  one (tri a b c) g = subst (λ (z : ℤ). Shared (whole_x pts') (whole_y pts') z (pieces m (tri a b c)) (shares (m a b) (m b c) (m c a))) (same-signed (tri a b c) g) (shared a b c g)

  one-area : (t : Tri) → Good n t → total (twice_area pts') (pieces m t) ≡ twice_area pts t
  one-area (tri a b c) g = shared-area (whole_x pts') (whole_y pts') (tri a b c) (pieces m (tri a b c)) (m a b) (m b c) (m c a) (shared a b c g) ∙ same_area (tri a b c) g

  whole-area : (ts : List Tri) → All (Good n) ts → total (twice_area pts') (refined m ts) ≡ total (twice_area pts) ts
  whole-area [] g = refl
  whole-area (t ∷ ts) g = omega (arith, total-append (twice_area pts') (pieces m t) (refined m ts), one-area t g.0, whole-area ts g.1)

  pub keeps-area : (ts : List Tri) → All (Good n) ts → KeepsArea n pts pts' m ts
  keeps-area ts g = record {
    exact = λ u v p hu hv e. ((half-x u v p hu hv e).0, (half-y u v p hu hv e).0, ((half-x u v p hu hv e).1, (half-y u v p hu hv e).1));
    each = All-map (Good n) (λ t. total (twice_area pts') (pieces m t) ≡ twice_area pts t) one-area ts g;
    all = whole-area ts g;
    wound = All-map (Good n) (SharedOf (whole_x pts) (whole_y pts) (whole_x pts') (whole_y pts') m) one ts g;
  }
