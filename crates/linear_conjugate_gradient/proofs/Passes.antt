-- What the passes over memory make of the vectors: `update`, `advance` and `direct`. Assumes nothing.
use mathlib.Core.Path.{◌≡◌, ap, ◌∙◌}
use mathlib.Core.List.{List}
use Prim.Native.Nat.{ℕ}
use lib.Ieee.{Float, nan}
use lib.ListN.{length}
use Rattle.complex.specs.declared.Complex.{Complex}
use Rattle.linear_cells.specs.Region.{region}
use Rattle.linear_cells.specs.Cell.{region_c, put_c}
use Rattle.linear_hermitian.specs.Hermitian.{scaled}
use Rattle.linear_hermitian.proofs.Product.{length-scaled}
use Rattle.linear_vectors.specs.declared.residual.Sums.{Sums}
use Rattle.linear_vectors.specs.Vectors.{zip_of, add_scaled}
use Rattle.linear_vectors.proofs.Zip.{length-zip_of}
use Rattle.linear_vectors.specs.ResidualWork.{Reduced}
use Rattle.linear_vectors.proofs.Residuals.{length-products_of}
use Rattle.linear_conjugate_gradient.specs.declared.Vectors.{Vectors}
use Rattle.linear_conjugate_gradient.specs.Solve.{State, preconditioned, residual_dot, reduced, advanced, directed}
use Rattle.linear_conjugate_gradient.specs.Work.{read, lay, VectorRoom, Updated}
use Rattle.linear_conjugate_gradient.proofs.Lays.{Sized, read-sized, lay-read, put-x, put-r, put-p, put-q}

-- ---- what the passes leave is sized

pub reduced-sized : (n : ℕ) (alpha : Float) (s : State) → Sized n s → Sized n (reduced alpha s)
unfolding reduced
reduced-sized n alpha s z = record {
  x-n = z.x-n;
  r-n = rw length-zip_of z.r-n;
  p-n = z.p-n;
  q-n = rw (length-products_of, length-zip_of) z.r-n;
  inverse-n = z.inverse-n;
}

pub advanced-sized : (n : ℕ) (alpha : Float) (s : State) → Sized n s → Sized n (advanced alpha s)
unfolding advanced
advanced-sized n alpha s z = record { x-n = rw length-zip_of z.x-n; r-n = z.r-n; p-n = z.p-n; q-n = z.q-n; inverse-n = z.inverse-n }

pub directed-sized : (n : ℕ) (beta : Float) (s : State) → Sized n s → Sized n (directed beta s)
unfolding directed preconditioned
directed-sized n beta s z = record { x-n = z.x-n; r-n = z.r-n; p-n = rw (length-zip_of, length-scaled) z.r-n; q-n = z.q-n; inverse-n = z.inverse-n }

module _ (w : List Float) (n : ℕ) (l : Vectors) (ok : VectorRoom (length w) n l) where
  abbrev s : State
  s = read w n l

  z : Sized n s
  z = read-sized w n l

  -- ---- update

  pub update_all : {alpha : Float} {w₁ : List Float} {t : Sums} → Reduced w w₁ l.residual l.applied l.inverse n alpha t → Updated w w₁ n l alpha t
  unfolding reduced residual_dot preconditioned read
  update_all {alpha} {w₁} {t} e =
      let y : Sized n (reduced alpha s) = reduced-sized n alpha s z in
      let r : List Complex = (reduced alpha s).r in
      let s₁ : State = record { x = s.x; r = r; p = s.p; q = s.q; inverse = s.inverse } in
      let z₁ : Sized n s₁ = record { x-n = z.x-n; r-n = y.r-n; p-n = z.p-n; q-n = z.q-n; inverse-n = z.inverse-n } in
      let f : put_c w l.residual r ≡ lay w n l s₁ = ap (λ v. put_c v l.residual r) (lay-read w n l) ∙ put-r w n l ok s z r y.r-n in
      record {
        work = e.work ∙ rw f (put-q w n l ok s₁ z₁ (reduced alpha s).q y.q-n);
        square = e.square;
        next = e.next;
      }

  -- ---- advance and direct

  advanced-lay : (alpha : Float) → put_c w l.x (zip_of (add_scaled alpha) (region_c w l.x n) (region_c w l.direction n)) ≡ lay w n l (advanced alpha s)
  unfolding advanced read
  advanced-lay alpha =
      ap (λ v. put_c v l.x (advanced alpha s).x) (lay-read w n l)
      ∙ put-x w n l ok s z (advanced alpha s).x (advanced-sized n alpha s z).x-n

  pub advance-all : (alpha : Float) {w₁ : List Float} → w₁ ≡ put_c w l.x (zip_of (add_scaled alpha) (region_c w l.x n) (region_c w l.direction n))
      → w₁ ≡ lay w n l (advanced alpha (read w n l))
  advance-all alpha e = e ∙ advanced-lay alpha

  pub direct-all : (alpha beta : Float) {w₁ : List Float}
      → w₁ ≡ put_c (put_c w l.x (zip_of (add_scaled alpha) (region_c w l.x n) (region_c w l.direction n))) l.direction
      (zip_of (add_scaled beta) (scaled (region nan w l.inverse n) (region_c w l.residual n)) (region_c w l.direction n))
      → w₁ ≡ lay w n l (directed beta (advanced alpha (read w n l)))
  unfolding directed advanced preconditioned read
  direct-all alpha beta e =
      let t : State = advanced alpha s in
      let y : Sized n t = advanced-sized n alpha s z in
      e ∙ rw (advanced-lay alpha) (put-p w n l ok t y (directed beta t).p (directed-sized n beta t y).p-n)
