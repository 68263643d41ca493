-- The work slice as five vectors over a matrix: one read, one written, all of them. Assumes nothing.
use mathlib.Core.Path.{◌≡◌, sym, ◌∙◌}
use mathlib.Core.List.{List, []}
use Prim.Native.Nat.{ℕ, ◌+◌, ◌*◌, ◌≤◌, ◌<◌}
use native.Mathlib.Omega.{arith}
use lib.Ieee.{Float, nan}
use lib.ListN.{length, get_or, set}
use Rattle.complex.specs.declared.Complex.{Complex}
use Rattle.linear_cells.specs.Region.{region, put}
use Rattle.linear_cells.specs.Cell.{flat, region_c, put_c}
use Rattle.linear_cells.specs.Spans.{span, contents, laid, Spanned}
use Rattle.linear_cells.proofs.Regions.{length-region}
use Rattle.linear_cells.proofs.Cells.{length-flat, length-region_c, flat-region_c, region_c-flat, region_c-same}
use Rattle.linear_cells.proofs.Rows.{laid-rows, laid-below, laid-at, laid-set, laid-laid, length-laid}
use Rattle.linear_hermitian.specs.declared.Hermitian.{Hermitian}
use Rattle.linear_hermitian.specs.Work.{matrix}
use Rattle.linear_conjugate_gradient.specs.declared.Vectors.{Vectors}
use Rattle.linear_conjugate_gradient.specs.Solve.{State}
use Rattle.linear_conjugate_gradient.specs.Work.{bases, vectors, read, lay, VectorRoom, SolverRoom}

-- every vector has n elements
pub record Sized (n : ℕ) (s : State) : Type 0 where
  pub x-n : length s.x ≡ n
  pub r-n : length s.r ≡ n
  pub p-n : length s.p ≡ n
  pub q-n : length s.q ≡ n
  pub inverse-n : length s.inverse ≡ n

rowed : (n : ℕ) (l : Vectors) (s : State) → Sized n s → Spanned (bases n l) (vectors s)
rowed n l s z =
    (length-flat s.x z.x-n, (length-flat s.r z.r-n, (length-flat s.p z.p-n, (length-flat s.q z.q-n, (z.inverse-n, tt)))))

pub read-sized : (w : List Float) (n : ℕ) (l : Vectors) → Sized n (read w n l)
unfolding read
read-sized w n l = record {
  x-n = length-region_c w l.x n;
  r-n = length-region_c w l.residual n;
  p-n = length-region_c w l.direction n;
  q-n = length-region_c w l.applied n;
  inverse-n = length-region nan w l.inverse n;
}

pub lay-read : (w : List Float) (n : ℕ) (l : Vectors) → w ≡ lay w n l (read w n l)
unfolding lay read contents
lay-read w n l =
    sym (rw (flat-region_c w l.x n, flat-region_c w l.residual n, flat-region_c w l.direction n, flat-region_c w l.applied n) (laid-rows nan w (bases n l)))

pub length-lay : (w : List Float) (n : ℕ) (l : Vectors) (s : State) → length (lay w n l s) ≡ length w
unfolding lay
length-lay w n l s = length-laid nan w (bases n l) (vectors s)

module _ (w : List Float) (n : ℕ) (l : Vectors) (ok : VectorRoom (length w) n l) (s : State) (z : Sized n s) where
  get : (j : ℕ) → j < 5 → region nan (laid w (bases n l) (vectors s)) (get_or (bases n l) j (span 0 0)).base (get_or (bases n l) j (span 0 0)).size ≡ get_or (vectors s) j []
  get j h = laid-at nan w l.x (bases n l) (vectors s) ok.vectors-in (rowed n l s z) j h

  store : (j : ℕ) → j < 5 → (v : List Float) → length v ≡ (get_or (bases n l) j (span 0 0)).size
      → put (laid w (bases n l) (vectors s)) (get_or (bases n l) j (span 0 0)).base v ≡ laid w (bases n l) (set (vectors s) j v)
  store j h v k = laid-set nan w l.x (length w) (bases n l) (vectors s) ok.vectors-in (rowed n l s z) j h v k

  -- ---- one vector read, one written

  pub get-x : region_c (lay w n l s) l.x n ≡ s.x
  unfolding lay
  get-x = region_c-flat _ l.x n s.x z.x-n (get 0 (omega arith))

  pub get-r : region_c (lay w n l s) l.residual n ≡ s.r
  unfolding lay
  get-r = region_c-flat _ l.residual n s.r z.r-n (get 1 (omega arith))

  pub get-p : region_c (lay w n l s) l.direction n ≡ s.p
  unfolding lay
  get-p = region_c-flat _ l.direction n s.p z.p-n (get 2 (omega arith))

  pub get-q : region_c (lay w n l s) l.applied n ≡ s.q
  unfolding lay
  get-q = region_c-flat _ l.applied n s.q z.q-n (get 3 (omega arith))

  pub get-inverse : region nan (lay w n l s) l.inverse n ≡ s.inverse
  unfolding lay
  get-inverse = get 4 (omega arith)

  pub put-x : (v : List Complex) → length v ≡ n → put_c (lay w n l s) l.x v ≡ lay w n l (record { x = v; r = s.r; p = s.p; q = s.q; inverse = s.inverse })
  unfolding lay put_c
  put-x v h = store 0 (omega arith) (flat v) (length-flat v h)

  pub put-r : (v : List Complex) → length v ≡ n → put_c (lay w n l s) l.residual v ≡ lay w n l (record { x = s.x; r = v; p = s.p; q = s.q; inverse = s.inverse })
  unfolding lay put_c
  put-r v h = store 1 (omega arith) (flat v) (length-flat v h)

  pub put-p : (v : List Complex) → length v ≡ n → put_c (lay w n l s) l.direction v ≡ lay w n l (record { x = s.x; r = s.r; p = v; q = s.q; inverse = s.inverse })
  unfolding lay put_c
  put-p v h = store 2 (omega arith) (flat v) (length-flat v h)

  pub put-q : (v : List Complex) → length v ≡ n → put_c (lay w n l s) l.applied v ≡ lay w n l (record { x = s.x; r = s.r; p = s.p; q = v; inverse = s.inverse })
  unfolding lay put_c
  put-q v h = store 3 (omega arith) (flat v) (length-flat v h)

  pub put-inverse : (v : List Float) → length v ≡ n → put (lay w n l s) l.inverse v ≡ lay w n l (record { x = s.x; r = s.r; p = s.p; q = s.q; inverse = v })
  unfolding lay
  put-inverse v h = store 4 (omega arith) v h

  -- ---- what lies below the vectors

  pub get-below : (c m : ℕ) → c + m ≤ l.x → region nan (lay w n l s) c m ≡ region nan w c m
  unfolding lay
  get-below = laid-below nan w l.x (length w) (bases n l) (vectors s) ok.vectors-in (rowed n l s z)

  -- ---- all of them

  pub get-all : read (lay w n l s) n l ≡ s
  unfolding read
  get-all = λ k. record { x = get-x k; r = get-r k; p = get-p k; q = get-q k; inverse = get-inverse k }

  -- what a function makes of the vectors, where the slice holds s
  pub lay-then : (t : State) → Sized n t → {w₁ w₂ : List Float} → w₁ ≡ lay w n l s → w₂ ≡ lay w₁ n l t → w₂ ≡ lay w n l t
  unfolding lay
  lay-then t y e₁ e₂ =
      e₂ ∙ rw e₁ (laid-laid nan w l.x (length w) (bases n l) (vectors s) (vectors t) ok.vectors-in (rowed n l s z) (rowed n l t y))

-- the matrix lies below
pub get-matrix : (w : List Float) (h : Hermitian) (l : Vectors) → SolverRoom (length w) h l → (s : State) → Sized h.size s → (from to : List ℕ)
    → matrix (lay w h.size l s) h from to ≡ matrix w h from to
unfolding matrix
get-matrix w h l ok s z from to =
    let n : ℕ = h.size in
    let below = get-below w n l ok.vector-room s z in
    let d : region nan (lay w n l s) h.diagonal n ≡ region nan w h.diagonal n = below h.diagonal n ok.diagonal-below in
    let o : region_c (lay w n l s) h.off h.edges ≡ region_c w h.off h.edges =
    region_c-same (lay w n l s) w h.off h.edges (below h.off (2 * h.edges) ok.off-below) in
    λ k. record { diagonal = d k; off = o k; edge_a = from; edge_b = to }

-- a slice as long has the same room
pub same-room : {len len' : ℕ} → len' ≡ len → (h : Hermitian) (l : Vectors) → SolverRoom len h l → SolverRoom len' h l
same-room e h l ok = rw e ok
