-- The iterations of the loops of `shifted` and `trace`, and what they make of a matrix. Assumes nothing.
use mathlib.Core.Path.{◌≡◌, sym, ap, ◌∙◌}
use mathlib.Core.List.{List}
use Prim.Native.Nat.{ℕ, ◌+◌, ◌*◌, ◌≤◌, ◌<◌}
use native.Mathlib.Omega.{arith}
use lib.Ieee.{Float, nan, neg, of_bits}
use lib.ListN.{length, get_or, set}
use Rattle.float.specs.Double.{lit, ◌⊕◌, ◌⊗◌}
use Rattle.complex.specs.declared.Complex.{Complex}
use Rattle.complex.specs.Complex.{cnan, cadd, cscale}
use Rattle.linear_cells.specs.Iter.{iter}
use Rattle.linear_cells.specs.Region.{region, put}
use Rattle.linear_cells.specs.Cell.{get_c, set_c, region_c, put_c}
use Rattle.linear_cells.proofs.Loops.{apart_other, iter-none, iter-more, length-tab}
use Rattle.linear_cells.proofs.Regions.{length-region, get_or-region, put-region, put-else, region-put, length-put}
use Rattle.linear_cells.proofs.Cells.{put_c-region_c, get_or-region_c, length-region_c, put_c-else, region_c-put_c, region_r-else, region_c-put-else}
use Rattle.linear_cells.proofs.Over.{over, over_none, length_over, over-all, over-region, over-read, over-cell}
use Rattle.linear_hermitian.specs.declared.Hermitian.{Hermitian}
use Rattle.linear_hermitian.specs.Hermitian.{shifted_diagonal, shifted_off, shifted_by, trace_step, trace_of}
use Rattle.linear_hermitian.specs.Work.{matrix, shift_matrix, PairRoom, ShiftRoom}

-- ---- trace

module _ (w : List Float) (d n : ℕ) where
  unfoldable pub trace_to : ℕ → Float
  trace_to i = iter (trace_step (region nan w d n)) i (lit 0x8000_0000_0000_0000)

  pub trace-none : {r : Float} → r ≡ neg (lit 0) → r ≡ trace_to 0
  unfolding trace_to neg of_bits
  trace-none e = e ∙ sym (iter-none _ (lit 0x8000_0000_0000_0000))

  pub trace-again : (i : ℕ) → i < n → {s r : Float} → s ≡ trace_to i → r ≡ s ⊕ get_or w (d + i) nan → r ≡ trace_to (i + 1)
  unfolding trace_to trace_step
  trace-again i l e₁ e₂ = e₂ ∙ rw (e₁, iter-more, get_or-region w d n i nan l)

  pub trace-done : {i : ℕ} {s : Float} → i ≤ n → n ≤ i → s ≡ trace_to i → s ≡ trace_of (region nan w d n)
  unfolding trace_to trace_of
  trace-done {i} l g e = let z : i ≡ n = omega arith in e ∙ rw (z, length-region)

-- ---- the diagonal

module _ (w : List Float) (y x n : ℕ) (shift : Float) where
  real_at : ℕ → Float → Float
  real_at i z = z ⊕ shift ⊗ get_or (region nan w x n) i nan

  unfoldable pub shift_real_to : ℕ → List Float
  unfolding real_at
  shift_real_to i = over real_at nan i (region nan w y n)

  pub shift-real-none : w ≡ put w y (shift_real_to 0)
  unfolding shift_real_to
  shift-real-none = rw (over_none, put-region)

  pub shift-real-again : PairRoom (length w) x y n → (i : ℕ) → i < n → {w₁ w₂ : List Float} → w₁ ≡ put w y (shift_real_to i)
      → w₂ ≡ set w₁ (y + i) (get_or w₁ (y + i) nan ⊕ shift ⊗ get_or w₁ (x + i) nan) → w₂ ≡ put w y (shift_real_to (i + 1))
  unfolding shift_real_to real_at
  shift-real-again p i l {w₁} e₁ e₂ =
      let e : length (shift_real_to i) ≡ n = length_over _ nan i (region nan w y n) ∙ length-region nan w y n in
      let r : get_or w₁ (x + i) nan ≡ get_or (region nan w x n) i nan =
      ap (λ t. get_or t (x + i) nan) e₁ ∙ put-else w y (shift_real_to i) e nan x n i p.y-x l ∙ sym (get_or-region w x n i nan l) in
      e₂ ∙ rw (r, e₁) (over-region real_at nan w y (region nan w y n) (length-region nan w y n) p.y-in i l)

  pub shift-real-done : {w₁ : List Float} {i : ℕ} → i ≤ n → n ≤ i → w₁ ≡ put w y (shift_real_to i) → w₁ ≡ put w y (shifted_diagonal shift (region nan w x n) (region nan w y n))
  unfolding shift_real_to shifted_diagonal real_at
  shift-real-done {w₁} {i} l g e =
      let z : i ≡ n = omega arith in
      e ∙ rw z (ap (put w y) (over-all real_at nan (region nan w y n) (length-region nan w y n) ∙ rw length-region))

  -- ---- the entries off it

  cell_at : ℕ → Complex → Complex
  cell_at i z = cadd z (cscale (get_or (region_c w x n) i cnan) shift)

  unfoldable pub shift_to : ℕ → List Complex
  unfolding cell_at
  shift_to i = over cell_at cnan i (region_c w y n)

  pub shift_none : w ≡ put_c w y (shift_to 0)
  unfolding shift_to
  shift_none = rw (over_none, put_c-region_c)

  pub shift-again : PairRoom (length w) x y (2 * n) → (i : ℕ) → i < n → {w₁ w₂ : List Float} → w₁ ≡ put_c w y (shift_to i)
      → w₂ ≡ set_c w₁ y n i (cadd (get_c w₁ y n i) (cscale (get_c w₁ x n i) shift)) → w₂ ≡ put_c w y (shift_to (i + 1))
  unfolding shift_to cell_at
  shift-again p i l {w₁} e₁ e₂ =
      let k : length (region_c w y n) ≡ n = length-region_c w y n in
      let e : length (shift_to i) ≡ n = length_over _ cnan i (region_c w y n) ∙ k in
      e₂ ∙ rw (e₁, put_c-else w y (shift_to i) e x n i p.y-x l, ← get_or-region_c w x n i l, over-read cell_at w y (region_c w y n) k p.y-in i l)
      (over-cell cell_at w y (region_c w y n) k p.y-in i l)

  pub shift-done : {w₁ : List Float} {i : ℕ} → i ≤ n → n ≤ i → w₁ ≡ put_c w y (shift_to i) → w₁ ≡ put_c w y (shifted_off shift (region_c w x n) (region_c w y n))
  unfolding shift_to shifted_off cell_at
  shift-done {w₁} {i} l g e =
      let z : i ≡ n = omega arith in
      e ∙ rw z (ap (put_c w y) (over-all cell_at cnan (region_c w y n) (length-region_c w y n) ∙ rw length-region_c))

-- ---- the matrix

length-shifted_diagonal : (k : Float) (m d : List Float) → length (shifted_diagonal k m d) ≡ length d
unfolding shifted_diagonal
length-shifted_diagonal k m d = length-tab _ (length d)

length-shifted_off : (k : Float) (m d : List Complex) → length (shifted_off k m d) ≡ length d
unfolding shifted_off
length-shifted_off k m d = length-tab _ (length d)

module _ (w : List Float) (h : Hermitian) (shift : Float) (mass : Hermitian) where
  pub shifted-all : ShiftRoom (length w) h mass → {w₁ w₂ : List Float}
      → w₁ ≡ put w h.diagonal (shifted_diagonal shift (region nan w mass.diagonal h.size) (region nan w h.diagonal h.size))
      → w₂ ≡ put_c w₁ h.off (shifted_off shift (region_c w₁ mass.off h.edges) (region_c w₁ h.off h.edges))
      → w₂ ≡ shift_matrix w h shift mass
  unfolding shift_matrix
  shifted-all p {w₁} e₁ e₂ =
      let v : List Float = shifted_diagonal shift (region nan w mass.diagonal h.size) (region nan w h.diagonal h.size) in
      let k : length v ≡ h.size = length-shifted_diagonal shift _ _ ∙ length-region nan w h.diagonal h.size in
      e₂ ∙ rw (e₁, region_c-put-else w h.diagonal v k mass.off h.edges p.diagonal-mass, region_c-put-else w h.diagonal v k h.off h.edges p.diagonal-off)

  -- the matrix that stands there afterwards
  pub matrix-shifted : ShiftRoom (length w) h mass → (from to : List ℕ) → matrix (shift_matrix w h shift mass) h from to ≡ shifted_by shift (matrix w mass from to) (matrix w h from to)
  unfolding shift_matrix shifted_by matrix
  matrix-shifted p from to =
      let d : List Float = shifted_diagonal shift (region nan w mass.diagonal h.size) (region nan w h.diagonal h.size) in
      let kd : length d ≡ h.size = length-shifted_diagonal shift _ _ ∙ length-region nan w h.diagonal h.size in
      let o : List Complex = shifted_off shift (region_c w mass.off h.edges) (region_c w h.off h.edges) in
      let ko : length o ≡ h.edges = length-shifted_off shift _ _ ∙ length-region_c w h.off h.edges in
      let w₁ : List Float = put w h.diagonal d in
      let x : region nan (put_c w₁ h.off o) h.diagonal h.size ≡ shifted_diagonal shift (region nan w mass.diagonal mass.size) (region nan w h.diagonal h.size) =
      region_r-else w₁ h.off o ko h.diagonal h.size (apart_other h.diagonal h.size h.off (2 * h.edges) p.diagonal-off)
      ∙ region-put w h.diagonal d kd nan p.diagonals.y-in
      ∙ rw p.one_size in
      let y : region_c (put_c w₁ h.off o) h.off h.edges ≡ shifted_off shift (region_c w mass.off mass.edges) (region_c w h.off h.edges) =
      region_c-put_c w₁ h.off o ko (rw length-put p.offs.y-in) ∙ rw p.one-graph in
      λ k. record { diagonal = x k; off = y k; edge_a = from; edge_b = to }
