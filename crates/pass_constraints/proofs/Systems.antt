-- What the functions make of a matrix and of the right-hand sides, and where two right-hand sides serve alike. Assumes nothing.
use mathlib.Core.Path.{◌≡◌, refl, sym, ap, ap₂, ◌∙◌, subst}
use mathlib.Core.Bool.{Bool, true, false, cond}
use mathlib.Core.List.{List}
use Prim.Native.Nat.{ℕ, ◌*◌, ◌<◌}
use native.Mathlib.Omega.{arith}
use lib.Ieee.{Float, nan}
use lib.ListN.{length, get_or}
use lib.Seq.{ext_get_or}
use Rattle.complex.specs.declared.Complex.{Complex}
use Rattle.complex.specs.Complex.{czero, cnan, cadd, csub, cscale}
use Rattle.linear_cells.specs.Region.{region, put, Apart}
use Rattle.linear_cells.specs.Cell.{region_c, put_c}
use Rattle.linear_cells.proofs.Loops.{apart_other, length-tab, get_or-tab, tab-ext}
use Rattle.linear_cells.proofs.Regions.{length-region, length-put, region-put, region-else}
use Rattle.linear_cells.proofs.Cells.{length-region_c, length-put_c, region_c-put_c, region_c-else, region_r-else, region_c-put-else}
use Rattle.linear_hermitian.specs.declared.Hermitian.{Hermitian}
use Rattle.linear_hermitian.specs.Work.{matrix}
use Rattle.linear_vectors.specs.Vectors.{zip_of, add_scaled}
use Rattle.pass_constraints.specs.declared.Penalty.{Penalty}
use Rattle.pass_constraints.specs.Constraints.{on, dropped, fixed, dirichlet_rows, boundary_data, added_inside, coupled_at, coupled, penalised, penalties, penalised_by}
use Rattle.pass_constraints.specs.Work.{MatrixRoom, PenaltyRoom, dropped_in, fixed_in, rows_in, penalised_in, penalties_in, weak_in}

length-dropped : (flags a b : List ℕ) (off : List Complex) → length (dropped flags a b off) ≡ length off
unfolding dropped
length-dropped flags a b off = length-tab _ (length off)

length-fixed : (flags : List ℕ) (d : List Float) → length (fixed flags d) ≡ length d
unfolding fixed
length-fixed flags d = length-tab _ (length d)

length-penalised : (flags : List ℕ) (weight : Float) (mass d : List Float) → length (penalised flags weight mass d) ≡ length d
unfolding penalised
length-penalised flags weight mass d = length-tab _ (length d)

length-penalties : (flags : List ℕ) (weight : Float) (mass : List Float) (t : List Complex) → length (penalties flags weight mass t) ≡ length t
unfolding penalties
length-penalties flags weight mass t = length-tab _ (length t)

-- ---- dirichlet_rows

module _ (h : Hermitian) (flags a b : List ℕ) (w : List Float) (room : MatrixRoom (length w) h) where
  D : List Complex
  D = dropped flags a b (region_c w h.off h.edges)

  sized : length D ≡ h.edges
  unfolding D
  sized = length-dropped flags a b (region_c w h.off h.edges) ∙ length-region_c w h.off h.edges

  pub rows_all : {w₁ w₂ : List Float} → w₁ ≡ dropped_in h flags a b w → w₂ ≡ fixed_in h.diagonal h.size flags w₁ → w₂ ≡ rows_in h flags a b w
  unfolding dropped_in fixed_in rows_in D
  rows_all {w₁} {w₂} e₁ e₂ = e₂ ∙ rw (e₁, region_r-else w h.off D sized h.diagonal h.size room.diagonal-off)

  -- the matrix that then stands there
  pub rows-matrix : matrix (rows_in h flags a b w) h a b ≡ dirichlet_rows flags (matrix w h a b)
  unfolding matrix dirichlet_rows rows_in dropped_in D
  rows-matrix =
      let F : List Float = fixed flags (region nan w h.diagonal h.size) in
      let k : length F ≡ h.size = length-fixed flags (region nan w h.diagonal h.size) ∙ length-region nan w h.diagonal h.size in
      let v : List Float = put_c w h.off D in
      let ed : region nan (put v h.diagonal F) h.diagonal h.size ≡ F = region-put v h.diagonal F k nan (omega (arith, length-put_c w h.off D, room.diagonal-in)) in
      let eo : region_c (put v h.diagonal F) h.off h.edges ≡ D =
      region_c-put-else v h.diagonal F k h.off h.edges (apart_other h.off (2 * h.edges) h.diagonal h.size room.diagonal-off) ∙ region_c-put_c w h.off D sized room.off-in in
      ap₂ (λ (d : List Float) (o : List Complex). record { diagonal = d; off = o; edge_a = a; edge_b = b }) ed eo

-- ---- penalise

module _ (l : Penalty) (n : ℕ) (flags : List ℕ) (w : List Float) (room : PenaltyRoom (length w) n l) where
  P : List Float
  P = penalised flags l.weight (region nan w l.mass n) (region nan w l.diagonal n)

  P-sized : length P ≡ n
  unfolding P
  P-sized = length-penalised flags l.weight (region nan w l.mass n) (region nan w l.diagonal n) ∙ length-region nan w l.diagonal n

  R : List Complex
  R = penalties flags l.weight (region nan w l.mass n) (region_c w l.targets n)

  R-sized : length R ≡ n
  unfolding R
  R-sized = length-penalties flags l.weight (region nan w l.mass n) (region_c w l.targets n) ∙ length-region_c w l.targets n

  pub weak-room : {w₁ : List Float} → w₁ ≡ penalised_in l n flags w → PenaltyRoom (length w₁) n l
  unfolding penalised_in P
  weak-room e = subst (λ (k : ℕ). PenaltyRoom k n l) (sym (ap length e ∙ length-put w l.diagonal P)) room

  pub weak-all : {w₁ w₂ : List Float} → w₁ ≡ penalised_in l n flags w → w₂ ≡ penalties_in l n flags w₁ → w₂ ≡ weak_in l n flags w
  unfolding penalised_in penalties_in weak_in P
  weak-all {w₁} {w₂} e₁ e₂ =
      e₂ ∙ rw (e₁, region-else w l.diagonal P P-sized nan l.mass n room.diagonals.y-x, region_c-put-else w l.diagonal P P-sized l.targets n room.diagonal-targets)

  -- what then stands there: the matrix h, whose diagonal is the system's, and the right-hand side
  pub weak-matrix : (h mass : Hermitian) (a b : List ℕ) → h.diagonal ≡ l.diagonal → mass.diagonal ≡ l.mass → h.size ≡ n → mass.size ≡ n → Apart l.rhs (2 * n) l.diagonal n
      → Apart l.rhs (2 * n) h.off (2 * h.edges) → Apart l.diagonal n h.off (2 * h.edges)
      → matrix (weak_in l n flags w) h a b ≡ penalised_by flags l.weight (matrix w mass a b) (matrix w h a b)
  unfolding matrix penalised_by weak_in penalised_in P R
  weak-matrix h mass a b ed em en en' rd ro d-o =
      let v : List Float = put w l.diagonal P in
      let d₁ : region nan (put_c v l.rhs R) l.diagonal n ≡ P = region_r-else v l.rhs R R-sized l.diagonal n rd ∙ region-put w l.diagonal P P-sized nan room.diagonals.y-in in
      let o₁ : region_c (put_c v l.rhs R) h.off h.edges ≡ region_c w h.off h.edges =
      region_c-else v l.rhs R R-sized h.off h.edges ro ∙ region_c-put-else w l.diagonal P P-sized h.off h.edges d-o in
      rw (ed, em, en, en', d₁, o₁)

  pub weak-rhs : region_c (weak_in l n flags w) l.rhs n ≡ penalties flags l.weight (region nan w l.mass n) (region_c w l.targets n)
  unfolding weak_in penalised_in P R
  weak-rhs = region_c-put_c (put w l.diagonal P) l.rhs R R-sized (omega (arith, length-put w l.diagonal P, room.rhs-in))

-- ---- the tangent branch

-- targets that are 0 off the boundary are the boundary data themselves, so that the coupling is the matrix times the targets
pub boundary-data : (flags : List ℕ) (targets : List Complex) → ((i : ℕ) → i < length targets → on flags i ≡ false → get_or targets i cnan ≡ czero) → boundary_data flags targets ≡ targets
unfolding boundary_data
boundary-data flags targets off =
    ext_get_or cnan _ targets (length-tab _ (length targets)) (λ i h.
    let m : i < length targets = omega (arith, length-tab (λ (i : ℕ). cond (on flags i) (get_or targets i cnan) czero) (length targets)) in
    get_or-tab (λ (i : ℕ). cond (on flags i) (get_or targets i cnan) czero) (length targets) i cnan m ∙ go i m (on flags i) refl)
  where
    go : (i : ℕ) → i < length targets → (b : Bool) → on flags i ≡ b → cond b (get_or targets i cnan) czero ≡ get_or targets i cnan
    go i m true e = refl
    go i m false e = sym (off i m e)

-- right-hand sides of n numbers that agree off the boundary
pub record Agree (flags : List ℕ) (n : ℕ) (r s : List Complex) : Type 0 where
  pub r-sized : length r ≡ n
  pub s-sized : length s ≡ n
  pub off : (i : ℕ) → i < n → on flags i ≡ false → get_or r i cnan ≡ get_or s i cnan

pub agree_same : (flags : List ℕ) (r : List Complex) {n : ℕ} → length r ≡ n → Agree flags n r r
agree_same flags r e = record { r-sized = e; s-sized = e; off = λ i h f. refl }

-- a soft term added everywhere agrees with one added off the boundary alone
pub agree-more : {flags : List ℕ} {n : ℕ} {r s : List Complex} (weight : Float) (applied : List Complex) → Agree flags n r s → Agree flags n (zip_of (add_scaled weight) r applied) (added_inside flags weight applied s)
unfolding zip_of add_scaled added_inside
agree-more {flags} {n} {r} {s} weight applied a = record {
  r-sized = length-tab _ (length r) ∙ a.r-sized;
  s-sized = length-tab _ (length s) ∙ a.s-sized;
  off = λ i h f.
      get_or-tab (λ (i : ℕ). cadd (get_or r i cnan) (cscale (get_or applied i cnan) weight)) (length r) i cnan (omega (arith, a.r-sized))
      ∙ sym (get_or-tab (λ (i : ℕ). cond (on flags i) (get_or s i cnan) (cadd (get_or s i cnan) (cscale (get_or applied i cnan) weight))) (length s) i cnan (omega (arith, a.s-sized))
      ∙ rw (f, a.off i h f));
}

-- and `couple` makes the same of both
pub agree-coupled : {flags : List ℕ} {n : ℕ} {r s : List Complex} (targets coupling : List Complex) → Agree flags n r s → coupled flags targets coupling r ≡ coupled flags targets coupling s
unfolding coupled coupled_at
agree-coupled {flags} {n} {r} {s} targets coupling a =
    rw (a.r-sized, a.s-sized) (tab-ext _ _ n (λ i h. go i h (on flags i) refl))
  where
    go : (i : ℕ) → i < n → (b : Bool) → on flags i ≡ b → cond b (get_or targets i cnan) (csub (get_or r i cnan) (get_or coupling i cnan)) ≡ cond b (get_or targets i cnan) (csub (get_or s i cnan) (get_or coupling i cnan))
    go i h true e = refl
    go i h false e = ap (λ (z : Complex). csub z (get_or coupling i cnan)) (a.off i h e)
