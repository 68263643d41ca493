-- Soft terms in a work slice: what `add_term` writes is the system with that term, and terms follow one another. Assumes nothing.
use mathlib.Core.Path.{◌≡◌, refl, sym, ap, subst, ◌∙◌}
use mathlib.Core.Bool.{true, false, not}
use mathlib.Core.List.{List, [], ◌∷◌, ◌++◌}
use Prim.Native.Nat.{ℕ, ◌+◌, ◌*◌, ◌≤◌}
use native.Mathlib.Omega.{arith}
use borrow.Author.Tests.{not-true, not-false}
use lib.Ieee.{Float, nan, lt}
use lib.ListN.{length, length-replicate}
use Rattle.float.specs.Double.{lit}
use Rattle.complex.specs.declared.Complex.{Complex}
use Rattle.linear_cells.specs.Region.{region, put, Apart}
use Rattle.linear_cells.specs.Cell.{flat, region_c, put_c}
use Rattle.linear_cells.proofs.Loops.{apart, length-tab}
use Rattle.linear_cells.specs.Spans.{laid}
use Rattle.linear_cells.proofs.Regions.{length-region, length-put, put-region, region-else}
use Rattle.linear_cells.proofs.Cells.{length-flat, length-put_c, region_c-same, region_c-put_c, region_c-else, region_c-put-else}
use Rattle.linear_hermitian.specs.declared.Hermitian.{Hermitian}
use Rattle.linear_hermitian.specs.Hermitian.{Matrix, applied, shifted_by}
use Rattle.linear_hermitian.specs.Work.{matrix, shift_matrix, ShiftRoom}
use Rattle.linear_hermitian.proofs.Product.{length-applied}
use Rattle.linear_hermitian.proofs.Shift.{matrix-shifted}
use Rattle.linear_vectors.specs.Vectors.{zip_of, add_scaled}
use Rattle.linear_vectors.proofs.Zip.{length-zip_of}
use Rattle.linear_conjugate_gradient.specs.declared.Vectors.{Vectors}
use Rattle.linear_conjugate_gradient.specs.Solve.{State}
use Rattle.linear_conjugate_gradient.specs.Work.{read, lay, VectorRoom, SolverRoom}
use Rattle.linear_conjugate_gradient.proofs.Lays.{Sized, read-sized, lay-read, length-lay, get-x, get-r, get-q, put-r, put-q}
use Rattle.linear_hermitian.proofs.Elsewhere.{shift-else-real, shift-else}
use Rattle.pass_solution.specs.Work.{Framed}
use Rattle.pass_solution.proofs.Stages.{framed}
use Rattle.pass_solution.proofs.Chains.{framed-matrix}
use Rattle.complex.specs.Guidance.{fourfold}
use Rattle.pass_soft.specs.Soft.{System, Term, guided_targets, aligned_targets, term_of, softened_by, softened}
use Rattle.pass_soft.specs.declared.Terms.{Terms}
use Rattle.pass_soft.specs.Work.{SoftRoom, system_in, guided_in, aligned_in, Outside, Kept, Softens}

-- a slice as long has the same room
pub same-shift : {len len' : ℕ} → len' ≡ len → (h mass : Hermitian) → ShiftRoom len h mass → ShiftRoom len' h mass
same-shift e h mass ok = rw e ok

pub same-soft : {len len' : ℕ} → len' ≡ len → (h mass : Hermitian) (l : Vectors) → SoftRoom len h mass l → SoftRoom len' h mass l
same-soft e h mass l ok = rw e ok

pub length-guided : (angles : List Float) → length (guided_targets angles) ≡ length angles
unfolding guided_targets
length-guided angles = length-tab _ (length angles)

pub length-aligned : (angle : Float) (n : ℕ) → length (aligned_targets angle n) ≡ n
unfolding aligned_targets
length-aligned angle n = length-replicate n (fourfold angle)

-- ---- what stays

-- what lies below the vectors and outside the matrix
pub below : {len : ℕ} {h : Hermitian} {l : Vectors} → VectorRoom len h.size l → (c m : ℕ) → Apart h.diagonal h.size c m → Apart h.off (2 * h.edges) c m → c + m ≤ l.x
    → Outside h l c m
below {len} {h} {l} ok c m a o g = record {
  diagonal = a;
  off = o;
  x = apart l.x (2 * h.size) c m (omega arith);
  residual = apart l.residual (2 * h.size) c m (omega (arith, ok.vectors-in));
  direction = apart l.direction (2 * h.size) c m (omega (arith, ok.vectors-in));
  applied = apart l.applied (2 * h.size) c m (omega (arith, ok.vectors-in));
}

-- and what lies behind them, the inverse with it
pub behind : {len : ℕ} {h : Hermitian} {l : Vectors} → SolverRoom len h l → (c m : ℕ) → l.inverse ≤ c → Outside h l c m
behind {len} {h} {l} ok c m g = record {
  diagonal = apart h.diagonal h.size c m (omega (arith, ok.diagonal-below, ok.vector-room.vectors-in));
  off = apart h.off (2 * h.edges) c m (omega (arith, ok.off-below, ok.vector-room.vectors-in));
  x = apart l.x (2 * h.size) c m (omega (arith, ok.vector-room.vectors-in));
  residual = apart l.residual (2 * h.size) c m (omega (arith, ok.vector-room.vectors-in));
  direction = apart l.direction (2 * h.size) c m (omega (arith, ok.vector-room.vectors-in));
  applied = apart l.applied (2 * h.size) c m (omega (arith, ok.vector-room.vectors-in));
}

module _ (h : Hermitian) (l : Vectors) where
  pub kept-none : (w : List Float) → Kept w w h l
  kept-none w = record { all = refl; else = λ c m o. refl }

  pub kept_then : {w w₁ w₂ : List Float} → Kept w w₁ h l → Kept w₁ w₂ h l → Kept w w₂ h l
  kept_then a b = record { all = b.all ∙ a.all; else = λ c m o. b.else c m o ∙ a.else c m o }

  -- where a vector is written
  pub kept_put : (w : List Float) (b : ℕ) (vs : List Float) {n : ℕ} → length vs ≡ n → ((c m : ℕ) → Outside h l c m → Apart b n c m) → {w₁ : List Float} → w₁ ≡ put w b vs → Kept w w₁ h l
  kept_put w b vs k a e = rw e (record { all = length-put w b vs; else = λ c m o. region-else w b vs k nan c m (a c m o) })

  pub kept-put_c : (w : List Float) (b : ℕ) (v : List Complex) {n : ℕ} → length v ≡ n → ((c m : ℕ) → Outside h l c m → Apart b (2 * n) c m) → {w₁ : List Float} → w₁ ≡ put_c w b v → Kept w w₁ h l
  unfolding put_c
  kept-put_c w b v k a e = kept_put w b (flat v) (length-flat v k) a e

  -- where all vectors but the inverse are
  kept-laid : (w : List Float) (s : State) → Sized h.size s → s.inverse ≡ region nan w l.inverse h.size → {w₁ : List Float} → w₁ ≡ lay w h.size l s → Kept w w₁ h l
  unfolding lay laid
  kept-laid w s z e q = record {
    all = ap length q ∙ length-lay w h.size l s;
    else = λ c m o.
        ap (λ v. region nan v c m) q
        ∙ region-else _ l.x (flat s.x) (length-flat s.x z.x-n) nan c m o.x
        ∙ region-else _ l.residual (flat s.r) (length-flat s.r z.r-n) nan c m o.residual
        ∙ region-else _ l.direction (flat s.p) (length-flat s.p z.p-n) nan c m o.direction
        ∙ region-else _ l.applied (flat s.q) (length-flat s.q z.q-n) nan c m o.applied
        ∙ ap (λ v. region nan v c m) (ap (put w l.inverse) e ∙ put-region nan w l.inverse h.size);
  }

  kept-shift : (w : List Float) (shift : Float) (mass : Hermitian) → Kept w (shift_matrix w h shift mass) h l
  unfolding shift_matrix
  kept-shift w shift mass = record { all = length-put_c _ h.off _ ∙ length-put w h.diagonal _; else = λ c m o. shift-else-real w h shift mass c m o.diagonal o.off }

module _ {w w₁ : List Float} {h : Hermitian} {l : Vectors} (k : Kept w w₁ h l) where
  pub vector-kept : (c n : ℕ) → Outside h l c (2 * n) → region_c w₁ c n ≡ region_c w c n
  vector-kept c n o = region_c-same w₁ w c n (k.else c (2 * n) o)

  -- another matrix
  pub matrix-kept : {len : ℕ} (mass : Hermitian) → SoftRoom len h mass l → (from to : List ℕ) → matrix w₁ mass from to ≡ matrix w mass from to
  unfolding matrix
  matrix-kept mass ok from to =
      let one = ok.shift-room.one_size in
      let all = ok.shift-room.one-graph in
      let d : region nan w₁ mass.diagonal mass.size ≡ region nan w mass.diagonal mass.size =
      k.else mass.diagonal mass.size (below ok.h-room.vector-room mass.diagonal mass.size
      (subst (λ (n : ℕ). Apart h.diagonal h.size mass.diagonal n) (sym one) ok.shift-room.diagonals.y-x)
      (subst (λ (n : ℕ). Apart h.off (2 * h.edges) mass.diagonal n) (sym one) ok.off-mass) ok.mass-room.diagonal-below) in
      let f : region_c w₁ mass.off mass.edges ≡ region_c w mass.off mass.edges =
      vector-kept mass.off mass.edges (below ok.h-room.vector-room mass.off (2 * mass.edges)
      (subst (λ (n : ℕ). Apart h.diagonal h.size mass.off (2 * n)) (sym all) ok.shift-room.diagonal-mass)
      (subst (λ (n : ℕ). Apart h.off (2 * h.edges) mass.off (2 * n)) (sym all) ok.shift-room.offs.y-x) ok.mass-room.off-below) in
      λ i. record { diagonal = d i; off = f i; edge_a = from; edge_b = to }

-- the matrix at h, where what lies behind it is written
pub matrix-put : (w : List Float) (h : Hermitian) (b : ℕ) (vs : List Float) → h.diagonal + h.size ≤ b → h.off + 2 * h.edges ≤ b → {w₁ : List Float} → w₁ ≡ put w b vs
    → (from to : List ℕ) → matrix w₁ h from to ≡ matrix w h from to
unfolding matrix
matrix-put w h b vs g k e from to =
    let d = region-else w b vs refl nan h.diagonal h.size (apart b (length vs) h.diagonal h.size (omega arith)) in
    let f = region_c-put-else w b vs refl h.off h.edges (apart b (length vs) h.off (2 * h.edges) (omega arith)) in
    rw e (λ i. record { diagonal = d i; off = f i; edge_a = from; edge_b = to })

pub matrix-put_c : (w : List Float) (h : Hermitian) (b : ℕ) (v : List Complex) → h.diagonal + h.size ≤ b → h.off + 2 * h.edges ≤ b → {w₁ : List Float} → w₁ ≡ put_c w b v
    → (from to : List ℕ) → matrix w₁ h from to ≡ matrix w h from to
unfolding put_c
matrix-put_c w h b v g k e from to = matrix-put w h b (flat v) g k e from to

-- ---- terms one after another

softened-more : (m : Matrix) (ts us : List Term) (sys : System) → softened m (ts ++ us) sys ≡ softened m us (softened m ts sys)
unfolding softened
softened-more m [] us sys = refl
softened-more m (t ∷ ts) us sys = softened-more m ts us (softened_by m t sys)

module _ (w : List Float) (h mass : Hermitian) (l : Vectors) (from to : List ℕ) where
  -- no term
  pub softens-none : Softens w w h mass l from to []
  unfolding softened
  softens-none = record { system = refl; x-stays = refl; kept = kept-none h l w }

  pub softens-then : {len : ℕ} → SoftRoom len h mass l → {w₁ w₂ : List Float} {ts us : List Term} → Softens w w₁ h mass l from to ts → Softens w₁ w₂ h mass l from to us
      → Softens w w₂ h mass l from to (ts ++ us)
  softens-then ok {w₁} {w₂} {ts} {us} a b =
      let m : Matrix = matrix w mass from to in
      record {
        system = b.system ∙ rw (matrix-kept a.kept mass ok from to, a.system, softened-more m ts us (system_in w h l from to));
        x-stays = b.x-stays ∙ a.x-stays;
        kept = kept_then h l a.kept b.kept;
      }

-- ---- add_term

-- the product in q, and the right-hand side with it
unfoldable weighed : Matrix → Float → State → State
weighed mass weight s = record {
  x = s.x;
  r = zip_of (add_scaled weight) s.r (applied mass s.p);
  p = s.p;
  q = applied mass s.p;
  inverse = s.inverse;
}

module _ (w : List Float) (h mass : Hermitian) (l : Vectors) (weight : Float) (from to : List ℕ) (ok : SoftRoom (length w) h mass l) where
  abbrev n : ℕ
  n = h.size

  abbrev m : Matrix
  m = matrix w mass from to

  abbrev s : State
  s = read w n l

  abbrev after : State
  after = weighed m weight s

  abbrev target : List Complex
  target = region_c w l.direction n

  room : VectorRoom (length w) n l
  room = ok.h-room.vector-room

  after-sized : Sized n after
  unfolding weighed
  after-sized =
      let z : Sized n s = read-sized w n l in
      record { x-n = z.x-n; r-n = rw length-zip_of z.r-n; p-n = z.p-n; q-n = length-applied m s.p ∙ z.p-n; inverse-n = z.inverse-n }

  weighed-all : {w₁ w₂ : List Float} → w₁ ≡ put_c w l.applied (applied m (region_c w l.direction mass.size))
      → w₂ ≡ put_c w₁ l.residual (zip_of (add_scaled weight) (region_c w₁ l.residual n) (region_c w₁ l.applied n)) → w₂ ≡ lay w n l after
  unfolding weighed read
  weighed-all {w₁} {w₂} e₁ e₂ =
      let z : Sized n s = read-sized w n l in
      let y : Sized n after = after-sized in
      let s₁ : State = record { x = s.x; r = s.r; p = s.p; q = after.q; inverse = s.inverse } in
      let z₁ : Sized n s₁ = record { x-n = z.x-n; r-n = z.r-n; p-n = z.p-n; q-n = y.q-n; inverse-n = z.inverse-n } in
      let f₁ : w₁ ≡ lay w n l s₁ =
      e₁ ∙ ap (λ k. put_c w l.applied (applied m (region_c w l.direction k))) ok.shift-room.one_size
      ∙ ap (λ v. put_c v l.applied after.q) (lay-read w n l) ∙ put-q w n l room s z after.q y.q-n in
      e₂ ∙ rw (f₁, get-r w n l room s₁ z₁, get-q w n l room s₁ z₁) (put-r w n l room s₁ z₁ after.r y.r-n)

  module _ {w₂ w₃ : List Float} (e₂ : w₂ ≡ lay w n l after) (e₃ : w₃ ≡ shift_matrix w₂ h weight mass) where
    frame : Framed w w₂ n l
    frame = framed w n l room after after-sized e₂

    shift-ok : ShiftRoom (length w₂) h mass
    shift-ok = rw (e₂, length-lay w n l after) ok.shift-room

    matrix-is : matrix w₃ h from to ≡ shifted_by weight m (matrix w h from to)
    matrix-is =
        ap (λ v. matrix v h from to) e₃ ∙ matrix-shifted w₂ h weight mass shift-ok from to
        ∙ rw (framed-matrix w mass l ok.mass-room n ok.shift-room.one_size frame from to, framed-matrix w h l ok.h-room n refl frame from to)

    -- the shift leaves the vectors
    vector-is : (b : ℕ) → l.x ≤ b → region_c w₃ b n ≡ region_c (lay w n l after) b n
    vector-is b above =
        let d : h.diagonal + h.size ≤ l.x = ok.h-room.diagonal-below in
        let o : h.off + 2 * h.edges ≤ l.x = ok.h-room.off-below in
        ap (λ v. region_c v b n) e₃ ∙ shift-else w₂ h weight mass b n (apart h.diagonal h.size b (2 * n) (omega arith)) (apart h.off (2 * h.edges) b (2 * n) (omega arith))
        ∙ ap (λ v. region_c v b n) e₂

    rhs-is : region_c w₃ l.residual n ≡ zip_of (add_scaled weight) (region_c w l.residual n) (applied m target)
    unfolding weighed read
    rhs-is = vector-is l.residual (omega (arith, room.vectors-in)) ∙ get-r w n l room after after-sized

    x-is : region_c w₃ l.x n ≡ region_c w l.x n
    unfolding weighed read
    x-is = vector-is l.x (omega arith) ∙ get-x w n l room after after-sized

    inverse-is : after.inverse ≡ region nan w l.inverse n
    unfolding weighed read
    inverse-is = refl

    softens-one : Softens w w₃ h mass l from to (record { weight = weight; target = target } ∷ [])
    unfolding softened softened_by
    softens-one = record {
      system = λ i. record { matrix = matrix-is i; rhs = rhs-is i };
      x-stays = x-is;
      kept = kept_then h l (kept-laid h l w after after-sized inverse-is e₂) (rw e₃ (kept-shift h l w₂ weight mass));
    }

  pub term-off : not (lt (lit 0) weight) ≡ true → Softens w w h mass l from to (term_of weight target)
  unfolding term_of
  term-off f = rw (not-true (lt (lit 0) weight) f) (softens-none w h mass l from to)

  pub term-added : not (lt (lit 0) weight) ≡ false → {w₁ w₂ w₃ : List Float}
      → w₁ ≡ put_c w l.applied (applied m (region_c w l.direction mass.size))
      → w₂ ≡ put_c w₁ l.residual (zip_of (add_scaled weight) (region_c w₁ l.residual n) (region_c w₁ l.applied n))
      → w₃ ≡ shift_matrix w₂ h weight mass → Softens w w₃ h mass l from to (term_of weight target)
  unfolding term_of
  term-added f e₁ e₂ e₃ = rw (not-false (lt (lit 0) weight) f) (softens-one (weighed-all e₁ e₂) e₃)

-- ---- a target put in its place

module _ (w : List Float) (h mass : Hermitian) (l : Vectors) (from to : List ℕ) (ok : SoftRoom (length w) h mass l) (v : List Complex) (e : length v ≡ h.size) {w₁ : List Float} (e₁ : w₁ ≡ put_c w l.direction v) where
  vectors-ok : VectorRoom (length w) h.size l
  vectors-ok = ok.h-room.vector-room

  aimed-else : (b : ℕ) → b + 2 * h.size ≤ l.direction → region_c w₁ b h.size ≡ region_c w b h.size
  aimed-else b k = ap (λ u. region_c u b h.size) e₁ ∙ region_c-else w l.direction v e b h.size (apart l.direction (2 * h.size) b (2 * h.size) (omega arith))

  aimed-is : region_c w₁ l.direction h.size ≡ v
  aimed-is = ap (λ u. region_c u l.direction h.size) e₁ ∙ region_c-put_c w l.direction v e (omega (arith, vectors-ok.vectors-in))

  aimed : Softens w w₁ h mass l from to []
  unfolding softened
  aimed =
      let d : h.diagonal + h.size ≤ l.direction = omega (arith, ok.h-room.diagonal-below) in
      let o : h.off + 2 * h.edges ≤ l.direction = omega (arith, ok.h-room.off-below) in
      let m = matrix-put_c w h l.direction v d o e₁ from to in
      let r = aimed-else l.residual (omega (arith, vectors-ok.vectors-in)) in
      record {
        system = λ i. record { matrix = m i; rhs = r i };
        x-stays = aimed-else l.x (omega (arith, vectors-ok.vectors-in));
        kept = kept-put_c h l w l.direction v e (λ c m o. o.direction) e₁;
      }

  -- terms of the vector in the direction's region are then terms of that target
  pub aimed-then : (ts : List Complex → List Term) {w₂ : List Float} → Softens w₁ w₂ h mass l from to (ts (region_c w₁ l.direction h.size)) → Softens w w₂ h mass l from to (ts v)
  aimed-then ts a = softens-then w h mass l from to ok aimed (rw aimed-is at a)

-- ---- the functions

module _ (w : List Float) (h mass : Hermitian) (l : Vectors) (from to : List ℕ) (t : Terms) where
  pub guided-off : not t.guided ≡ true → Softens w w h mass l from to (guided_in w h t)
  guided-off e = rw (not-true t.guided e) (softens-none w h mass l from to)

  module _ (ok : SoftRoom (length w) h mass l) where
    pub guided-added : not t.guided ≡ false → {w₁ w₂ : List Float} → w₁ ≡ put_c w l.direction (guided_targets (region nan w t.guidance h.size))
        → Softens w₁ w₂ h mass l from to (term_of t.weight (region_c w₁ l.direction h.size)) → Softens w w₂ h mass l from to (guided_in w h t)
    guided-added f e₁ a =
        rw (not-false t.guided f) (aimed-then w h mass l from to ok (guided_targets (region nan w t.guidance h.size)) (length-guided _ ∙ length-region nan w t.guidance h.size) e₁ (term_of t.weight) a)

    pub aligned-added : {w₁ w₂ : List Float} → w₁ ≡ put_c w l.direction (aligned_targets t.angle h.size)
        → Softens w₁ w₂ h mass l from to (term_of t.alignment (region_c w₁ l.direction h.size)) → Softens w w₂ h mass l from to (aligned_in h t)
    aligned-added e₁ a = aimed-then w h mass l from to ok (aligned_targets t.angle h.size) (length-aligned t.angle h.size) e₁ (term_of t.alignment) a
