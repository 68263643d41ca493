-- How stages follow one another: nothing but the solver's vectors is written by either, the matrices below stay, and a refusal ends the chain. Assumes nothing.
use mathlib.Core.Path.{◌≡◌, refl, sym, ap, ◌∙◌}
use mathlib.Core.List.{List}
use Prim.Native.Nat.{ℕ, ◌+◌, ◌≤◌}
use native.Mathlib.Omega.{arith}
use lib.Ieee.{Float, nan}
use lib.ListN.{length}
use Rattle.std.specs.Prelude.{Ok, Err}
use Rattle.complex.specs.declared.Complex.{Complex}
use Rattle.linear_cells.specs.Region.{region}
use Rattle.linear_cells.specs.Cell.{region_c}
use Rattle.linear_hermitian.specs.declared.Hermitian.{Hermitian}
use Rattle.linear_hermitian.specs.Work.{matrix}
use Rattle.linear_conjugate_gradient.specs.declared.Vectors.{Vectors}
use Rattle.linear_packing.specs.declared.Packing.{Packing}
use Rattle.linear_conjugate_gradient.specs.Solve.{State}
use Rattle.linear_conjugate_gradient.specs.Work.{read, lay, VectorRoom, SolverRoom, Engine}
use Rattle.linear_conjugate_gradient.proofs.Iterations.{engine-still}
use Rattle.linear_conjugate_gradient.proofs.Lays.{read-sized, lay-read, lay-then, length-lay, get-below, get-matrix}
use Rattle.refusals.specs.declared.Refusal.{Refusal}
use Rattle.linear_conjugate_gradient.specs.Found.{Found, vector, gave}
use Rattle.pass_solution.specs.Solution.{onward}
use Rattle.pass_solution.specs.Work.{found_stage, Framed, Answers, left_by}
use Rattle.refusals.specs.Refusal.{Verdict}

-- ---- frames

module _ (w : List Float) (n : ℕ) (l : Vectors) where
  pub framed-none : Framed w w n l
  framed-none = lay-read w n l

  pub framed-length : {w₁ : List Float} → Framed w w₁ n l → length w₁ ≡ length w
  framed-length {w₁} e = ap length e ∙ length-lay w n l (read w₁ n l)

  pub framed_then : VectorRoom (length w) n l → {w₁ w₂ : List Float} → Framed w w₁ n l → Framed w₁ w₂ n l → Framed w w₂ n l
  framed_then ok {w₁} {w₂} e₁ e₂ = lay-then w n l ok (read w₁ n l) (read-sized w₁ n l) (read w₂ n l) (read-sized w₂ n l) e₁ e₂

  -- a region below the vectors
  pub framed-below : VectorRoom (length w) n l → {w₁ : List Float} → Framed w w₁ n l → (c m : ℕ) → c + m ≤ l.x → region nan w₁ c m ≡ region nan w c m
  framed-below ok {w₁} e c m k = ap (λ v. region nan v c m) e ∙ get-below w n l ok (read w₁ n l) (read-sized w₁ n l) c m k

-- a matrix below the vectors
pub framed-matrix : (w : List Float) (h : Hermitian) (l : Vectors) → SolverRoom (length w) h l → (n : ℕ) → h.size ≡ n → {w₁ : List Float} → Framed w w₁ n l → (from to : List ℕ)
    → matrix w₁ h from to ≡ matrix w h from to
framed-matrix w h l ok n en {w₁} e from to =
    let f : Framed w w₁ h.size l = rw en e in
    ap (λ v. matrix v h from to) f ∙ get-matrix w h l ok (read w₁ h.size l) (read-sized w₁ h.size l) from to

-- and its packed copy
pub framed-engine : (w : List Float) (h : Hermitian) (l : Vectors) (from to u : List ℕ) (t : Packing) → SolverRoom (length w) h l → Engine w h l from to u t → (n : ℕ) → h.size ≡ n
    → {w₁ : List Float} → Framed w w₁ n l → Engine w₁ h l from to u t
framed-engine w h l from to u t ok g n en {w₁} e =
    let f : Framed w w₁ h.size l = rw en e in
    engine-still w h l from to u t ok g (read w₁ h.size l) (read-sized w₁ h.size l) f

-- ---- answers

pub not_done : {s : Verdict} {r : Refusal} → s ≡ Err r → s ≡ Ok tt → ⊥
not_done e d = let z : ◌≡◌ {A = ℕ} 0 1 = cc in omega arith

-- a stage that is done has found the vector that stands at x
done-found : (f : Found) (x : List Complex) {s : Verdict} → s ≡ found_stage f → ((v : List Complex) → f ≡ vector v → x ≡ v) → s ≡ Ok tt → f ≡ vector x
unfolding found_stage
done-found (vector v) x e h d = ap vector (sym (h v refl))
done-found (gave r i) x e h d = let z : ◌≡◌ {A = ℕ} 0 1 = cc in absurd (omega arith)

pub left-gave : (f : Found) (t : State) (k : State → State) {s : Verdict} → s ≡ found_stage f → (s ≡ Ok tt → ⊥) → left_by f t k ≡ t
unfolding left_by found_stage
left-gave (vector v) t k e h = absurd (h e)
left-gave (gave r i) t k e h = refl

onward-gave : (f : Found) (g : List Complex → Found) {s : Verdict} → s ≡ found_stage f → (s ≡ Ok tt → ⊥) → onward f g ≡ f
unfolding onward found_stage
onward-gave (vector v) g e h = absurd (h e)
onward-gave (gave r i) g e h = refl

module _ (w : List Float) (n : ℕ) (l : Vectors) {w₁ : List Float} {t : State} {f : Found} {s : Verdict} where
  pub found_at : Answers w w₁ n l t f s → s ≡ Ok tt → f ≡ vector (region_c w₁ l.x n)
  found_at a d = done-found f (region_c w₁ l.x n) a.stage a.held d

  -- no second body: the whole slice and the answer are determined
  pub answers_one : {w₂ : List Float} {r : Verdict} → Answers w w₁ n l t f s → Answers w w₂ n l t f r → (w₁ ≡ w₂) × (s ≡ r)
  answers_one a b = (a.frame ∙ ap (lay w n l) (a.left ∙ sym b.left) ∙ sym b.frame, a.stage ∙ sym b.stage)

  -- the first of two stages refused: its vectors are left
  pub ends-first : (g : List Complex → Found) (k : State → State) → Answers w w₁ n l t f s → (s ≡ Ok tt → ⊥) → Answers w w₁ n l (left_by f t k) (onward f g) s
  ends-first g k a h = rw (onward-gave f g a.stage h, left-gave f t k a.stage h) a

  -- the second begins with the vector that the first found, and with the vectors that it left
  pub ends-second : VectorRoom (length w) n l → (g : List Complex → Found) (k : State → State) → Answers w w₁ n l t f s → s ≡ Ok tt
      → {w₂ : List Float} {r : Verdict} → Answers w₁ w₂ n l (k (read w₁ n l)) (g (region_c w₁ l.x n)) r → Answers w w₂ n l (left_by f t k) (onward f g) r
  unfolding onward left_by
  ends-second ok g k a d b =
      rw (found_at a d, ← a.left) (record { frame = framed_then w n l ok a.frame b.frame; left = b.left; stage = b.stage; held = b.held })

  -- what came before wrote nothing but the solver's vectors
  pub answers-after : VectorRoom (length w) n l → Framed w w₁ n l → {w₂ : List Float} {t' : State} {g : Found} → Answers w₁ w₂ n l t f s → t ≡ t' → f ≡ g → Answers w w₂ n l t' g s
  answers-after ok e b p q = rw (← p, ← q) (record { frame = framed_then w n l ok e b.frame; left = b.left; stage = b.stage; held = b.held })
