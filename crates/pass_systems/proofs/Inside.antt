-- The tangent branch's fold over the soft terms. The code blanks each target and adds its term everywhere; the definition adds it off the boundary alone.
-- Both agree off the boundary, and what is on it is overwritten when the boundary is fixed. Assumes nothing.
use mathlib.Core.Path.{◌≡◌, refl, ap}
use mathlib.Core.Bool.{Bool, true, false, cond}
use mathlib.Core.List.{List, [], ◌∷◌, ◌++◌, map}
use Prim.Native.Nat.{ℕ}
use lib.Ieee.{Float, lt}
use lib.ListN.{length-replicate}
use Rattle.float.specs.Double.{lit}
use Rattle.complex.specs.declared.Complex.{Complex}
use Rattle.complex.specs.Complex.{czero}
use Rattle.linear_hermitian.specs.Hermitian.{Matrix, applied, shifted_by}
use Rattle.pass_constraints.specs.Constraints.{blanked, dirichlet_rows}
use Rattle.pass_constraints.proofs.Systems.{Agree, agree_same, agree-more, agree-coupled}
use Rattle.pass_soft.specs.Soft.{Term, System, term_of, softened_by, softened}
use Rattle.pass_systems.specs.Systems.{plain, inside_by, inside, fixed_by}
use Rattle.pass_systems.specs.Work.{blanked_term, blanked_terms}

-- ---- lists of terms

pub blanked-more : (flags : List ℕ) (ts us : List Term) → blanked_terms flags (ts ++ us) ≡ blanked_terms flags ts ++ blanked_terms flags us
blanked-more flags [] us = refl
blanked-more flags (t ∷ ts) us = ap (λ (l : List Term). blanked_term flags t ∷ l) (blanked-more flags ts us)

pub blanked-one : (flags : List ℕ) (weight : Float) (v : List Complex) → blanked_terms flags (term_of weight v) ≡ term_of weight (blanked flags v)
unfolding term_of
blanked-one flags weight v = go (lt (lit 0) weight)
  where
    go : (b : Bool) → map (blanked_term flags) (cond b (record { weight = weight; target = v } ∷ []) []) ≡ cond b (record { weight = weight; target = blanked flags v } ∷ []) []
    go true = refl
    go false = refl

-- ---- the fold

module _ (flags : List ℕ) (mass : Matrix) (n : ℕ) where
  -- one matrix, and right-hand sides that agree off the boundary
  record Alike (s s' : System) : Type 0 where
    one-matrix : s.matrix ≡ s'.matrix
    agree : Agree flags n s.rhs s'.rhs

  alike-more : (t : Term) {s s' : System} → Alike s s' → Alike (softened_by mass (blanked_term flags t) s) (inside_by flags mass t s')
  unfolding softened_by inside_by
  alike-more t a = record {
    one-matrix = ap (shifted_by t.weight mass) a.one-matrix;
    agree = agree-more t.weight (applied mass (blanked flags t.target)) a.agree;
  }

  alike_all : (ts : List Term) {s s' : System} → Alike s s' → Alike (softened mass (blanked_terms flags ts) s) (inside flags mass ts s')
  unfolding softened inside
  alike_all [] a = a
  alike_all (t ∷ ts) a = alike_all ts (alike-more t a)

  pub inside-same : (energy : Matrix) (targets coupling : List Complex) (ts : List Term)
      → fixed_by flags targets coupling (softened mass (blanked_terms flags ts) (plain energy n)) ≡ fixed_by flags targets coupling (inside flags mass ts (plain energy n))
  unfolding fixed_by plain
  inside-same energy targets coupling ts =
      let a : Alike (softened mass (blanked_terms flags ts) (plain energy n)) (inside flags mass ts (plain energy n)) =
      alike_all ts (record { one-matrix = refl; agree = agree_same flags (plain energy n).rhs (length-replicate n czero) }) in
      let m = ap (dirichlet_rows flags) a.one-matrix in
      let r = agree-coupled targets coupling a.agree in
      λ i. record { matrix = m i; rhs = r i }
