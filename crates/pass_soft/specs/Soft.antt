-- The soft terms of the Rust's `solve_mesh`, lines 1439 to 1456 and 1536 to 1544: targets of weight w, each of which adds w M to the matrix and w M G to the
-- right-hand side. Definitions only.
use Rattle.std.specs.Prelude.{ℕ, cond, List, [], ◌∷◌, length, get_or, replicate, Float}
use Rattle.std.specs.Float.{nan}
use Rattle.std.specs.Float.Ieee.{lt}
use Rattle.float.specs.Double.{lit}
use Rattle.complex.specs.declared.Complex.{Complex}
use Rattle.complex.specs.Guidance.{fourfold}
use Rattle.linear_cells.specs.Region.{tab}
use Rattle.linear_hermitian.specs.Hermitian.{Matrix, applied, shifted_by}
use Rattle.linear_vectors.specs.Vectors.{zip_of, add_scaled}

-- ---- the targets

unfoldable pub guided_targets : List Float → List Complex
guided_targets angles = tab (λ i. fourfold (get_or angles i nan)) (length angles)

unfoldable pub aligned_targets : Float → ℕ → List Complex
aligned_targets angle n = replicate n (fourfold angle)

-- ---- the terms

pub record Term : Type 0 where
  pub weight : Float
  pub target : List Complex

-- a weight acts above 0
unfoldable pub term_of : Float → List Complex → List Term
term_of weight target = cond (lt (lit 0) weight) (record { weight = weight; target = target } ∷ []) []

-- ---- the linear system

pub record System : Type 0 where
  pub matrix : Matrix
  pub rhs : List Complex

unfoldable pub softened_by : Matrix → Term → System → System
softened_by mass t s = record {
  matrix = shifted_by t.weight mass s.matrix;
  rhs = zip_of (add_scaled t.weight) s.rhs (applied mass t.target);
}

unfoldable pub softened : Matrix → List Term → System → System
softened mass [] s = s
softened mass (t ∷ ts) s = softened mass ts (softened_by mass t s)
