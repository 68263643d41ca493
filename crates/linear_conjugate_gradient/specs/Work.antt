-- How a work slice holds the vectors, and what the functions require of it.
use Rattle.std.specs.Prelude.{◌≡◌, List, [], ◌∷◌, ℕ, ◌+◌, ◌*◌, ◌≤◌, length, Option, Result, Float}
use Rattle.std.specs.Float.{nan}
use Rattle.linear_cells.specs.Region.{region}
use Rattle.linear_cells.specs.Cell.{flat, region_c, put_c}
use Rattle.linear_cells.specs.Spans.{Span, span, laid, Ranged}
use Rattle.linear_hermitian.specs.declared.Hermitian.{Hermitian}
use Rattle.linear_hermitian.specs.Hermitian.{Matrix, dot_of, applied}
use Rattle.linear_hermitian.specs.Work.{matrix}
use Rattle.linear_packing.specs.declared.Packing.{Packing}
use Rattle.linear_packing.specs.Packed.{Packed}
use Rattle.linear_vectors.specs.declared.residual.Sums.{Sums}
use Rattle.linear_conjugate_gradient.specs.declared.Vectors.{Vectors}
use Rattle.linear_conjugate_gradient.specs.declared.Reason.{Reason}
use Rattle.linear_conjugate_gradient.specs.Method.{mass_squared}
use Rattle.linear_conjugate_gradient.specs.Solve.{State, Iteration, Outcome, begun, residual_dot, multiplied, denominator, reduced, normalized_answer, normalized_vector}

-- ---- the layout

-- where each vector begins, and how many numbers it takes
abbrev pub bases : ℕ → Vectors → List Span
bases n l = span l.x (2 * n) ∷ span l.residual (2 * n) ∷ span l.direction (2 * n) ∷ span l.applied (2 * n) ∷ span l.inverse n ∷ []

-- the numbers of each vector, a complex one split
abbrev pub vectors : State → List (List Float)
vectors s = flat s.x ∷ flat s.r ∷ flat s.p ∷ flat s.q ∷ s.inverse ∷ []

-- the vectors that stand in w
unfoldable pub read : List Float → ℕ → Vectors → State
read w n l = record {
  x = region_c w l.x n;
  r = region_c w l.residual n;
  p = region_c w l.direction n;
  q = region_c w l.applied n;
  inverse = region nan w l.inverse n;
}

-- w with every vector replaced
unfoldable pub lay : List Float → ℕ → Vectors → State → List Float
lay w n l s = laid w (bases n l) (vectors s)

-- the vectors one after another, up to len
pub record VectorRoom (len n : ℕ) (l : Vectors) : Type 0 where
  pub vectors-in : Ranged l.x len (bases n l)

-- the matrix below them
pub record SolverRoom (len : ℕ) (h : Hermitian) (l : Vectors) : Type 0 where
  pub diagonal-below : h.diagonal + h.size ≤ l.x
  pub off-below : h.off + 2 * h.edges ≤ l.x
  pub vector-room : VectorRoom len h.size l

-- where the packed copy of the matrix stands: its entries are below the vectors too
pub record EngineRoom (words : ℕ) (h : Hermitian) (l : Vectors) (t : Packing) : Type 0 where
  pub one_size : t.size ≡ h.size
  pub entries_below : t.entries + 2 * t.slots ≤ l.x
  pub starts-in : t.starts + (t.size + 1) ≤ words
  pub neighbours-in : t.neighbours + t.slots ≤ words
  pub marks-in : t.marks + t.size ≤ words

-- the packed copy of the matrix stands in w and u
pub record Engine (w : List Float) (h : Hermitian) (l : Vectors) (from to u : List ℕ) (t : Packing) : Type 0 where
  pub room : EngineRoom (length u) h l t
  pub packed : Packed (matrix w h from to) w u t

-- ---- what the functions leave and return

-- `begin`: the vectors before the first iteration, and the first residual dot
pub record Begun (w w' : List Float) (h : Hermitian) (l : Vectors) (r : Float) : Type 0 where
  pub work : w' ≡ lay w h.size l (begun (region nan w h.diagonal h.size) (read w h.size l))
  pub result : r ≡ residual_dot (begun (region nan w h.diagonal h.size) (read w h.size l))

-- `multiply`: the matrix times the direction, and the denominator
pub record Multiplied (w w' : List Float) (h : Hermitian) (l : Vectors) (from to : List ℕ) (r : Float) : Type 0 where
  pub work : w' ≡ lay w h.size l (multiplied (matrix w h from to) (read w h.size l))
  pub result : r ≡ denominator (multiplied (matrix w h from to) (read w h.size l))

-- the residual after its step, with its own product and the residual dot
pub record Updated (w w' : List Float) (n : ℕ) (l : Vectors) (alpha : Float) (r : Sums) : Type 0 where
  pub work : w' ≡ lay w n l (reduced alpha (read w n l))
  pub square : r.square ≡ (dot_of (reduced alpha (read w n l)).r (reduced alpha (read w n l)).r).re
  pub next : r.next ≡ residual_dot (reduced alpha (read w n l))

-- `step` and `iterate_once`: the vectors after an iteration, and how it ends
pub record Ended (w w' : List Float) (n : ℕ) (l : Vectors) (t : Iteration) (r : Result (Option Float) Reason) : Type 0 where
  pub work : w' ≡ lay w n l t.state
  pub result : r ≡ t.result

-- `iterate` and `conjugate_gradient`: the vectors at the end, and the answer
pub record Solved (w w' : List Float) (n : ℕ) (l : Vectors) (o : Outcome) (r : Result ℕ Reason) : Type 0 where
  pub work : w' ≡ lay w n l o.state
  pub result : r ≡ o.answer

-- normalize_in_mass: y is left with the mass matrix times x
pub record InMass (w w' : List Float) (x y n : ℕ) (m : Matrix) (r : Result (Unit {0}) Reason) : Type 0 where
  pub work : w' ≡ put_c (put_c w y (applied m (region_c w x n))) x (normalized_vector (mass_squared m (region_c w x n)) (region_c w x n))
  pub result : r ≡ normalized_answer (mass_squared m (region_c w x n))
