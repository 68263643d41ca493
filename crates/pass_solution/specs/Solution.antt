-- A pass's linear solves: the tolerance, and the most iterations of each. Definitions only.
use Rattle.std.specs.Prelude.{ℕ, min, max, ◌+◌, ◌*◌, List, Float}
use Rattle.float.specs.Double.{lit}
use Rattle.complex.specs.declared.Complex.{Complex}
use Rattle.linear_hermitian.specs.Hermitian.{Matrix}
use Rattle.linear_conjugate_gradient.specs.Found.{Found, vector, gave}
use Rattle.linear_conjugate_gradient.specs.Method.{conjugate_gradient}

-- on by f where there is a vector
unfoldable pub onward : Found → (List Complex → Found) → Found
onward (vector v) f = f v
onward (gave r i) f = gave r i

-- INNER_TOLERANCE, 1e-9
abbrev pub inner_tolerance : Float
inner_tolerance = lit 0x3e11_2e0b_e826_d695

-- the solution of m x = rhs, by at most k iterations
unfoldable pub solution_of : Matrix → ℕ → List Complex → Found
solution_of m k rhs = conjugate_gradient m inner_tolerance k rhs

-- ---- the most iterations of a solve over n vertices

-- `400 + 8 * n`
abbrev pub count_for : ℕ → ℕ
count_for n = 400 + 8 * n

-- `6000`, the bound of every count
abbrev pub count_bound : ℕ
count_bound = 6000

-- of a solve in the inverse iteration, line 1586
unfoldable pub inner_most : ℕ → ℕ
inner_most n = min (count_for n) count_bound

-- of the other solves, lines 1465 and 1545
unfoldable pub linear_most : ℕ → ℕ → ℕ
linear_most n iterations = min (max (count_for n) iterations) count_bound
