-- What the layers answer where every test that they leave to their callers is made first.
use Rattle.std.specs.Prelude.{◌≡◌, Bool, true, false, ◌&&◌, List, ℕ, ◌+◌, ◌*◌, ◌^◌, ltb, leb, length, Option, Some, None, Result, Float}
use Rattle.linear_cells.specs.Region.{put}
use Rattle.linear_cells.specs.Cell.{region_c, put_c}
use Rattle.linear_hermitian.specs.declared.Hermitian.{Hermitian}
use Rattle.linear_hermitian.specs.Hermitian.{applied}
use Rattle.linear_hermitian.specs.Work.{matrix}
use Rattle.linear_adjacency.specs.Incidence.{are_edges}
use Rattle.linear_packing.specs.declared.Packing.{Packing}
use Rattle.linear_packing.specs.declared.Source.{Source}
use Rattle.linear_packing.specs.Slots.{entries_of}
use Rattle.linear_packing.specs.Pack.{packed_in}
use Rattle.linear_conjugate_gradient.specs.declared.Vectors.{Vectors}
use Rattle.linear_conjugate_gradient.specs.declared.Reason.{Reason}
use Rattle.linear_conjugate_gradient.specs.Method.{mass_squared}
use Rattle.linear_conjugate_gradient.specs.Solve.{Outcome, solved, normalized_answer, normalized_vector}
use Rattle.linear_conjugate_gradient.specs.Work.{read, lay}

-- the work slice has room for n rows, and every edge has two different ends among them (`is_good`)
unfoldable pub good : ℕ → ℕ → List ℕ → List ℕ → Bool
good len n from to = leb (10 * n + 6 * length from) len && are_edges n from to

-- there is room for the packed copy of n rows and m edges, and each of its numbers is a u32 (`has_room`)
unfoldable pub roomy : ℕ → ℕ → ℕ → Bool
roomy len n m = ltb n (2 ^ 32) && (ltb m (2 ^ 30) && leb (2 * n + 1 + 6 * m) len)

-- the diagonal, the entries off it, those of the packed copy, and the vectors, one after another from 0
unfoldable pub matrix_for : ℕ → ℕ → Hermitian
matrix_for n m = record { size = n; edges = m; diagonal = 0; off = n }

unfoldable pub vectors_for : ℕ → ℕ → Vectors
vectors_for n m = record {
  x = n + 6 * m;
  residual = n + 6 * m + 2 * n;
  direction = n + 6 * m + 2 * n + 2 * n;
  applied = n + 6 * m + 2 * n + 2 * n + 2 * n;
  inverse = n + 6 * m + 2 * n + 2 * n + 2 * n + 2 * n;
}

-- where the packed copy stands (`packing_for`), and what it is made from (`source_for`)
abbrev pub packing_for : ℕ → ℕ → Packing
packing_for n m = record { size = n; slots = 2 * m; entries = n + 2 * m; starts = 0; neighbours = n + 1; marks = n + 1 + 6 * m }

abbrev pub source_for : ℕ → ℕ → Source
source_for n m = record { edges = m; from = n + 1 + 4 * m; to = n + 1 + 5 * m; halves = n + 1 + 2 * m }

-- the ends of the edges are copied, and the packed copy is made from them (`number_edges`)
abbrev pub ends_for : List ℕ → ℕ → List ℕ → List ℕ → List ℕ
ends_for u n from to = put (put u (source_for n (length from)).from from) (source_for n (length from)).to to

unfoldable pub numbers_for : List ℕ → ℕ → List ℕ → List ℕ → List ℕ
numbers_for u n from to = packed_in (packing_for n (length from)) (source_for n (length from)) (ends_for u n from to)

-- w with the entries of the packed copy
unfoldable pub entries_for : List Float → ℕ → List ℕ → List ℕ → List Float
entries_for w n from to = put_c w (n + 2 * length from) (entries_of (matrix w (matrix_for n (length from)) from to) n)

unfoldable pub outcome : List Float → ℕ → List ℕ → List ℕ → Float → ℕ → Outcome
outcome w n from to tolerance most =
    solved (matrix w (matrix_for n (length from)) from to) tolerance most (read w n (vectors_for n (length from)))

-- a solve, where all tests are passed (`run`)
pub record Runs (w w' : List Float) (n : ℕ) (from to u u' : List ℕ) (tolerance : Float) (most : ℕ) (r : Result ℕ Reason) : Type 0 where
  pub work : w' ≡ lay (entries_for w n from to) n (vectors_for n (length from)) (outcome w n from to tolerance most).state
  pub numbers : u' ≡ numbers_for u n from to
  pub result : r ≡ (outcome w n from to tolerance most).answer

-- all tests are passed
unfoldable pub tested : ℕ → ℕ → List ℕ → List ℕ → ℕ → Bool
tested len n from to words = good len n from to && roomy words n (length from)

unfoldable pub solved_work : Bool → List Float → ℕ → List ℕ → List ℕ → Float → ℕ → List Float
solved_work true w n from to tolerance most = lay (entries_for w n from to) n (vectors_for n (length from)) (outcome w n from to tolerance most).state
solved_work false w n from to tolerance most = w

unfoldable pub solved_numbers : Bool → List ℕ → ℕ → List ℕ → List ℕ → List ℕ
solved_numbers true u n from to = numbers_for u n from to
solved_numbers false u n from to = u

unfoldable pub solved_answer : Bool → List Float → ℕ → List ℕ → List ℕ → Float → ℕ → Option (Result ℕ Reason)
solved_answer true w n from to tolerance most = Some (outcome w n from to tolerance most).answer
solved_answer false w n from to tolerance most = None

-- what `solve` leaves and returns
pub record SolveChecked (w w' : List Float) (n : ℕ) (from to u u' : List ℕ) (tolerance : Float) (most : ℕ) (r : Option (Result ℕ Reason)) : Type 0 where
  pub work : w' ≡ solved_work (tested (length w) n from to (length u)) w n from to tolerance most
  pub numbers : u' ≡ solved_numbers (tested (length w) n from to (length u)) u n from to
  pub result : r ≡ solved_answer (tested (length w) n from to (length u)) w n from to tolerance most

-- the same, where only the result of the tests is returned (`layers_conjugate_gradient`)
pub record SolveTold (w w' : List Float) (n : ℕ) (from to u u' : List ℕ) (tolerance : Float) (most : ℕ) (r : Bool) : Type 0 where
  pub work : w' ≡ solved_work (tested (length w) n from to (length u)) w n from to tolerance most
  pub numbers : u' ≡ solved_numbers (tested (length w) n from to (length u)) u n from to
  pub result : r ≡ tested (length w) n from to (length u)

-- normalize_in_mass of the vector at x, with the direction's region for the product
unfoldable pub normal_work : Bool → List Float → ℕ → List ℕ → List ℕ → List Float
normal_work true w n from to =
    let l = vectors_for n (length from) in
    let m = matrix w (matrix_for n (length from)) from to in
    put_c (put_c w l.direction (applied m (region_c w l.x n))) l.x (normalized_vector (mass_squared m (region_c w l.x n)) (region_c w l.x n))
normal_work false w n from to = w

unfoldable pub normal_answer : Bool → List Float → ℕ → List ℕ → List ℕ → Option (Result (Unit {0}) Reason)
normal_answer true w n from to = Some (normalized_answer (mass_squared (matrix w (matrix_for n (length from)) from to) (region_c w (vectors_for n (length from)).x n)))
normal_answer false w n from to = None

pub record NormalChecked (w w' : List Float) (n : ℕ) (from to : List ℕ) (r : Option (Result (Unit {0}) Reason)) : Type 0 where
  pub work : w' ≡ normal_work (good (length w) n from to) w n from to
  pub result : r ≡ normal_answer (good (length w) n from to) w n from to
