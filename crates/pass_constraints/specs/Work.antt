-- The same in regions of a work slice: what the functions require, the iterations of their loops on the flat list, and what they leave.
use Rattle.std.specs.Prelude.{ℕ, ◌+◌, ◌*◌, ◌≤◌, List, get_or, set, Float}
use Rattle.std.specs.Float.{nan}
use Rattle.linear_cells.specs.Region.{region, put, Apart}
use Rattle.linear_cells.specs.Cell.{get_c, set_c, region_c, put_c}
use Rattle.linear_hermitian.specs.declared.Hermitian.{Hermitian}
use Rattle.linear_hermitian.specs.Work.{PairRoom}
use Rattle.pass_constraints.specs.declared.Tangents.{Tangents}
use Rattle.pass_constraints.specs.declared.Penalty.{Penalty}
use Rattle.pass_constraints.specs.Constraints.{dropped_at, dropped, fixed_at, fixed, blanked_at, blanked, coupled_at, coupled, penalised_at, penalised, penalty_at, penalties}

-- ---- facts of lengths and offsets: `omega (arith, apart)` proves each of these records

-- a matrix in a slice of len elements
pub record MatrixRoom (len : ℕ) (h : Hermitian) : Type 0 where
  pub diagonal-in : h.diagonal + h.size ≤ len
  pub off-in : h.off + 2 * h.edges ≤ len
  pub diagonal-off : Apart h.off (2 * h.edges) h.diagonal h.size

-- the vectors of the tangent branch
pub record TangentRoom (len n : ℕ) (l : Tangents) : Type 0 where
  pub rhs-in : l.rhs + 2 * n ≤ len
  pub coupling-in : l.coupling + 2 * n ≤ len
  pub targets-in : l.targets + 2 * n ≤ len
  pub rhs-coupling : Apart l.rhs (2 * n) l.coupling (2 * n)
  pub rhs-targets : Apart l.rhs (2 * n) l.targets (2 * n)

-- the diagonals and vectors of the weak branch
pub record PenaltyRoom (len n : ℕ) (l : Penalty) : Type 0 where
  pub diagonals : PairRoom len l.mass l.diagonal n
  pub rhs-in : l.rhs + 2 * n ≤ len
  pub targets-in : l.targets + 2 * n ≤ len
  pub rhs-targets : Apart l.rhs (2 * n) l.targets (2 * n)
  pub rhs-mass : Apart l.rhs (2 * n) l.mass n
  pub diagonal-targets : Apart l.diagonal n l.targets (2 * n)

-- ---- iterations

unfoldable pub drop_c : Hermitian → List ℕ → List ℕ → List ℕ → ℕ → List Float → List Float
drop_c h flags a b e w = set_c w h.off h.edges e (dropped_at flags a b e (get_c w h.off h.edges e))

unfoldable pub fix_c : ℕ → List ℕ → ℕ → List Float → List Float
fix_c diagonal flags i w = set w (diagonal + i) (fixed_at flags i (get_or w (diagonal + i) nan))

unfoldable pub blank_c : ℕ → ℕ → List ℕ → ℕ → List Float → List Float
blank_c target n flags i w = set_c w target n i (blanked_at flags i (get_c w target n i))

unfoldable pub couple_c : Tangents → ℕ → List ℕ → ℕ → List Float → List Float
couple_c l n flags i w = set_c w l.rhs n i (coupled_at flags i (get_c w l.targets n i) (get_c w l.coupling n i) (get_c w l.rhs n i))

unfoldable pub penalise_c : Penalty → List ℕ → ℕ → List Float → List Float
penalise_c l flags i w = set w (l.diagonal + i) (penalised_at flags l.weight i (get_or w (l.mass + i) nan) (get_or w (l.diagonal + i) nan))

unfoldable pub penalty_c : Penalty → ℕ → List ℕ → ℕ → List Float → List Float
penalty_c l n flags i w = set_c w l.rhs n i (penalty_at flags l.weight i (get_or w (l.mass + i) nan) (get_c w l.targets n i))

-- ---- what the functions leave

unfoldable pub dropped_in : Hermitian → List ℕ → List ℕ → List ℕ → List Float → List Float
dropped_in h flags a b w = put_c w h.off (dropped flags a b (region_c w h.off h.edges))

unfoldable pub fixed_in : ℕ → ℕ → List ℕ → List Float → List Float
fixed_in diagonal n flags w = put w diagonal (fixed flags (region nan w diagonal n))

-- dirichlet_rows
unfoldable pub rows_in : Hermitian → List ℕ → List ℕ → List ℕ → List Float → List Float
rows_in h flags a b w = put (dropped_in h flags a b w) h.diagonal (fixed flags (region nan w h.diagonal h.size))

unfoldable pub blanked_in : ℕ → ℕ → List ℕ → List Float → List Float
blanked_in target n flags w = put_c w target (blanked flags (region_c w target n))

unfoldable pub coupled_in : Tangents → ℕ → List ℕ → List Float → List Float
coupled_in l n flags w = put_c w l.rhs (coupled flags (region_c w l.targets n) (region_c w l.coupling n) (region_c w l.rhs n))

unfoldable pub penalised_in : Penalty → ℕ → List ℕ → List Float → List Float
penalised_in l n flags w = put w l.diagonal (penalised flags l.weight (region nan w l.mass n) (region nan w l.diagonal n))

unfoldable pub penalties_in : Penalty → ℕ → List ℕ → List Float → List Float
penalties_in l n flags w = put_c w l.rhs (penalties flags l.weight (region nan w l.mass n) (region_c w l.targets n))

-- penalise
unfoldable pub weak_in : Penalty → ℕ → List ℕ → List Float → List Float
weak_in l n flags w = put_c (penalised_in l n flags w) l.rhs (penalties flags l.weight (region nan w l.mass n) (region_c w l.targets n))
