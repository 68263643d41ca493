-- What the two boundary modes make of a system: the Rust's dirichlet_rows (lines 922 to 934) and the tangent and weak branches of solve_mesh, as far as
-- they are not a product or a shift, over lists. Definitions only.
-- A flag of 1 says that a point lies on the boundary; `targets` are the directions asked for there.
use Rattle.std.specs.Prelude.{ℕ, Bool, cond, ◌||◌, List, eqb, length, get_or, Float}
use Rattle.std.specs.Float.{nan}
use Rattle.float.specs.Double.{lit, ◌⊕◌, ◌⊗◌}
use Rattle.complex.specs.declared.Complex.{Complex}
use Rattle.complex.specs.Complex.{czero, cnan, cadd, csub, cscale}
use Rattle.linear_cells.specs.Region.{tab}
use Rattle.linear_hermitian.specs.Hermitian.{Matrix}

-- the Rust's `is_boundary[i]`
unfoldable pub on : List ℕ → ℕ → Bool
on flags i = eqb (get_or flags i 0) 1

-- ---- dirichlet_rows

-- lines 923 to 927: the entries of edges with an end on the boundary, from a to b, are dropped
unfoldable pub dropped_at : List ℕ → List ℕ → List ℕ → ℕ → Complex → Complex
dropped_at flags a b e z = cond (on flags (get_or a e 0) || on flags (get_or b e 0)) czero z

unfoldable pub dropped : List ℕ → List ℕ → List ℕ → List Complex → List Complex
dropped flags a b off = tab (λ e. dropped_at flags a b e (get_or off e cnan)) (length off)

-- lines 928 to 932: the diagonal is 1 there
unfoldable pub fixed_at : List ℕ → ℕ → Float → Float
fixed_at flags i d = cond (on flags i) (lit 0x3ff0_0000_0000_0000) d

unfoldable pub fixed : List ℕ → List Float → List Float
fixed flags diagonal = tab (λ i. fixed_at flags i (get_or diagonal i nan)) (length diagonal)

unfoldable pub dirichlet_rows : List ℕ → Matrix → Matrix
dirichlet_rows flags m = record { diagonal = fixed flags m.diagonal; off = dropped flags m.edge_a m.edge_b m.off; edge_a = m.edge_a; edge_b = m.edge_b }

-- ---- the tangent branch

-- lines 1470 to 1478: the vector whose product with the matrix is the coupling
unfoldable pub boundary_data : List ℕ → List Complex → List Complex
boundary_data flags targets = tab (λ i. cond (on flags i) (get_or targets i cnan) czero) (length targets)

-- lines 1483 to 1493: a soft target, blanked on the boundary
unfoldable pub blanked_at : List ℕ → ℕ → Complex → Complex
blanked_at flags i z = cond (on flags i) czero z

unfoldable pub blanked : List ℕ → List Complex → List Complex
blanked flags target = tab (λ i. blanked_at flags i (get_or target i cnan)) (length target)

-- lines 1495 to 1499: a soft term is added to the right-hand side off the boundary alone
unfoldable pub added_inside : List ℕ → Float → List Complex → List Complex → List Complex
added_inside flags weight applied rhs = tab (λ i. cond (on flags i) (get_or rhs i cnan) (cadd (get_or rhs i cnan) (cscale (get_or applied i cnan) weight))) (length rhs)

-- lines 1502 to 1508: the targets, and elsewhere the right-hand side less the coupling
unfoldable pub coupled_at : List ℕ → ℕ → Complex → Complex → Complex → Complex
coupled_at flags i target coupling z = cond (on flags i) target (csub z coupling)

unfoldable pub coupled : List ℕ → List Complex → List Complex → List Complex → List Complex
coupled flags targets coupling rhs = tab (λ i. coupled_at flags i (get_or targets i cnan) (get_or coupling i cnan) (get_or rhs i cnan)) (length rhs)

-- ---- the weak branch, lines 1517 to 1523: the penalty is weight * M_ii

unfoldable pub penalised_at : List ℕ → Float → ℕ → Float → Float → Float
penalised_at flags weight i mass d = cond (on flags i) (d ⊕ weight ⊗ mass) d

-- on the diagonal, mass being the mass matrix's
unfoldable pub penalised : List ℕ → Float → List Float → List Float → List Float
penalised flags weight mass diagonal = tab (λ i. penalised_at flags weight i (get_or mass i nan) (get_or diagonal i nan)) (length diagonal)

unfoldable pub penalty_at : List ℕ → Float → ℕ → Float → Complex → Complex
penalty_at flags weight i mass target = cond (on flags i) (cscale target (weight ⊗ mass)) czero

-- the right-hand side, 0 off the boundary
unfoldable pub penalties : List ℕ → Float → List Float → List Complex → List Complex
penalties flags weight mass targets = tab (λ i. penalty_at flags weight i (get_or mass i nan) (get_or targets i cnan)) (length targets)

unfoldable pub penalised_by : List ℕ → Float → Matrix → Matrix → Matrix
penalised_by flags weight mass m = record { diagonal = penalised flags weight mass.diagonal m.diagonal; off = m.off; edge_a = m.edge_a; edge_b = m.edge_b }
