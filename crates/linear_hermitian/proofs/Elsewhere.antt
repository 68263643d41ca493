-- What a shift of one matrix by another leaves: every region elsewhere, and the other matrix. Assumes nothing.
use mathlib.Core.Path.{◌≡◌, sym, subst, ◌∙◌}
use mathlib.Core.List.{List}
use Prim.Native.Nat.{ℕ, ◌*◌}
use lib.Ieee.{Float, nan}
use Rattle.linear_cells.specs.Region.{region, Apart}
use Rattle.linear_cells.specs.Cell.{region_c}
use Rattle.linear_cells.proofs.Loops.{length-tab}
use Rattle.linear_cells.proofs.Regions.{length-region, region-else}
use Rattle.linear_cells.proofs.Cells.{length-region_c, region_r-else, region_c-same}
use Rattle.linear_hermitian.specs.declared.Hermitian.{Hermitian}
use Rattle.linear_hermitian.specs.Hermitian.{shifted_diagonal, shifted_off}
use Rattle.linear_hermitian.specs.Work.{matrix, shift_matrix, ShiftRoom}

module _ (w : List Float) (h : Hermitian) (shift : Float) (mass : Hermitian) where
  pub shift-else-real : (c m : ℕ) → Apart h.diagonal h.size c m → Apart h.off (2 * h.edges) c m → region nan (shift_matrix w h shift mass) c m ≡ region nan w c m
  unfolding shift_matrix shifted_diagonal shifted_off
  shift-else-real c m a b =
      region_r-else _ h.off _ (length-tab _ _ ∙ length-region_c w h.off h.edges) c m b
      ∙ region-else w h.diagonal _ (length-tab _ _ ∙ length-region nan w h.diagonal h.size) nan c m a

  pub shift-else : (c m : ℕ) → Apart h.diagonal h.size c (2 * m) → Apart h.off (2 * h.edges) c (2 * m) → region_c (shift_matrix w h shift mass) c m ≡ region_c w c m
  shift-else c m a b = region_c-same (shift_matrix w h shift mass) w c m (shift-else-real c (2 * m) a b)

  -- the other matrix
  pub mass-shifted : {len : ℕ} → ShiftRoom len h mass → Apart h.off (2 * h.edges) mass.diagonal h.size → (from to : List ℕ)
      → matrix (shift_matrix w h shift mass) mass from to ≡ matrix w mass from to
  mass-shifted ok a from to = below
    where
      diagonal : region nan (shift_matrix w h shift mass) mass.diagonal mass.size ≡ region nan w mass.diagonal mass.size
      diagonal = shift-else-real mass.diagonal mass.size
          (subst (λ (k : ℕ). Apart h.diagonal h.size mass.diagonal k) (sym ok.one_size) ok.diagonals.y-x)
          (subst (λ (k : ℕ). Apart h.off (2 * h.edges) mass.diagonal k) (sym ok.one_size) a)

      off : region_c (shift_matrix w h shift mass) mass.off mass.edges ≡ region_c w mass.off mass.edges
      off = shift-else mass.off mass.edges
          (subst (λ (k : ℕ). Apart h.diagonal h.size mass.off (2 * k)) (sym ok.one-graph) ok.diagonal-mass)
          (subst (λ (k : ℕ). Apart h.off (2 * h.edges) mass.off (2 * k)) (sym ok.one-graph) ok.offs.y-x)

      below : matrix (shift_matrix w h shift mass) mass from to ≡ matrix w mass from to
      below = unfold matrix in λ k. record { diagonal = diagonal k; off = off k; edge_a = from; edge_b = to }
