-- Rows of numbers: the arguments of one call, then what the reference answered. Definitions only.
use Rattle.std.specs.Prelude.{ℕ, ◌+◌, Bool, false, cond, List, [], ◌∷◌, eqb, Float, Result, Ok, Err}
use Rattle.complex.specs.declared.Complex.{Complex}
use Rattle.complex.specs.Angle.{cross_angle, wrap_to_pi}
use Rattle.plane.specs.declared.Pair.{Pair}
use Rattle.integrals.specs.Integrals.{mass_integral, dirichlet_integral, dirichlet_diagonal}
use Rattle.geometry.specs.declared.TriangleGeometry.{TriangleGeometry}
use Rattle.geometry.specs.declared.Degenerate.{Degenerate}
use Rattle.geometry.specs.declared.MeanSize.{MeanSize}
use Rattle.geometry.specs.Triangle.{geometry_of, gradient_of}
use Rattle.geometry.specs.Edge.{transport_of, alignment_weight}
use Rattle.replay.specs.Words.{word_at}
use Rattle.replay.specs.Rows.{double_at, same_as}

abbrev pub same_complex : Complex → Float → Float → Bool
same_complex z re im = cond (same_as z.re re) (same_as z.im im) false

abbrev pub pair_at : List ℕ → ℕ → Pair
pair_at row k = record { x = double_at row k; y = double_at row (k + 1) }

-- omega; re, im
abbrev pub mass_row : List ℕ → Bool
mass_row row = same_complex (mass_integral (double_at row 0)) (double_at row 1) (double_at row 2)

-- omega, g11, g12, g22; re, im
abbrev pub dirichlet_row : List ℕ → Bool
dirichlet_row row = same_complex (dirichlet_integral (double_at row 0) (double_at row 1) (double_at row 2) (double_at row 3)) (double_at row 4) (double_at row 5)

-- omega, area, three positions; the entry
abbrev pub diagonal_row : List ℕ → Bool
diagonal_row row = same_as (dirichlet_diagonal (double_at row 0) (double_at row 1) (pair_at row 2 ∷ pair_at row 4 ∷ pair_at row 6 ∷ [])) (double_at row 8)

-- re, im; the angle
abbrev pub cross_row : List ℕ → Bool
cross_row row = same_as (cross_angle (record { re = double_at row 0; im = double_at row 1 })) (double_at row 2)

-- the angle; the angle wrapped
abbrev pub wrap_row : List ℕ → Bool
wrap_row row = same_as (wrap_to_pi (double_at row 0)) (double_at row 1)

-- the ratio; the weight
abbrev pub weight_row : List ℕ → Bool
weight_row row = same_as (alignment_weight (double_at row 0)) (double_at row 1)

-- a pair
abbrev pub same_pair : Pair → Float → Float → Bool
same_pair p x y = cond (same_as p.x x) (same_as p.y y) false

-- the area, and the gradient for these sizes
abbrev pub same_triangle : List ℕ → TriangleGeometry → List Float → Bool
same_triangle row g sigma = cond (same_as g.area (double_at row 11)) (same_pair (gradient_of (g.p ∷ g.q ∷ g.r ∷ []) sigma g.area) (double_at row 12) (double_at row 13)) false

-- 0, the second corner, the area and the gradient, or 19
abbrev pub same_geometry : List ℕ → List Float → Result TriangleGeometry Degenerate → Bool
same_geometry row sigma (Ok g) = cond (eqb (word_at row 9) 0) (cond (eqb g.j (word_at row 10)) (same_triangle row g sigma) false) false
same_geometry row sigma (Err e) = eqb (word_at row 9) 19

-- three positions, three sizes; what is found
abbrev pub triangle_row : List ℕ → Bool
triangle_row row = same_geometry row (double_at row 6 ∷ double_at row 7 ∷ double_at row 8 ∷ []) (geometry_of (0 ∷ 1 ∷ 2 ∷ []) (pair_at row 0 ∷ pair_at row 2 ∷ pair_at row 4 ∷ []) 0)

-- 0 and re, im, or 22
abbrev pub same_transport : List ℕ → Result Complex MeanSize → Bool
same_transport row (Ok z) = cond (eqb (word_at row 10) 0) (same_complex z (double_at row 11) (double_at row 12)) false
same_transport row (Err e) = eqb (word_at row 10) 22

-- two positions, two sizes, two gradients; what is found
abbrev pub transport_row : List ℕ → Bool
transport_row row = same_transport row (transport_of (record { vertex = 0; position = pair_at row 0; size = double_at row 4; gradient = pair_at row 6 }) (record { vertex = 1; position = pair_at row 2; size = double_at row 5; gradient = pair_at row 8 }))
