-- The transport coefficient of every edge of a pass, up to the first whose mean size is refused (row 22): lines 1286 to 1291 of the Rust's solve_mesh,
-- with its transport_coefficient, lines 697 to 720. Definitions only.
-- Edge e goes from its lower end a e to its upper end b e, where a and b list the ends of the edges in the order first met.
use Rattle.std.specs.Prelude.{ℕ, Bool, not, cond, List, [], ◌∷◌, eqb, ltb, length, get_or, Float, Result, Ok, Err}
use Rattle.std.specs.Float.{nan}
use Rattle.complex.specs.declared.Complex.{Complex}
use Rattle.complex.specs.Complex.{cnan}
use Rattle.floor.specs.Checks.{lowest}
use Rattle.geometry.specs.declared.End.{End}
use Rattle.geometry.specs.declared.MeanSize.{MeanSize}
use Rattle.geometry.specs.Triangle.{at}
use Rattle.geometry.specs.Edge as edge
use Rattle.geometry.specs.Edge.{transport_of}
use Rattle.linear_cells.specs.Region.{tab}

-- the points of a pass: coordinates, sizes, and the size gradients' two parts
pub record Points : Type 0 where
  pub x : ℕ → Float
  pub y : ℕ → Float
  pub size : ℕ → Float
  pub gx : ℕ → Float
  pub gy : ℕ → Float

-- the same, given by lists
unfoldable pub points_of : List Float → List Float → List Float → List Float → List Float → Points
points_of xs ys sizes gxs gys = record {
  x = λ v. get_or xs v nan;
  y = λ v. get_or ys v nan;
  size = λ v. get_or sizes v nan;
  gx = λ v. get_or gxs v nan;
  gy = λ v. get_or gys v nan;
}

unfoldable pub end_of : Points → ℕ → End
end_of p v = record { vertex = v; position = at p.x p.y v; size = p.size v; gradient = at p.gx p.gy v }

-- what one edge has: its coefficient, or row 22
abbrev pub Transport : Type 0
Transport = Result Complex MeanSize

-- what all edges have: their coefficients, or row 22 of the first that it refuses
abbrev pub Answer : Type 0
Answer = Result (Unit {0}) MeanSize

unfoldable pub transport_at : Points → List ℕ → List ℕ → ℕ → Transport
transport_at p a b e = transport_of (end_of p (get_or a e 0)) (end_of p (get_or b e 0))

-- row 22: "mean size of an edge not finite". The Rust also asks that it be positive, which the mean of two positive sizes always is
abbrev pub is_refused : Transport → Bool
is_refused t = not (eqb (edge.number t) 0)

abbrev pub coefficient : Transport → Complex
coefficient (Ok z) = z
coefficient (Err e) = cnan

-- the lowest of m edges that is refused, or m
unfoldable pub first_mean : Points → List ℕ → List ℕ → ℕ → ℕ
first_mean p a b m = lowest (λ e. is_refused (transport_at p a b e)) m

unfoldable pub coefficient_at : Points → List ℕ → List ℕ → ℕ → Complex
coefficient_at p a b e = coefficient (transport_at p a b e)

unfoldable pub coefficients_of : Points → List ℕ → List ℕ → List Complex
coefficients_of p a b = tab (coefficient_at p a b) (length a)

-- the answer, with the refused edge's ends, the lower first
abbrev pub ends_at : List ℕ → List ℕ → ℕ → MeanSize
ends_at a b e = record { from = get_or a e 0; to = get_or b e 0 }

abbrev pub refused_at : List ℕ → List ℕ → ℕ → Answer
refused_at a b e = Err (ends_at a b e)

unfoldable pub transports_answer : Points → List ℕ → List ℕ → Answer
transports_answer p a b = cond (ltb (first_mean p a b (length a)) (length a)) (refused_at a b (first_mean p a b (length a))) (Ok tt)

-- the refusal's number and place that an answer stands for: 0 and none where it is no refusal
abbrev pub number : Answer → ℕ
number (Ok _) = 0
number (Err e) = 22

abbrev pub place : Answer → List ℕ
place (Ok _) = []
place (Err e) = e.from ∷ e.to ∷ []
