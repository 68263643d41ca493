-- `edges::two_slices::find_or_insert` meets its contract: a side that the walk found stays, any other is put where the walk ended; the laws are in proofs/TwoSlices.
use native.Mathlib.Omega.{arith}
use lib.ListN.{length-set}
use Rattle.edges.proofs.TwoSlices.{spot-within, met-found, met-added}
use Rattle.edges.proofs.two_slices.find_or_insert.Goals as goal

pub returns-in-Some : goal.returns-in-Some
returns-in-Some c =
    met-found _ _ c.requires.held_in_two c.walk-s.ensures c.in-Some.is

pub bounds-ends-m-2 : goal.bounds-ends-m-2
bounds-ends-m-2 c = simp length-set (omega arith)

pub bounds-links-k-2 : goal.bounds-links-k-2
bounds-links-k-2 c = simp length-set (omega arith)

pub offset_bounds-links-position : goal.offset_bounds-links-position
offset_bounds-links-position c = record { fits = omega (arith, spot-within c.walk-s.ensures.spot) }

pub bounds-links-position : goal.bounds-links-position
bounds-links-position c = simp length-set (omega (arith, spot-within c.walk-s.ensures.spot))

pub returns : goal.returns
returns c =
    met-added _ _ c.requires.held_in_two c.walk-s.ensures c.in_default.is c.requires.sides_in_bounds.0 c.requires.sides_in_bounds.1.0
