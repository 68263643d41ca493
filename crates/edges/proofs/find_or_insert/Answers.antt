-- `edges::find_or_insert` meets its contract: a side that the walk found stays, any other is put where the walk ended; the laws are in proofs/Stored.
use native.Mathlib.Omega.{arith}
use lib.ListN.{length-set}
use Rattle.edges.proofs.Stored.{spot_in, met-found, met-added}
use Rattle.edges.proofs.find_or_insert.Goals as goal

pub returns-in-Some : goal.returns-in-Some
returns-in-Some c = met-found _ _ c.requires.held c.walk-s.ensures c.in-Some.is

pub bounds-w-k-2 : goal.bounds-w-k-2
bounds-w-k-2 c = simp length-set (omega arith)

pub bounds-w-k-3 : goal.bounds-w-k-3
bounds-w-k-3 c = simp length-set (omega arith)

pub bounds-w-k-4 : goal.bounds-w-k-4
bounds-w-k-4 c = simp length-set (omega arith)

pub offset_bounds-w-position : goal.offset_bounds-w-position
offset_bounds-w-position c = record { fits = omega (arith, spot_in c.walk-s.ensures.spot) }

pub bounds-w-position : goal.bounds-w-position
bounds-w-position c = simp length-set (omega (arith, spot_in c.walk-s.ensures.spot))

pub returns : goal.returns
returns c =
    met-added _ _ c.requires.held c.walk-s.ensures c.in_default.is c.requires.t_in_bounds.0
