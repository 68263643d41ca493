-- `linear_packing::neighbour_of` meets its contract: each return rewrites the definition by the calls on its way; the laws are in proofs/Making.
use native.Mathlib.Omega.{arith}
use Rattle.linear_packing.proofs.Making.{neighbour-even, neighbour-odd}
use Rattle.linear_packing.proofs.neighbour_of.Goals as goal

pub load_number-requires : goal.load_number-requires
load_number-requires c = omega (arith, c.requires.0, c.requires.2)

pub returns-then-half-eq0 : goal.returns-then-half-eq0
returns-then-half-eq0 c = neighbour-even c.args.source _ _ c.requires.0 c.if-half-eq0.true c.load_number.ensures

pub load_number-requires-2 : goal.load_number-requires-2
load_number-requires-2 c = omega (arith, c.requires.0, c.requires.1)

pub returns : goal.returns
returns c = neighbour-odd c.args.source _ _ c.requires.0 c.if-half-eq0.false c.load_number-2.ensures
