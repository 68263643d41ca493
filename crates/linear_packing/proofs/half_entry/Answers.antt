-- `linear_packing::half_entry` meets its contract: each return rewrites the definition by the calls on its way; the laws are in proofs/Making.
use native.Mathlib.Omega.{arith}
use Rattle.linear_packing.proofs.Making.{entry-even, entry-odd}
use Rattle.linear_packing.proofs.half_entry.Goals as goal

pub load-z-requires : goal.load-z-requires
load-z-requires c = (c.requires.0, omega (arith, c.requires.0, c.requires.1))

pub returns-then-half-eq1 : goal.returns-then-half-eq1
returns-then-half-eq1 c = entry-odd _ _ _ _ (λ e. omega (arith, c.if-half-eq1.true)) c.load-z.ensures c.conj.ensures

pub returns : goal.returns
returns c = entry-even _ _ _ _ (omega (arith, c.if-half-eq1.false)) c.load-z.ensures
