-- `pass_transports::transport_at` meets its contract: each return opens the definition and rewrites it by the tests and the calls on its way.
use native.Mathlib.Omega.{arith}
use Rattle.pass_transports.specs.Transports.{transport_at}
use Rattle.pass_transports.proofs.transport_at.Goals as goal

pub end_at-a-requires : goal.end_at-a-requires
end_at-a-requires c =
    (c.requires.transports_room.0, omega (arith, c.index.ensures, c.requires.ends.a-below _ c.requires.transports_room.1))

pub end_at-b-requires : goal.end_at-b-requires
end_at-b-requires c =
    (c.requires.transports_room.0, omega (arith, c.index-2.ensures, c.requires.ends.b-below _ c.requires.transports_room.1))

pub returns : goal.returns
unfolding transport_at
returns c = simp (c.transport_coefficient.ensures, c.end_at-b.ensures, c.index-2.ensures, c.end_at-a.ensures, c.index.ensures)
