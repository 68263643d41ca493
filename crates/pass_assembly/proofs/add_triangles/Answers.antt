-- `pass_assembly::add_triangles` meets its contract: the loop keeps what `Inv-loop` says, and what is left to do falls at each iteration; the laws are in proofs/Rounds.
use native.Mathlib.Omega.{arith}
use Rattle.pass_assembly.proofs.Rounds.{to-again, to-done}
use borrow.Author.Rules.{rules}
use Rattle.pass_assembly.proofs.add_triangles.Goals as goal

pub add_triangle-requires : goal.add_triangle-requires
add_triangle-requires c = record { assembly_room = (rw c.loop-t.invariant.2 c.requires.assembly_room, omega arith); indexed = c.requires.indexed.0 }

pub loop-t-preserved : goal.loop-t-preserved
loop-t-preserved c = search (to-again, rules)

pub returns : goal.returns
returns c = search to-done
