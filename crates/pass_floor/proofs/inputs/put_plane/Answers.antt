-- `pass_floor::inputs::put_plane` meets its contract: the loop keeps what `Inv-loop` says, and what is left to do falls at each iteration; the laws are those of crate linear_cells.
use Rattle.pass_floor.proofs.Points.{plane-done}
use Rattle.linear_cells.proofs.Writes.{write-none, write_again, write_done}
use borrow.Author.Rules.{rules}
use Rattle.pass_floor.proofs.inputs.put_plane.Goals as goal

pub loop-v-init : goal.loop-v-init
loop-v-init c = search (write-none, rules)

pub loop-v-preserved : goal.loop-v-preserved
loop-v-preserved c = search (write_again, rules)

pub returns : goal.returns
returns c = search (plane-done, write_done, rules)
