-- `pass_floor::inputs::put_values` meets its contract: the loop keeps what `Inv-loop` says, and what is left to do falls at each iteration; the laws are those of crate linear_cells.
use Rattle.pass_floor.proofs.Points.{values-done}
use Rattle.linear_cells.proofs.Writes.{write-none, write_again, write_done}
use borrow.Author.Rules.{rules}
use Rattle.pass_floor.proofs.inputs.put_values.Goals as goal

pub loop-v-init : goal.loop-v-init
loop-v-init c = search (write-none, rules)

pub loop-v-preserved : goal.loop-v-preserved
loop-v-preserved c = search (write_again, rules)

pub returns : goal.returns
returns c = search (values-done, write_done, rules)
