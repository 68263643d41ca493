-- `linear_rows::apply` meets its contract: the loop keeps what `Inv-loop` says, and what is left to do falls at each iteration; the laws are in proofs/Loops.
use native.Mathlib.Omega.{arith}
use Rattle.linear_rows.proofs.Loops.{rows_none, rows-again, rows-done}
use borrow.Author.Rules.{rules}
use Rattle.linear_rows.proofs.apply.Goals as goal

pub loop-v-init : goal.loop-v-init
loop-v-init c = search (rows_none, rules)

pub row_at-requires : goal.row_at-requires
row_at-requires c = record { row_room = omega arith; graph = c.requires.graph; listed = c.requires.listed; v_lt_size = omega arith }

pub loop-v-preserved : goal.loop-v-preserved
loop-v-preserved c = search (rows-again, rules)

pub returns : goal.returns
returns c = search rows-done
