-- What was lost stands at the front of the part that is lent, so at the front of the whole.
use Rattle.std.proofs.Common.{ℕ, List, ◌++◌, arith, length-append, subst, sym}
use Rattle.std.proofs.lemmas.Result.{on_err_weaker}
use Rattle.std.specs.declared.option.Option.{Option}
use Rattle.std.specs.Io.KnownBytes.{Consumes}
use lib.Seq.{take-append-le}
use Rattle.replay.specs.Rows.{LosesFront}
use Rattle.replay.proofs.rows.next.Goals as goal

grown : (old new : Option (List ℕ)) (xs post : List ℕ) → LosesFront old new xs → LosesFront old new (xs ++ post)
grown old new xs post p = (p.0, omega (arith, length-append xs post, p.1), subst (Consumes old new) (sym (take-append-le p.0 xs post p.1)) p.2)

pub returns-clause-err : goal.returns-clause-err
returns-clause-err g c = on_err_weaker _ (grown _ _ _ _) c.read_full.ensures.err
