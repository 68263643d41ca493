-- `edges::clear` meets its contract: each return follows from the tests and the calls on its way; the laws are in proofs/Stored.
use Prim.Native.Nat.{ℕ}
use Rattle.edges.proofs.Stored.{empty-held}
use Rattle.edges.specs.Table.{Held}
use mathlib.Core.List.{List}
use mathlib.Core.Path.{sym, subst}
use Rattle.edges.proofs.clear.Goals as goal

pub returns : goal.returns
returns c =
    (c.fill.ensures, subst (λ (l : List ℕ). Held c.args.base c.args.n l 0) (sym c.fill.ensures) (empty-held _ _ _ c.requires.0 c.requires.1))
