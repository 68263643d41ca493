-- `pass_soft::aligned_term` meets its contract: its two calls; the laws are in proofs/Systems.
use Rattle.pass_soft.proofs.Systems.{same-soft, aligned-added}
use borrow.Author.Rules.{rules}
use Rattle.pass_soft.proofs.aligned_term.Goals as goal

pub add_term-requires : goal.add_term-requires
add_term-requires c = record { soft_room = same-soft (search rules) _ _ _ c.requires.soft_room; graph = c.requires.graph }

pub returns : goal.returns
returns c =
    aligned-added _ _ _ _ _ _ c.args.t c.requires.soft_room c.align.ensures c.add_term.ensures
