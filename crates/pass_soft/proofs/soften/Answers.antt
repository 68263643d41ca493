-- `pass_soft::soften` meets its contract: its two calls; the laws are in proofs/Systems.
use Rattle.pass_soft.proofs.Systems.{same-soft, softens-then}
use borrow.Author.Rules.{rules}
use Rattle.pass_soft.proofs.soften.Goals as goal

pub aligned_term-requires : goal.aligned_term-requires
aligned_term-requires c = record { soft_room = same-soft (search rules) _ _ _ c.requires.soft_room.0; graph = c.requires.graph }

pub returns : goal.returns
returns c =
    softens-then _ _ _ _ _ _ c.requires.soft_room.0 c.guided_term.ensures c.aligned_term.ensures
