-- `linear_hermitian::apply` meets its contract: each return opens the definition and rewrites it by the tests and the calls on its way; the laws are in proofs/Product.
use Rattle.linear_hermitian.proofs.Product.{apply-all}
use borrow.Author.Rules.{rules}
use Rattle.linear_hermitian.proofs.apply.Goals as goal

pub edges-requires : goal.edges-requires
edges-requires c = record { edges_room = search rules; graph = search rules }

pub returns : goal.returns
returns c = search apply-all
