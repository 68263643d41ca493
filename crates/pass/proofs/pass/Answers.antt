-- `pass::pass` meets its contract: the laws of proofs/Whole, of what its calls ensure.
use borrow.Author.Rules.{rules}
use Rattle.pass.proofs.Whole.{ordered-now, stands-now, pass-refused, pass-found, ordered-by, below_by, found-by}
use Rattle.pass.proofs.pass.Goals as goal

pub set_up-requires : goal.set_up-requires
set_up-requires c = record { ordered = ordered-by c.args.at c.layout_at-l.ensures c.requires.fits; below = below_by c.args.at _ c.args.words.now c.layout_at-l.ensures c.requires.below }

pub returns-in_err-edges : goal.returns-in_err-edges
returns-in_err-edges c =
    found-by c.args.at c.args.o c.args.a c.layout_at-l.ensures
    (pass-refused _ _ _ c.args.o c.args.a (ordered-by c.args.at c.layout_at-l.ensures c.requires.fits) c.set_up.ensures _ c.in_err-edges.was (search rules))

pub field_over-requires : goal.field_over-requires
field_over-requires c = record {
  ordered = ordered-now _ _ _ c.args.o c.args.a (ordered-by c.args.at c.layout_at-l.ensures c.requires.fits)
      c.set_up.ensures;
  stands = stands-now _ _ _ c.args.o c.args.a
      (ordered-by c.args.at c.layout_at-l.ensures c.requires.fits) c.set_up.ensures _
      c.in_ok-edges.was;
}

pub returns : goal.returns
returns c =
    found-by c.args.at c.args.o c.args.a c.layout_at-l.ensures
    (pass-found _ _ _ c.args.o c.args.a (ordered-by c.args.at c.layout_at-l.ensures c.requires.fits)
    c.set_up.ensures _ c.in_ok-edges.was c.field_over.ensures)
