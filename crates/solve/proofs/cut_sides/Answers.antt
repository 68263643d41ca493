-- `solve::cut_sides` meets its contract: the law of proofs/Cuts, of what its calls ensure.
use Rattle.solve.proofs.Cuts.{cuts-by}
use Rattle.solve.proofs.cut_sides.Goals as goal

pub returns : goal.returns
returns c =
    cuts-by c.args.triangles.now c.args.n c.args.threshold c.args.work.now c.args.words.now c.requires c.clear.ensures.0 c.cut_sides.ensures
