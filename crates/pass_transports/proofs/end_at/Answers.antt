-- `pass_transports::end_at` meets its contract: each return opens the definition and rewrites it by the tests and the calls on its way.
use Rattle.pass_transports.specs.Work.{points_from}
use Rattle.pass_transports.specs.Transports.{end_of}
use Rattle.pass_transports.proofs.end_at.Goals as goal

pub returns : goal.returns
unfolding end_of points_from
returns c = simp (c.load_real-size.ensures, c.position-gradient.ensures, c.position-position.ensures)
