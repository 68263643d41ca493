-- `probe::weights_of` meets its contract: each weight that is given passes its test, and the first that is not ends it; the laws are in proofs/Weighed.
use Rattle.probe.specs.Weights.{weighed_at}
use Rattle.probe.proofs.Weighed.{weight-given, weight-none}
use Rattle.probe.proofs.weights_of.Goals as goal

pub returns-in_err-i : goal.returns-in_err-i
unfolding weighed_at
returns-in_err-i c = rw c.from_residual.ensures (simp (weight-none _ _ _ _ c.in_err-i.ensures))

pub returns-in_err-j : goal.returns-in_err-j
unfolding weighed_at
returns-in_err-j c =
    rw c.from_residual-in_err-j.ensures
    (simp ((weight-given _ _ _ _ _ c.in_ok-i.ensures).0, weight-none _ _ _ _ c.in_err-j.ensures))

pub returns-in_err-k : goal.returns-in_err-k
unfolding weighed_at
returns-in_err-k c =
    rw c.from_residual-in_err-k.ensures
    (simp ((weight-given _ _ _ _ _ c.in_ok-i.ensures).0, (weight-given _ _ _ _ _ c.in_ok-j.ensures).0, weight-none _ _ _ _ c.in_err-k.ensures))

pub returns : goal.returns
unfolding weighed_at
returns c =
    let i = weight-given _ _ _ _ _ c.in_ok-i.ensures in
    let j = weight-given _ _ _ _ _ c.in_ok-j.ensures in
    let k = weight-given _ _ _ _ _ c.in_ok-k.ensures in
    simp (i.0, j.0, k.0, i.1, j.1, k.1)
