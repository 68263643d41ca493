use mathlib.Core.Path.{◌≡◌}
use Prim.Native.Nat.{◌-◌}
use Rattle.probe.specs.Probe.{visit_at, found_from}
use Rattle.probe.proofs.search.Given as goal

abbrev pub invariant-loop-t : goal.invariant-loop-t
invariant-loop-t l =
    found_from (visit_at l.alpha l.points l.tris l.at) 0 l.triangles ≡ found_from (visit_at l.alpha l.points l.tris l.at) l.t (l.triangles - l.t)
