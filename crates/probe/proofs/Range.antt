-- An angle that the probe answers lies in [0, FRAC_PI_2): it is a cross angle, whichever triangle it came from. Assumes nothing.
use Prim.Native.Nat.{ℕ, zero, suc, ◌+◌, ◌*◌, ◌/◌, ◌%◌}
use mathlib.Core.Bool.{Bool, true, false, cond, ◌&&◌}
use mathlib.Core.List.{List}
use lib.Dec.{ltb, eqb}
use lib.ListN.{get_or, length}
use lib.Ieee.{Float, nan}
use Rattle.complex.specs.declared.Complex.{Complex}
use Rattle.complex.specs.Complex.{is_zero}
use Rattle.complex.specs.Angle.{IsCross, cross_angle}
use Rattle.complex.proofs.Range.{cross-angle-range}
use Rattle.plane.specs.declared.Pair.{Pair}
use Rattle.plane.specs.Pair.{orientation}
use Rattle.std.specs.Prelude.{Option, Some, None, Result, Ok, Err}
use Rattle.probe.specs.declared.Weights.{Weights}
use Rattle.probe.specs.declared.ProbeError.{ProbeError}
use Rattle.probe.specs.declared.ProbeError.TheVariants.{NotTriples, NoAngle, TooLarge}
use Rattle.probe.specs.Weights.{usable, weighed_at, interpolated, answered}
use Rattle.probe.specs.Probe.{every, finite, small, corner_at, told, visited, visit_of, visit_at, decided, found_from, probe_of, AngleRange}

-- what a triangle says
abbrev Cross : Result (Option Float) ProbeError → Type 0
Cross (Ok None) = Unit {0}
Cross (Ok (Some a)) = IsCross a
Cross (Err e) = Unit {0}

answered-cross : (z : Complex) → Cross (answered z)
unfolding answered
answered-cross z = go (is_zero z)
  where
    go : (b : Bool) → Cross (cond b (Err NoAngle) (Ok (Some (cross_angle z))))
    go true = tt
    go false = cross-angle-range z

told-cross : (w : Option Weights) (a b c : Float) → Cross (told w a b c)
told-cross (Some w) a b c = answered-cross (interpolated w a b c)
told-cross None a b c = tt

visited-cross : (at p q r : Pair) (a b c : Float) → Cross (visited at p q r a b c)
unfolding visited
visited-cross at p q r a b c = go (usable (orientation p q r))
  where
    go : (t : Bool) → Cross (cond t (told (weighed_at at p q r (orientation p q r)) a b c) (Ok None))
    go true = told-cross (weighed_at at p q r (orientation p q r)) a b c
    go false = tt

visit-cross : (alpha pts : List Float) (at : Pair) (i j k : ℕ) → Cross (visit_of alpha pts at i j k)
unfolding visit_of
visit-cross alpha pts at i j k = go (ltb i (length alpha) && ltb j (length alpha) && ltb k (length alpha))
  where
    go : (t : Bool) → Cross (cond t (visited at (corner_at pts i) (corner_at pts j) (corner_at pts k) (get_or alpha i nan) (get_or alpha j nan) (get_or alpha k nan)) (Ok None))
    go true = visited-cross at (corner_at pts i) (corner_at pts j) (corner_at pts k) (get_or alpha i nan) (get_or alpha j nan) (get_or alpha k nan)
    go false = tt

-- the search
decided-range : (v : Result (Option Float) ProbeError) (p : Result Float ProbeError) → Cross v → AngleRange p → AngleRange (decided v p)
decided-range (Ok None) p h g = g
decided-range (Ok (Some a)) p h g = h
decided-range (Err e) p h g = tt

found-range : (v : ℕ → Result (Option Float) ProbeError) → ((t : ℕ) → Cross (v t)) → (t k : ℕ) → AngleRange (found_from v t k)
unfolding found_from
found-range v h t zero = tt
found-range v h t (suc k) = decided-range (v t) (found_from v (suc t) k) (h t) (found-range v h (suc t) k)

pub probe-range : (alpha pts : List Float) (tris : List ℕ) (at : Pair) → AngleRange (probe_of alpha pts tris at)
unfolding probe_of
probe-range alpha pts tris at = go (eqb (length pts % 3) 0 && eqb (length tris % 3) 0) (eqb (length alpha) (length pts / 3) && every finite alpha) (every small alpha)
  where
    each : (t : ℕ) → Cross (visit_at alpha pts tris at t)
    each t = unfold visit_at in visit-cross alpha pts at (get_or tris (3 * t) 0) (get_or tris (3 * t + 1) 0) (get_or tris (3 * t + 2) 0)

    go : (a b c : Bool) → AngleRange (cond a (cond b (cond c (found_from (visit_at alpha pts tris at) 0 (length tris / 3)) (Err TooLarge)) (Err NoAngle)) (Err NotTriples))
    go true true true = found-range (visit_at alpha pts tris at) each 0 (length tris / 3)
    go true true false = tt
    go true false c = tt
    go false b c = tt
