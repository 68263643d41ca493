-- Rows that hold a small floor: counts first, then the answer, the angles, the points and the corners, each at its own place. Definitions only.
use Rattle.std.specs.Prelude.{ℕ, Bool, false, cond, List, eqb, Float, Result, Ok, Err}
use Rattle.probe.specs.declared.ProbeError.{ProbeError}
use Rattle.probe.specs.Probe.{probe_of, error_number}
use Rattle.singularities.specs.declared.Counts.{Counts}
use Rattle.singularities.specs.declared.NotTriples.{NotTriples}
use Rattle.singularities.specs.Count.{singularities}
use Rattle.replay.specs.Words.{word_at}
use Rattle.replay.specs.Rows.{double_at, doubles_at, corners_at, front, same_as}

-- 1 not of whole triples, 2 no angle, 3 too large, or 4 and the angle
abbrev pub same_probe : List ℕ → Result Float ProbeError → Bool
same_probe row (Err e) = eqb (word_at row 5) (error_number e)
same_probe row (Ok a) = cond (eqb (word_at row 5) 4) (same_as a (double_at row 6)) false

-- the counts of angles, point numbers and corners, the question point; what is found
abbrev pub probe_on : List ℕ → List Float → List Float → List ℕ → Bool
probe_on row alpha points tris = same_probe row (probe_of (front row 0 alpha) (front row 1 points) (front row 2 tris) (record { x = double_at row 3; y = double_at row 4 }))

-- at 7 the angles, at 15 the points, at 39 the corners
abbrev pub probe_row : List ℕ → Bool
probe_row row = probe_on row (doubles_at row 7 8) (doubles_at row 15 24) (corners_at row 39 18)

-- 0 and the two counts, or 1
abbrev pub same_singular : List ℕ → Result Counts NotTriples → Bool
same_singular row (Ok c) = cond (eqb (word_at row 2) 0) (cond (eqb c.valence_3 (word_at row 3)) (eqb c.valence_5 (word_at row 4)) false) false
same_singular row (Err e) = eqb (word_at row 2) 1

-- the counts of angles and corners; what is found
abbrev pub singular_on : List ℕ → List Float → List ℕ → Bool
singular_on row alpha tris = same_singular row (singularities (front row 0 alpha) (front row 1 tris))

-- at 5 the angles, at 13 the corners
abbrev pub singular_row : List ℕ → Bool
singular_row row = singular_on row (doubles_at row 5 8) (corners_at row 13 18)
