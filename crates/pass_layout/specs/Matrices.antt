-- The matrices, the packed copy and the vectors of a pass with m edges, by where they stand. Definitions only.
use Rattle.std.specs.Prelude.{ℕ, ◌+◌, ◌*◌, ◌^◌, ◌<◌}
use Rattle.linear_hermitian.specs.declared.Hermitian.{Hermitian}
use Rattle.linear_packing.specs.declared.Packing.{Packing}
use Rattle.linear_packing.specs.declared.Source.{Source}
use Rattle.linear_conjugate_gradient.specs.declared.Vectors.{Vectors}
use Rattle.pass_layout.specs.declared.Layout.{Layout}

abbrev pub mass_at : Layout → ℕ → Hermitian
mass_at l m = record { size = l.points; edges = m; diagonal = l.mass; off = l.mass_off }

abbrev pub energy_at : Layout → ℕ → Hermitian
energy_at l m = record { size = l.points; edges = m; diagonal = l.energy; off = l.energy_off }

abbrev pub vectors_at : Layout → Vectors
vectors_at l = record { x = l.iterate; residual = l.residual; direction = l.direction; applied = l.applied; inverse = l.inverse }

-- the packed copy of a matrix (`packing_at`), and what it is made from (`source_at`). Its entries are in the f64 work; its marks are after the flags, and all else stands where the table of sides did
abbrev pub packing_at : Layout → ℕ → Packing
packing_at l m = record { size = l.points; slots = 2 * m; entries = l.packed; starts = l.table; neighbours = l.table + (l.points + 1); marks = l.marks }

abbrev pub source_at : Layout → ℕ → Source
source_at l m = record { edges = m; from = l.from; to = l.to; halves = l.table + (l.points + 1) + 2 * m }

-- no sum in these places overflows
pub record Countable (l : Layout) (m : ℕ) : Type 0 where
  pub table-low : l.table < 2 ^ 60
  pub few-points : l.points < 2 ^ 24
  pub few-edges : m < 2 ^ 26
