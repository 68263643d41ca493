-- What `multiply` requires of the work slices, and what it leaves and returns.
use Rattle.std.specs.Prelude.{ℕ, ◌+◌, ◌*◌, ◌≤◌, ◌≡◌, List, Float}
use Rattle.linear_cells.specs.Region.{Apart}
use Rattle.complex.specs.declared.Complex.{Complex}
use Rattle.linear_cells.specs.Cell.{put_c}
use Rattle.linear_hermitian.specs.declared.Hermitian.{Hermitian}
use Rattle.linear_hermitian.specs.Hermitian.{Matrix, dot_of, applied}
use Rattle.linear_packing.specs.declared.Packing.{Packing}
use Rattle.linear_packing.specs.Packed.{PackingRoom}

-- lengths and offsets: `omega (arith, apart)` proves this record
pub record ProductRoom (len words : ℕ) (h : Hermitian) (t : Packing) (x y : ℕ) : Type 0 where
  pub one_size : t.size ≡ h.size
  pub packing : PackingRoom len words t
  pub diagonal-in : h.diagonal + h.size ≤ len
  pub x-in : x + 2 * h.size ≤ len
  pub y-in : y + 2 * h.size ≤ len
  pub y-x : Apart y (2 * h.size) x (2 * h.size)
  pub y-diagonal : Apart y (2 * h.size) h.diagonal h.size
  pub y-entries : Apart y (2 * h.size) t.entries (2 * t.slots)

-- y is the matrix m times v, and the result the real part of the inner product of v and y
pub record Multiplies (w w' : List Float) (m : Matrix) (v : List Complex) (y : ℕ) (r : Float) : Type 0 where
  pub work : w' ≡ put_c w y (applied m v)
  pub dot : r ≡ (dot_of v (applied m v)).re
