-- Where the code is shorter than fdlibm: k = (iy - ix) >> 20 against 60 and -60, by a sum on one side. Assumes nothing.
use mathlib.Core.Path.{◌≡◌, refl}
use mathlib.Core.Bool.{Bool, true, false, cond, ◌&&◌}
use Prim.Native.Nat.{ℕ, suc, ◌+◌, ◌-◌, ◌/◌, ◌≤◌, ◌<◌}
use native.Mathlib.Omega.{arith}
use borrow.Author.Tests.{leb-false, le-leb, lt-leb, lt-ltb, le-ltb}
use lib.Dec.{leb}
use lib.IntN.{pos, negsuc}
use lib.Ieee.{minus}
use Rattle.arctangent.specs.Arc.{shifted, above60, below60}

module _ (iy ix : ℕ) where
  pub is-above : ix + 0x3d0_0000 ≤ iy → above60 (shifted (minus iy ix)) ≡ true
  is-above h = rw (le-leb ix iy (omega arith)) (lt-ltb 60 ((iy - ix) / 0x10_0000) (omega arith))

  pub not-above : iy < ix + 0x3d0_0000 → above60 (shifted (minus iy ix)) ≡ false
  not-above h = go (leb ix iy) refl
    where
      go : (b : Bool) → leb ix iy ≡ b → above60 (shifted (cond b (pos (iy - ix)) (negsuc (ix - suc iy)))) ≡ false
      go true e = le-ltb 60 ((iy - ix) / 0x10_0000) (omega arith)
      go false e = refl

  pub is_below : iy + 0x3c0_0000 < ix → below60 (shifted (minus iy ix)) ≡ true
  is_below h = rw (lt-leb ix iy (omega arith)) (lt-ltb 60 (suc ((ix - suc iy) / 0x10_0000)) (omega arith))

  pub not-below : ix ≤ iy + 0x3c0_0000 → below60 (shifted (minus iy ix)) ≡ false
  not-below h = go (leb ix iy) refl
    where
      go : (b : Bool) → leb ix iy ≡ b → below60 (shifted (cond b (pos (iy - ix)) (negsuc (ix - suc iy)))) ≡ false
      go true e = refl
      go false e = le-ltb 60 (suc ((ix - suc iy) / 0x10_0000)) (omega (arith, leb-false ix iy e))

pub and-false : (b : Bool) → b && false ≡ false
and-false true = refl
and-false false = refl
