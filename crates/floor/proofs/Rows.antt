-- What row 1 leaves of a call that passed it: whole triples, and few of them. Assumes nothing.
use Prim.Native.Nat.{ℕ, ◌*◌, ◌/◌, ◌%◌, ◌≤◌}
use native.Mathlib.Nat.{div-add-mod'}
use native.Mathlib.Omega.{arith}
use mathlib.Core.Path.{◌≡◌, refl}
use mathlib.Core.Bool.{Bool, true, false, ◌||◌}
use borrow.Author.Tests.{eqb-true, leb-true}
use lib.Dec.{eqb, leb}
use Rattle.float.proofs.Within.{and_both}
use Rattle.floor.specs.Checks.{MOST-POINTS, MOST-TRIANGLES, well_formed}

pub or-none : (a b : Bool) → (a || b) ≡ false → (a ≡ false) × (b ≡ false)
or-none false b e = (refl, e)
or-none true b e = let z : ◌≡◌ {A = ℕ} 0 1 = cc in absurd (omega arith)

triples : (p : ℕ) → p % 3 ≡ 0 → p ≡ 3 * (p / 3)
triples p e = omega (arith, div-add-mod' p 3, e)

-- the lengths p of a point slice and q of a triangle slice
pub record Whole (p q : ℕ) : Type 0 where
  pub points : p ≡ 3 * (p / 3)
  pub corners : q ≡ 3 * (q / 3)
  pub few : (p / 3 ≤ MOST-POINTS) × (q / 3 ≤ MOST-TRIANGLES)

pub whole-slices : (p q : ℕ) → well_formed p q ≡ true → Whole p q
unfolding well_formed
whole-slices p q e =
    let a = and_both (eqb (p % 3) 0) _ e in
    let b = and_both (eqb (q % 3) 0) _ a.1 in
    let d = and_both (leb (p / 3) MOST-POINTS) _ b.1 in
    record {
      points = triples p (eqb-true (p % 3) 0 a.0);
      corners = triples q (eqb-true (q % 3) 0 b.0);
      few = (leb-true (p / 3) MOST-POINTS d.0, leb-true (q / 3) MOST-TRIANGLES d.1);
    }
