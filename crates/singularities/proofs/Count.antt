-- How the sign of a charge, as the program tests it, chooses the count; and what the loop over the triangles keeps.
use mathlib.Core.Path.{◌≡◌, refl, sym, subst, ◌∙◌}
use Prim.Native.Nat.{ℕ, zero, suc, ◌+◌, ◌≤◌}
use native.Mathlib.Numerals.{add-one}
use native.Mathlib.Omega.{arith}
use mathlib.Core.Bool.{true, false}
use borrow.Author.Tests.{ltb-true, ltb-false}
use mathlib.Core.List.{List}
use lib.Dec.{T}
use lib.Ieee.{Float}
use lib.IntN.{ℤ, pos, negsuc}
use lib.Signed.{lt_z}
use Rattle.singularities.specs.declared.Counts.{Counts}
use Rattle.singularities.specs.Count.{charge_at, counted, count_of}

pub above : (n : Counts) (z : ℤ) → lt_z (pos 0) z ≡ true → record { valence_3 = n.valence_3 + 1; valence_5 = n.valence_5 } ≡ counted n z
above n (pos zero) h = absurd (omega (arith, ltb-true 0 0 h))
above n (pos (suc k)) h = refl
above n (negsuc k) h = absurd (subst T (sym h) tt)

pub below : (n : Counts) (z : ℤ) → lt_z z (pos 0) ≡ true → record { valence_3 = n.valence_3; valence_5 = n.valence_5 + 1 } ≡ counted n z
below n (pos k) h = absurd (omega (arith, ltb-true k 0 h))
below n (negsuc k) h = refl

pub level : (n : Counts) (z : ℤ) → lt_z (pos 0) z ≡ false → lt_z z (pos 0) ≡ false → n ≡ counted n z
level n (pos zero) h g = refl
level n (pos (suc k)) h g = absurd (omega (arith, ltb-false 0 (suc k) h))
level n (negsuc k) h g = absurd (subst T g tt)

-- ---- the loop over triangles: what is counted after t of them, neither count above t
pub record Tallied (alpha : List Float) (tris : List ℕ) (n : Counts) (t : ℕ) : Type 0 where
  pub is : n ≡ count_of alpha tris t
  pub threes : n.valence_3 ≤ t
  pub fives : n.valence_5 ≤ t

pub tallied-none : (alpha : List Float) (tris : List ℕ) → Tallied alpha tris (record { valence_3 = 0; valence_5 = 0 }) 0
unfolding count_of
tallied-none alpha tris = record { is = refl; threes = omega arith; fives = omega arith }

counted-within : (n : Counts) (z : ℤ) (t : ℕ) → n.valence_3 ≤ t → n.valence_5 ≤ t → ((counted n z).valence_3 ≤ t + 1) × ((counted n z).valence_5 ≤ t + 1)
counted-within n (pos zero) t h g = (omega arith, omega arith)
counted-within n (pos (suc k)) t h g = (omega arith, omega arith)
counted-within n (negsuc k) t h g = (omega arith, omega arith)

pub tallied-more : {alpha : List Float} {tris : List ℕ} {n m : Counts} {t : ℕ} {z : ℤ} → Tallied alpha tris n t → z ≡ charge_at alpha tris t → m ≡ counted n z → Tallied alpha tris m (t + 1)
unfolding count_of
tallied-more {alpha} {tris} {n} {m} {t} {z} h e f =
    let w = counted-within n z t h.threes h.fives in
    record {
      is = f ∙ rw (e, h.is, add-one t);
      threes = subst (λ (c : Counts). c.valence_3 ≤ t + 1) (sym f) w.0;
      fives = subst (λ (c : Counts). c.valence_5 ≤ t + 1) (sym f) w.1;
    }
