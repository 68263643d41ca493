-- What the probe's loop keeps: the search speaks of the triangles still to come (`found-`).
use mathlib.Core.Path.{◌≡◌, refl, sym, ap, ◌∙◌}
use Prim.Native.Nat.{ℕ, suc, ◌+◌, ◌-◌, ◌*◌, ◌/◌, ◌%◌, ◌^◌, ◌≤◌, ◌<◌}
use native.Mathlib.Numerals.{add-one}
use native.Mathlib.Omega.{arith}
use mathlib.Core.Bool.{Bool, true, false, not, ◌&&◌, ◌||◌}
use mathlib.Core.List.{List, [], ◌∷◌}
use lib.ListN.{length}
use Rattle.std.specs.List.{list_all}
use lib.Dec.{ltb, eqb}
use lib.Ieee.{Float, nan, inf, fin, up, down, lt, le, eq, neg, of_bits}
use Rattle.float.specs.Double.{mag}
use Rattle.float.proofs.Within.{and_both, le-or, below-zero}
use Rattle.std.specs.Prelude.{Option, Some, None, Result, Ok, Err}
use Rattle.probe.specs.declared.ProbeError.{ProbeError}
use Rattle.probe.specs.declared.ProbeError.TheVariants.{NoAngle}
use Rattle.probe.specs.Probe.{every, finite, small, taken, visit_at, decided, found_from, probe_of}
use Rattle.plane.specs.declared.Pair.{Pair}
use borrow.Author.Tests.{eq-eqb, ne_eqb, le-ltb, ltb-true, ltb-false}

-- a test of every angle is the library's
pub every-is : (p : Float → Bool) (xs : List Float) → list_all p xs ≡ every p xs
every-is p [] = refl
every-is p (x ∷ xs) = ap (p x &&◌) (every-is p xs)

module _ (v : ℕ → Result (Option Float) ProbeError) (n : ℕ) where
  pub found_none : found_from v 0 n ≡ found_from v 0 (n - 0)
  found_none = let e : n - 0 ≡ n = omega arith in rw e

  found-step : (t : ℕ) → t < n → found_from v t (n - t) ≡ decided (v t) (found_from v (t + 1) (n - (t + 1)))
  unfolding found_from
  found-step t h = let e : n - t ≡ suc (n - (t + 1)) = omega arith in rw (e, add-one t)

  pub found-more : (t : ℕ) → t < n → found_from v 0 n ≡ found_from v t (n - t) → v t ≡ Ok None → found_from v 0 n ≡ found_from v (t + 1) (n - (t + 1))
  found-more t h e f = e ∙ found-step t h ∙ rw f

  pub found-failed : (t : ℕ) (x : ProbeError) → t < n → found_from v 0 n ≡ found_from v t (n - t) → v t ≡ Err x → Err x ≡ found_from v 0 n
  found-failed t x h e f = sym (e ∙ found-step t h ∙ rw f)

  pub found_here : (t : ℕ) (a : Float) → t < n → found_from v 0 n ≡ found_from v t (n - t) → v t ≡ Ok (Some a) → Ok a ≡ found_from v 0 n
  found_here t a h e f = sym (e ∙ found-step t h ∙ rw f)

  pub found-done : (t : ℕ) → n ≤ t → found_from v 0 n ≡ found_from v t (n - t) → Err NoAngle ≡ found_from v 0 n
  unfolding found_from
  found-done t h e = let z : n - t ≡ 0 = omega arith in sym (e ∙ rw z)

-- ---- one test for two
pub below-is : (a b : ℕ) → ltb a b || (eqb a b && true) ≡ not (ltb b a)
below-is a b = go (ltb b a) refl
  where
    go : (t : Bool) → ltb b a ≡ t → ltb a b || (eqb a b && true) ≡ not t
    go true e = rw (le-ltb a b (omega (arith, ltb-true b a e)), ne_eqb a b (λ z. absurd (omega (arith, ltb-true b a e))))
    go false e = le-or a b (ltb-false b a e)

turned-is : (a b : ℕ) → ltb a b || (eqb b a && true) ≡ not (ltb b a)
turned-is a b = go (ltb b a) refl
  where
    go : (t : Bool) → ltb b a ≡ t → ltb a b || (eqb b a && true) ≡ not t
    go true e = rw (le-ltb a b (omega (arith, ltb-true b a e)), ne_eqb b a (λ z. absurd (omega (arith, ltb-true b a e))))
    go false e = sides (ltb a b) refl
      where
        sides : (u : Bool) → ltb a b ≡ u → u || (eqb b a && true) ≡ true
        sides true g = refl
        sides false g = rw (eq-eqb b a (omega (arith, ltb-false a b g, ltb-false b a e)))

taken_is : (x : Float) → taken x ≡ finite x && small x
unfolding le lt eq neg mag of_bits
taken_is nan = refl
taken_is (inf true) = refl
taken_is (inf false) = refl
taken_is (fin true m e) = rw (below-zero (m * up e * 1) (1 * 2 ^ 17 * down e)) (turned-is (m * up e * 1) (1 * 2 ^ 17 * down e))
taken_is (fin false m e) = rw (below-zero (1 * 2 ^ 17 * down e) (m * up e * 1)) (and-true (ltb (m * up e * 1) (1 * 2 ^ 17 * down e) || (eqb (m * up e * 1) (1 * 2 ^ 17 * down e) && true)) ∙ below-is (m * up e * 1) (1 * 2 ^ 17 * down e))
  where
    and-true : (a : Bool) → a && true ≡ a
    and-true true = refl
    and-true false = refl

both-and : (a b c d : Bool) → (a && b) && (c && d) ≡ (a && c) && (b && d)
both-and true true c d = refl
both-and true false true d = refl
both-and true false false d = refl
both-and false b c d = refl

pub every-taken : (xs : List Float) → every taken xs ≡ every finite xs && every small xs
every-taken [] = refl
every-taken (x ∷ xs) = rw (taken_is x, every-taken xs) (both-and (finite x) (small x) (every finite xs) (every small xs))

pub each-taken : (xs : List Float) → every taken xs ≡ true → (every finite xs ≡ true) × (every small xs ≡ true)
each-taken xs h = and_both (every finite xs) (every small xs) (sym (every-taken xs) ∙ h)

pub too_large : (xs : List Float) → every taken xs ≡ false → every finite xs ≡ true → every small xs ≡ false
too_large xs h f = second (every finite xs) (every small xs) f (sym (every-taken xs) ∙ h)
  where
    second : (a b : Bool) → a ≡ true → a && b ≡ false → b ≡ false
    second a b e g = ap (λ (t : Bool). t && b) (sym e) ∙ g

-- where every test passes, the answer is that of the search
pub probe-search : (alpha pts : List Float) (tris : List ℕ) (at : Pair) → length pts % 3 ≡ 0 → length tris % 3 ≡ 0 → length alpha ≡ length pts / 3 → every finite alpha ≡ true → every small alpha ≡ true → found_from (visit_at alpha pts tris at) 0 (length tris / 3) ≡ probe_of alpha pts tris at
unfolding probe_of
probe-search alpha pts tris at p t n f s = rw (eq-eqb (length pts % 3) 0 p, eq-eqb (length tris % 3) 0 t, eq-eqb (length alpha) (length pts / 3) n, f, s)
