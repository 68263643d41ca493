-- The edges of a list of good triangles: each has the lower end first, and both ends are points. Assumes nothing.
use Prim.Native.Nat.{ℕ, ◌<◌}
use native.Mathlib.Omega.{arith}
use mathlib.Core.Logic.{◌≢◌, ⊎_elim}
use mathlib.Core.List.{List, [], ◌∷◌}
use Rattle.mesh.specs.Mesh.{Tri, tri, Side, side, key, met, met_all, sides_after, Good, All}
use Rattle.mesh.proofs.Cuts.{key-either, met-new, met-old, Found, found, missing, find}
use Rattle.mesh.proofs.Whole.{All-append}

abbrev pub Keyed : ℕ → Side → Type 0
Keyed n (side a b) = (a < b) × (b < n)

key-keyed : (n u v : ℕ) → u ≢ v → u < n → v < n → Keyed n (key u v)
key-keyed n u v ne hu hv = ⊎_elim (λ p. rw p.0 (p.1, hv)) (λ p. rw p.0 (omega (arith, p.1), hu)) (key-either u v)

met-keyed : (n : ℕ) (l : List Side) (s : Side) → All (Keyed n) l → Keyed n s → All (Keyed n) (met l s)
met-keyed n l s h k = go (find s l)
  where
    go : Found s l → All (Keyed n) (met l s)
    go (found j f) = rw (met-old l s j f) h
    go (missing f) = rw (met-new l s f) (All-append (Keyed n) l (s ∷ []) h (k, tt))

pub cuts-keyed : (n : ℕ) (l : List Side) (ts : List Tri) → All (Keyed n) l → All (Good n) ts → All (Keyed n) (sides_after l ts)
unfolding sides_after met_all
cuts-keyed n l [] h g = h
cuts-keyed n l (tri a b c ∷ ts) h g =
    cuts-keyed n (met (met (met l (key a b)) (key b c)) (key c a)) ts
    (met-keyed n _ (key c a)
    (met-keyed n _ (key b c) (met-keyed n l (key a b) h (key-keyed n a b g.0.3 g.0.0 g.0.1)) (key-keyed n b c g.0.4 g.0.1 g.0.2))
    (key-keyed n c a g.0.5 g.0.2 g.0.0))
    g.1
