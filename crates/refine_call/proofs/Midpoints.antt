-- The midpoints and sizes of a list with one more side, as runs of stores. Assumes nothing.
use Prim.Native.Nat.{ℕ, ◌+◌, ◌*◌}
use native.Mathlib.Omega.{arith}
use native.Mathlib.Numerals.{add-one}
use mathlib.Core.Path.{◌≡◌, refl, sym, ap, ◌∙◌}
use mathlib.Core.List.{List, [], ◌∷◌, ◌++◌, map-append}
use lib.ListN.{length, length-map, set}
use lib.Seq.{sets}
use lib.Ieee.{Float}
use Rattle.mesh.specs.Mesh.{Side, side}
use Rattle.mesh.specs.Points.{midpoint, midpoints, mid_size, mid_sizes}
use Rattle.mesh.proofs.Points.{mids-length}
use Rattle.edges.specs.Table.{pairs}
use Rattle.edges.specs.TwoSlices.{lo_at, hi_at, sides_at}
use Rattle.edges.proofs.Tree.{length_pairs}
use Rattle.slices.proofs.Runs.{sets-append}

-- ---- a run of numbers for each side, as midpoints and sizes are

sides-more : (e : List ℕ) (k : ℕ) → sides_at e (k + 1) ≡ sides_at e k ++ (side (lo_at e k) (hi_at e k) ∷ [])
unfolding pairs
sides-more e k = rw (add-one k)

-- h gives the run of a list of sides, and that of two lists is theirs, one behind the other
module _ (h : List Side → List Float) (append : (s t : List Side) → h (s ++ t) ≡ h s ++ h t) (e : List ℕ) where
  pub run-again : (out₀ : List Float) {out out' : List Float} (at k place : ℕ) → place ≡ at + length (h (sides_at e k)) → out ≡ sets out₀ at (h (sides_at e k))
      → out' ≡ sets out place (h (side (lo_at e k) (hi_at e k) ∷ [])) → out' ≡ sets out₀ at (h (sides_at e (k + 1)))
  run-again out₀ at k place i so_far s =
      let new = side (lo_at e k) (hi_at e k) ∷ [] in
      s ∙ rw (i, so_far) (sets-append out₀ at (h (sides_at e k)) (h new)) ∙ ap (sets out₀ at) (sym (append (sides_at e k) new) ∙ ap h (sym (sides-more e k)))

mids-append : (pts : List Float) (s t : List Side) → midpoints pts (s ++ t) ≡ midpoints pts s ++ midpoints pts t
unfolding midpoints
mids-append pts [] t = refl
mids-append pts (x ∷ s) t = ap (λ (l : List Float). midpoint pts x ++ l) (mids-append pts s t)

pub mids-none : (pts : List Float) (e : List ℕ) (out : List Float) (at : ℕ) → out ≡ sets out at (midpoints pts (sides_at e 0))
unfolding pairs midpoints
mids-none pts e out at = refl

pub mids-again : (pts : List Float) (e : List ℕ) (out₀ : List Float) {out out' : List Float} (at k : ℕ) → out ≡ sets out₀ at (midpoints pts (sides_at e k))
    → out' ≡ sets out (at + 3 * k) (midpoint pts (side (lo_at e k) (hi_at e k))) → out' ≡ sets out₀ at (midpoints pts (sides_at e (k + 1)))
unfolding midpoints
mids-again pts e out₀ at k = run-again (midpoints pts) (mids-append pts) e out₀ at k (at + 3 * k) (omega (arith, mids-length pts (sides_at e k), length_pairs (lo_at e) (hi_at e) k))

pub sizes-none : (zs : List Float) (e : List ℕ) (out : List Float) (at : ℕ) → out ≡ sets out at (mid_sizes zs (sides_at e 0))
unfolding pairs mid_sizes
sizes-none zs e out at = refl

pub sizes-again : (zs : List Float) (e : List ℕ) (out₀ : List Float) {out : List Float} (at k : ℕ) {x : Float} → out ≡ sets out₀ at (mid_sizes zs (sides_at e k))
    → x ≡ mid_size zs (side (lo_at e k) (hi_at e k)) → set out (at + k) x ≡ sets out₀ at (mid_sizes zs (sides_at e (k + 1)))
unfolding mid_sizes
sizes-again zs e out₀ {out} at k so_far z =
    run-again (mid_sizes zs) (map-append (mid_size zs)) e out₀ at k (at + k) (omega (arith, length-map (sides_at e k) (mid_size zs), length_pairs (lo_at e) (hi_at e) k)) so_far (ap (set out (at + k)) z)

-- the old numbers, and then those of the cut sides
pub more-done : (zs new out₀ : List Float) {out out' : List Float} (n : ℕ) → n ≡ length zs → out ≡ sets out₀ 0 zs → out' ≡ sets out n new → out' ≡ sets out₀ 0 (zs ++ new)
more-done zs new out₀ n z h s = let i : n ≡ 0 + length zs = omega arith in s ∙ rw (i, h) (sets-append out₀ 0 zs new)
