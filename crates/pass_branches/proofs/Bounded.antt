-- Row 23 in the table's words: no boundary side is listed exactly if no side lies in exactly one triangle, where the corners of each triangle are
-- pairwise different. Assumes nothing.
use Prim.Native.Nat.{ℕ}
use native.Mathlib.Omega.{arith}
use mathlib.Core.Path.{◌≡◌, refl, sym, ap, ◌∙◌, subst}
use mathlib.Core.Logic.{◌≢◌, ◌⊎◌, inl, inr}
use mathlib.Core.Bool.{Bool, true, false, cond}
use mathlib.Core.List.{List, [], ◌∷◌}
use borrow.Author.Tests.{eq-eqb, ne_eqb, eqb-true}
use lib.Dec.{T, eqb}
use lib.ListN.{length}
use Rattle.mesh.specs.Mesh.{Side, side, Tri, tri, count, total, All, Same, Distinct}
use Rattle.mesh.proofs.Cuts.{same_key}
use Rattle.mesh.proofs.Weigh.{F, F-cases, around}
use Rattle.mesh.proofs.Whole.{count-around}
use Rattle.edges.specs.Sides.{times, listed}
use Rattle.edges.proofs.Counts.{listed-lies}
use Rattle.pass_boundary.specs.Boundary.{walked, once, kept, boundary_sides}

module _ (ts : List Tri) where
  -- a side's test is that of its ends, either way round
  alike : (u v a b : ℕ) → Same u v a b → once ts (side u v) ≡ once ts (side a b)
  unfolding once
  alike u v a b s = ap (λ (k : Side). eqb (times k (listed ts)) 1) (same_key u v a b s)

  next : (s : Side) (ss : List Side) → length (kept (once ts) (s ∷ ss)) ≡ 0 → (once ts s ≡ false) × (length (kept (once ts) ss) ≡ 0)
  unfolding kept
  next s ss h = go (once ts s) refl h
    where
      go : (b : Bool) → once ts s ≡ b → length (cond b (s ∷ kept (once ts) ss) (kept (once ts) ss)) ≡ 0 → (once ts s ≡ false) × (length (kept (once ts) ss) ≡ 0)
      go true e h = absurd (omega arith)
      go false e h = (e, h)

  -- where none is kept, no side of a triangle passes
  none_passes : (l : List Tri) → length (kept (once ts) (walked l)) ≡ 0 → (u v : ℕ) → u ≢ v → total (around (F u v)) l ≢ 0 → once ts (side u v) ≡ false
  unfolding walked
  none_passes [] h u v ne n = absurd (n refl)
  none_passes (tri a b c ∷ l) h u v ne n = go (F-cases u v a b ne) (F-cases u v b c ne) (F-cases u v c a ne) (λ k. none_passes l k u v ne)
    where
      ab : (once ts (side a b) ≡ false) × (length (kept (once ts) (side b c ∷ side c a ∷ walked l)) ≡ 0)
      ab = next (side a b) (side b c ∷ side c a ∷ walked l) h

      bc : (once ts (side b c) ≡ false) × (length (kept (once ts) (side c a ∷ walked l)) ≡ 0)
      bc = next (side b c) (side c a ∷ walked l) ab.1

      ca : (once ts (side c a) ≡ false) × (length (kept (once ts) (walked l)) ≡ 0)
      ca = next (side c a) (walked l) bc.1

      go : (F u v a b ≡ 0) ⊎ ((F u v a b ≡ 1) × Same u v a b) → (F u v b c ≡ 0) ⊎ ((F u v b c ≡ 1) × Same u v b c) → (F u v c a ≡ 0) ⊎ ((F u v c a ≡ 1) × Same u v c a)
          → (length (kept (once ts) (walked l)) ≡ 0 → total (around (F u v)) l ≢ 0 → once ts (side u v) ≡ false) → once ts (side u v) ≡ false
      go (inr s) q r rest = alike u v a b s.1 ∙ ab.0
      go (inl p) (inr s) r rest = alike u v b c s.1 ∙ bc.0
      go (inl p) (inl q) (inr s) rest = alike u v c a s.1 ∙ ca.0
      go (inl p) (inl q) (inl r) rest = rest ca.1 (λ z. n (omega (arith, p, q, r, z)))

  past : (s : Side) (ss : List Side) → once ts s ≡ false → length (kept (once ts) ss) ≡ 0 → length (kept (once ts) (s ∷ ss)) ≡ 0
  unfolding kept
  past s ss e h = rw e h

  -- and the other way round
  none_kept : ((u v : ℕ) → u ≢ v → once ts (side u v) ≡ false) → (l : List Tri) → All Distinct l → length (kept (once ts) (walked l)) ≡ 0
  unfolding walked kept
  none_kept n [] d = refl
  none_kept n (tri a b c ∷ l) d =
      past (side a b) (side b c ∷ side c a ∷ walked l) (n a b d.0.0)
      (past (side b c) (side c a ∷ walked l) (n b c d.0.1) (past (side c a) (walked l) (n c a d.0.2) (none_kept n l d.1)))

  module _ (distinct : All Distinct ts) where
    once_is : (u v : ℕ) → u ≢ v → once ts (side u v) ≡ eqb (count u v ts) 1
    unfolding once
    once_is u v ne = ap (λ (k : ℕ). eqb k 1) (listed-lies u v ne ts distinct)

    pub no-boundary : eqb (length (boundary_sides ts)) 0 ≡ true → (u v : ℕ) → u ≢ v → count u v ts ≢ 1
    unfolding boundary_sides
    no-boundary h u v ne e =
        let n : total (around (F u v)) ts ≢ 0 = λ z. absurd (omega (arith, z, e, count-around u v ne ts distinct)) in
        absurd (subst T (sym (once_is u v ne ∙ eq-eqb (count u v ts) 1 e) ∙ none_passes ts (eqb-true (length (kept (once ts) (walked ts))) 0 h) u v ne n) tt)

    pub boundary-none : ((u v : ℕ) → u ≢ v → count u v ts ≢ 1) → eqb (length (boundary_sides ts)) 0 ≡ true
    unfolding boundary_sides
    boundary-none n = eq-eqb (length (kept (once ts) (walked ts))) 0 (none_kept (λ u v ne. once_is u v ne ∙ ne_eqb (count u v ts) 1 (n u v ne)) ts distinct)
