-- How often a number occurs among the numbers of a list of triangles is how often its side is listed, and, where the corners of each triangle are
-- different, in how many triangles that side lies. Assumes nothing.
use Prim.Native.Nat.{ℕ, zero, suc, ◌+◌, ◌*◌, ◌<◌}
use native.Mathlib.Omega.{arith}
use native.Mathlib.Decide.{ℕ_discrete}
use native.Mathlib.Numerals.{add-one}
use mathlib.Core.Path.{◌≡◌, refl, sym, ap, ◌∙◌}
use mathlib.Core.Logic.{◌≢◌, ◌⊎◌, inl, inr}
use mathlib.Core.Bool.{true, false}
use mathlib.Core.List.{List, [], ◌∷◌, ◌++◌}
use mathlib.Core.Option.{some}
use borrow.Author.Tests.{eq-eqb, ne_eqb}
use lib.Dec.{eqb}
use lib.ListN.{length, get_or}
use Rattle.mesh.specs.Mesh.{Side, side, key, same, Tri, tri, index_in, sides, one, total, count, Numbered, All, Same, Distinct}
use Rattle.mesh.proofs.Cuts.{key-same, same_key, same_cases, index-only}
use Rattle.mesh.proofs.Weigh.{F, F-cases, F-one, around}
use Rattle.mesh.proofs.Whole.{count-around}
use Rattle.edges.specs.Table.{lo_of, hi_of, sides_in, NumbersOf}
use Rattle.edges.specs.Numbering.{tri_from, tris_from, NumberedTo, occurs, EachCounted}
use Rattle.edges.specs.Sides.{times, listed}
use Rattle.edges.proofs.Tree.{length_pairs}

-- ---- listed sides

pub times-append : (s : Side) (l r : List Side) → times s (l ++ r) ≡ times s l + times s r
unfolding times
times-append s [] r = omega arith
times-append s (t ∷ l) r = omega (arith, times-append s l r)

pub listed-snoc : (ts : List Tri) (t : Tri) → listed (ts ++ (t ∷ [])) ≡ listed ts ++ sides t
unfolding listed
listed-snoc [] (tri a b c) = refl
listed-snoc (tri a b c ∷ ts) t = ap (λ (l : List Side). sides (tri a b c) ++ l) (listed-snoc ts t)

-- a number is a side's exactly if its side is that side
number-test : (l : List Side) → Numbered l → (s p : ℕ) → s < length l → (t : Side) → index_in t l ≡ some p → one (eqb s p) ≡ one (same (get_or l s (side 0 0)) t)
number-test l n s p h t e = go (ℕ_discrete s p) (same_cases (get_or l s (side 0 0)) t)
  where
    go : Dec (s ≡ p) → ((same (get_or l s (side 0 0)) t ≡ true) × (get_or l s (side 0 0) ≡ t)) ⊎ ((same (get_or l s (side 0 0)) t ≡ false) × (get_or l s (side 0 0) ≢ t)) → one (eqb s p) ≡ one (same (get_or l s (side 0 0)) t)
    go (yes z) (inl k) = rw (eq-eqb s p z, k.0)
    go (yes z) (inr k) = absurd (k.1 (index-only (get_or l s (side 0 0)) t l p (n s h ∙ ap some z) e))
    go (no z) (inl k) = let q : some s ≡ some p = sym (n s h) ∙ ap (λ (x : Side). index_in x l) k.1 ∙ e in absurd (z cc)
    go (no z) (inr k) = rw (ne_eqb s p z, k.0)

occurs-three : (s e : ℕ) (w : List ℕ) (i : ℕ) → occurs s e w (3 * (i + 1)) ≡ one (eqb s (get_or w (e + 3 * i + 2) 0)) + (one (eqb s (get_or w (e + 3 * i + 1) 0)) + (one (eqb s (get_or w (e + 3 * i) 0)) + occurs s e w (3 * i)))
unfolding occurs
occurs-three s e w i =
    let z : 3 * (i + 1) ≡ suc (suc (suc (3 * i))) = omega arith in
    let z₁ : e + suc (3 * i) ≡ e + 3 * i + 1 = omega arith in
    let z₂ : e + suc (suc (3 * i)) ≡ e + 3 * i + 2 = omega arith in
    rw (z, z₂, z₁)

tri-times : (l : List Side) → Numbered l → (s : ℕ) → s < length l → (x : Tri) (p q r : ℕ) → NumbersOf x l p q r
    → one (eqb s r) + (one (eqb s q) + one (eqb s p)) ≡ times (get_or l s (side 0 0)) (sides x)
unfolding times
tri-times l n s h (tri a b c) p q r e = omega (arith, number-test l n s p h (key a b) e.0, number-test l n s q h (key b c) e.1, number-test l n s r h (key c a) e.2)

-- the numbers of the first i triangles
counted-to : (c e : ℕ) (l : List Side) → Numbered l → (s : ℕ) → s < length l → (w w' : List ℕ) (i : ℕ)
    → ((k : ℕ) → k < i → NumbersOf (tri_from c w k) l (get_or w' (e + 3 * k) 0) (get_or w' (e + 3 * k + 1) 0) (get_or w' (e + 3 * k + 2) 0))
    → occurs s e w' (3 * i) ≡ times (get_or l s (side 0 0)) (listed (tris_from c w i))
unfolding occurs times listed tris_from
counted-to c e l n s h w w' zero each = refl
counted-to c e l n s h w w' (suc i) each =
    let here = tri-times l n s h (tri_from c w i) _ _ _ (each i (omega arith)) in
    let before = counted-to c e l n s h w w' i (λ k b. each k (omega arith)) in
    rw (listed-snoc (tris_from c w i) (tri_from c w i), times-append (get_or l s (side 0 0)) (listed (tris_from c w i)) (sides (tri_from c w i)), ← add-one i, occurs-three s e w' i) (omega (arith, here, before))

pub each-counted : {c e o N t : ℕ} {w w' : List ℕ} {m : ℕ} → NumberedTo c e o N t w w' m → EachCounted c e o N t w w' m
each-counted {c} {e} {o} {N} {t} {w} {w'} {m} n s h = counted-to c e (sides_in o N w' m) n.held.numbered s (omega (arith, length_pairs (lo_of o N w') (hi_of o N w') m)) w w' t n.numbers

-- ---- in how many triangles a side lies

side-weight : (u v a b : ℕ) → u ≢ v → one (same (key u v) (key a b)) ≡ F u v a b
side-weight u v a b ne = go (same_cases (key u v) (key a b)) (F-cases u v a b ne)
  where
    go : ((same (key u v) (key a b) ≡ true) × (key u v ≡ key a b)) ⊎ ((same (key u v) (key a b) ≡ false) × (key u v ≢ key a b)) → (F u v a b ≡ 0) ⊎ ((F u v a b ≡ 1) × Same u v a b) → one (same (key u v) (key a b)) ≡ F u v a b
    go (inl k) f = rw k.0 (sym (F-one u v a b ne (key-same u v a b k.1)))
    go (inr k) (inl f) = rw k.0 (sym f)
    go (inr k) (inr f) = absurd (k.1 (same_key u v a b f.1))

-- a side is listed as often as there are triangles in which it lies
pub listed-lies : (u v : ℕ) → u ≢ v → (ts : List Tri) → All Distinct ts → times (key u v) (listed ts) ≡ count u v ts
unfolding times listed
listed-lies u v ne ts d = weighed ts ∙ sym (count-around u v ne ts d)
  where
    weighed : (ts : List Tri) → times (key u v) (listed ts) ≡ total (around (F u v)) ts
    weighed [] = refl
    weighed (tri a b c ∷ ts) = omega (arith, side-weight u v a b ne, side-weight u v b c ne, side-weight u v c a ne, weighed ts)
