-- What boundary_targets requires, from what crate edges leaves: the sides were numbered from triangles put counter-clockwise, and a triangle lists the
-- same sides either way round. Assumes nothing.
use Prim.Native.Nat.{ℕ, zero, suc, ◌+◌, ◌*◌, ◌≤◌, ◌<◌}
use native.Mathlib.Omega.{arith}
use native.Mathlib.Decide.{ℕ_discrete, dec_le}
use mathlib.Core.Path.{◌≡◌, refl, sym, ap, ap₂, ◌∙◌, subst}
use mathlib.Core.Logic.{◌⊎◌, inl, inr}
use mathlib.Core.List.{List}
use mathlib.Core.Option.{some}
use lib.ListN.{length, get_or}
use Rattle.mesh.specs.Mesh.{Side, side, key, Tri, tri, index_in, sides, is_none}
use Rattle.mesh.proofs.Cuts.{key-flip}
use Rattle.mesh.proofs.Theorem.{index_below}
use Rattle.edges.specs.Table.{lo_of, hi_of, NumbersOf}
use Rattle.edges.specs.Numbering.{tri_from, tris_from, NumberedTo, Below}
use Rattle.edges.specs.Sides.{times, listed}
use Rattle.edges.proofs.Tree.{length_pairs}
use Rattle.edges.proofs.Counts.{times-append, listed-snoc, each-counted}
use Rattle.pass_boundary.specs.declared.Listing.{Listing}
use Rattle.pass_boundary.specs.Work.{tris_in, table_of, In, AllIn, EitherWay, Sided, Numbers}
use Rattle.pass_boundary.proofs.Slices.{tris-same}

-- the second triangle is the first, or it with its second and third corners exchanged
abbrev pub exchanged : Tri → Tri
exchanged (tri a b c) = tri a c b

abbrev pub Alike : Tri → Tri → Type 0
Alike s t = (t ≡ s) ⊎ (t ≡ exchanged s)

-- ---- listed sides

times-alike : (s : Side) (x y : Tri) → Alike x y → times s (sides y) ≡ times s (sides x)
times-alike s x y (inl e) = ap (λ (t : Tri). times s (sides t)) e
times-alike s (tri a b c) y (inr e) = ap (λ (t : Tri). times s (sides t)) e ∙ swapped
  where
    swapped : times s (sides (tri a c b)) ≡ times s (sides (tri a b c))
    swapped = unfold times in rw (key-flip a c, key-flip c b, key-flip b a) (omega arith)

pub listed-alike : (s : Side) (c v : ℕ) (u : List ℕ) (i : ℕ) → ((k : ℕ) → k < i → Alike (tri_from c u k) (tri_from v u k)) → times s (listed (tris_from v u i)) ≡ times s (listed (tris_from c u i))
unfolding tris_from
listed-alike s c v u zero h = refl
listed-alike s c v u (suc i) h =
    rw (listed-snoc (tris_from v u i) (tri_from v u i), listed-snoc (tris_from c u i) (tri_from c u i), times-append s (listed (tris_from v u i)) (sides (tri_from v u i)), times-append s (listed (tris_from c u i)) (sides (tri_from c u i)))
    (ap₂ (λ (x y : ℕ). x + y) (listed-alike s c v u i (λ k l. h k (omega arith))) (times-alike s (tri_from c u i) (tri_from v u i) (h i (omega arith))))

-- ---- the sides of a triangle as given have numbers

in-of : (s : Side) (l : List Side) (k : ℕ) → index_in s l ≡ some k → In s l
in-of s l k e = ap is_none e

all_in : (x y : Tri) (l : List Side) (p q r : ℕ) → Alike x y → NumbersOf y l p q r → AllIn x l
all_in (tri a b c) y l p q r (inl e) n =
    let m : NumbersOf (tri a b c) l p q r = subst (λ (t : Tri). NumbersOf t l p q r) e n in
    (in-of (key a b) l p m.0, (in-of (key b c) l q m.1, in-of (key c a) l r m.2))
all_in (tri a b c) y l p q r (inr e) n =
    let m : NumbersOf (tri a c b) l p q r = subst (λ (t : Tri). NumbersOf t l p q r) e n in
    (in-of (key a b) l r (ap (λ (s : Side). index_in s l) (key-flip a b) ∙ m.2), (in-of (key b c) l q (ap (λ (s : Side). index_in s l) (key-flip b c) ∙ m.1), in-of (key c a) l p (ap (λ (s : Side). index_in s l) (key-flip c a) ∙ m.0)))

either-of : (x y : Tri) (l : List Side) (p q r : ℕ) → Alike x y → NumbersOf y l p q r → EitherWay x l p q r
either-of (tri a b c) y l p q r (inl e) n = inl (subst (λ (t : Tri). NumbersOf t l p q r) e n)
either-of (tri a b c) y l p q r (inr e) n = inr (subst (λ (t : Tri). NumbersOf t l p q r) e n)

-- ---- the numbers are below their count (belongs in crate edges)

low-number : (l : List Side) {m : ℕ} → length l ≡ m → (s : Side) (k : ℕ) → index_in s l ≡ some k → k < m
low-number l {m} e s k h = omega (arith, index_below s l k h)

below-to : (e m : ℕ) (l : List Side) → length l ≡ m → (w : List ℕ) (ts : ℕ → Tri) (i : ℕ) → ((k : ℕ) → k < i → NumbersOf (ts k) l (get_or w (e + 3 * k) 0) (get_or w (e + 3 * k + 1) 0) (get_or w (e + 3 * k + 2) 0)) → Below m e w (3 * i)
below-to e m l z w ts zero h = λ j g. absurd (omega arith)
below-to e m l z w ts (suc i) h = λ j g. go j g (ts i) (h i (omega arith)) (below-to e m l z w ts i (λ k b. h k (omega arith))) (dec_le (3 * i) j) (ℕ_discrete j (3 * i)) (ℕ_discrete j (3 * i + 1))
  where
    go : (j : ℕ) → j < 3 * suc i → (t : Tri) → NumbersOf t l (get_or w (e + 3 * i) 0) (get_or w (e + 3 * i + 1) 0) (get_or w (e + 3 * i + 2) 0) → Below m e w (3 * i) → Dec (3 * i ≤ j) → Dec (j ≡ 3 * i) → Dec (j ≡ 3 * i + 1) → get_or w (e + j) 0 < m
    go j g (tri a b c) n before (no p) q r = before j (omega arith)
    go j g (tri a b c) n before (yes p) (yes q) r = let f : e + 3 * i ≡ e + j = omega arith in subst (λ (k : ℕ). get_or w k 0 < m) f (low-number l z (key a b) (get_or w (e + 3 * i) 0) n.0)
    go j g (tri a b c) n before (yes p) (no q) (yes r) = let f : e + 3 * i + 1 ≡ e + j = omega arith in subst (λ (k : ℕ). get_or w k 0 < m) f (low-number l z (key b c) (get_or w (e + 3 * i + 1) 0) n.1)
    go j g (tri a b c) n before (yes p) (no q) (no r) = let f : e + 3 * i + 2 ≡ e + j = omega arith in subst (λ (k : ℕ). get_or w k 0 < m) f (low-number l z (key c a) (get_or w (e + 3 * i + 2) 0) n.2)

-- ---- all of it: v is where the triangles stand that were numbered, u the slice before that and u' after it

module _ (l : Listing) (n v : ℕ) (u u' : List ℕ) (given-in : l.corners + 3 * l.triangles ≤ l.numbers) (numbers-in : l.numbers + 3 * l.triangles ≤ l.table)
    (alike : (i : ℕ) → i < l.triangles → Alike (tri_from l.corners u i) (tri_from v u i)) (made : NumberedTo v l.numbers l.table l.buckets l.triangles u u' l.sides) where
  same-before : (j : ℕ) → j < l.numbers → get_or u' j 0 ≡ get_or u j 0
  same-before j h = made.elsewhere j (inl (omega arith)) (inl h)

  given-tris : tris_in l u' ≡ tris_in l u
  given-tris = tris-same l.corners l.triangles u u' (λ j h. same-before j (omega arith))

  given-tri : (i : ℕ) → i < l.triangles → tri_from l.corners u' i ≡ tri_from l.corners u i
  given-tri i h =
      let p = same-before (l.corners + 3 * i) (omega arith) in
      let q = same-before (l.corners + 3 * i + 1) (omega arith) in
      let r = same-before (l.corners + 3 * i + 2) (omega arith) in
      rw (p, q, r)

  pub numbered-sided : Below n l.corners u (3 * l.triangles) → Sided l n u'
  numbered-sided below = record {
    held = made.held;
    corners-below = λ j h. omega (arith, same-before (l.corners + j) (omega arith), below j h);
    all_in = λ i h. subst (λ (t : Tri). AllIn t (table_of l u')) (sym (given-tri i h)) (all_in (tri_from l.corners u i) (tri_from v u i) (table_of l u') _ _ _ (alike i h) (made.numbers i h));
    either_way = λ i h. subst
        (λ (t : Tri). EitherWay t (table_of l u') (get_or u' (l.numbers + 3 * i) 0) (get_or u' (l.numbers + 3 * i + 1) 0)
        (get_or u' (l.numbers + 3 * i + 2) 0))
        (sym (given-tri i h)) (either-of (tri_from l.corners u i) (tri_from v u i) (table_of l u') _ _ _ (alike i h) (made.numbers i h));
  }

  pub numbered-numbers : Numbers l u'
  numbered-numbers = record {
    numbers-below = below-to l.numbers l.sides (table_of l u') (length_pairs (lo_of l.table l.buckets u') (hi_of l.table l.buckets u') l.sides) u' (tri_from v u) l.triangles made.numbers;
    occur = λ k h. each-counted made k h ∙ listed-alike (get_or (table_of l u') k (side 0 0)) l.corners v u l.triangles alike ∙ ap (λ (ts : List Tri). times (get_or (table_of l u') k (side 0 0)) (listed ts)) (sym given-tris);
  }
