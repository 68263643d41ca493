-- Numbering a whole list of triangles: what one more triangle adds, and how often each number occurs. A table is the same where its cells are the same,
-- and a side's number stays as more sides are met. Assumes nothing.
use Prim.Native.Nat.{ℕ, zero, suc, ◌+◌, ◌*◌, ◌^◌, ◌≤◌, ◌<◌}
use native.Mathlib.Omega.{arith}
use native.Mathlib.Decide.{ℕ_discrete}
use native.Mathlib.Numerals.{add-one}
use mathlib.Core.Path.{◌≡◌, refl, sym, ap, ap₂, ◌∙◌, subst}
use mathlib.Core.Logic.{◌⊎◌, inl, inr, ⊎_elim}
use mathlib.Core.List.{List, [], ◌∷◌, ◌++◌}
use mathlib.Core.Option.{some}
use borrow.Author.Tests.{eq-eqb, ne_eqb}
use lib.Dec.{eqb}
use lib.ListN.{length, length-append, get_or, get_or-append, set, length-set, replicate, length-replicate}
use lib.Seq.{get_or_at, get_or-set_same, get_or-set_other, sets, length-sets}
use Rattle.mesh.specs.Mesh.{Side, side, key, Tri, tri, index_in, met, met_all, sides, sides_after, one}
use Rattle.mesh.proofs.Theorem.{index_below}
use Rattle.slices.proofs.Runs.{sets-before, sets_behind}
use Rattle.edges.specs.Table.{pairs, lo_of, hi_of, sides_in, Held, MetTri, NumbersOf}
use Rattle.edges.specs.Numbering.{tri_from, tris_from, NumberingRoom, NumberStep, NumberedTo, occurs, Below, Counted}
use Rattle.edges.proofs.Tree.{length_pairs, trees-same, met-keeps}
use Rattle.edges.proofs.Stored.{zeros-at, slot-below, spot_in}

-- ---- a table in another slice with the same cells

pairs-same : (lo hi lo' hi' : ℕ → ℕ) (m : ℕ) → ((k : ℕ) → k < m → lo' k ≡ lo k) → ((k : ℕ) → k < m → hi' k ≡ hi k) → pairs lo' hi' m ≡ pairs lo hi m
unfolding pairs
pairs-same lo hi lo' hi' zero p q = refl
pairs-same lo hi lo' hi' (suc k) p q =
    ap₂ (λ (l : List Side) (s : Side). l ++ (s ∷ [])) (pairs-same lo hi lo' hi' k (λ j h. p j (omega arith)) (λ j h. q j (omega arith))) (ap₂ side (p k (omega arith)) (q k (omega arith)))

module _ (o N : ℕ) (w w' : List ℕ) (m : ℕ) (same : (j : ℕ) → o ≤ j → j < o + N + 4 * m → get_or w' j 0 ≡ get_or w j 0) where
  los : (k : ℕ) → k < m → lo_of o N w' k ≡ lo_of o N w k
  los k h = same (o + N + 4 * k) (omega arith) (omega arith)

  his : (k : ℕ) → k < m → hi_of o N w' k ≡ hi_of o N w k
  his k h = same (o + N + 4 * k + 1) (omega arith) (omega arith)

  pub sides-same : sides_in o N w' m ≡ sides_in o N w m
  sides-same = pairs-same (lo_of o N w) (hi_of o N w) (lo_of o N w') (hi_of o N w') m los his

  pub held_same : length w' ≡ length w → Held o N w m → Held o N w' m
  held_same len t = record {
    buckets = t.buckets;
    narrow = t.narrow;
    room = omega (arith, t.room);
    trees = trees-same los his (λ q s. same q (spot_in s).0 (spot_in s).1) (λ k l. slot-below N _ _ t.buckets) t.trees;
    numbered = rw sides-same t.numbered;
  }

-- ---- three numbers in a row

module _ (l : List ℕ) (i p q r : ℕ) where
  pub three-length : length (sets l i (p ∷ q ∷ r ∷ [])) ≡ length l
  three-length = length-sets l i (p ∷ q ∷ r ∷ [])

  pub three-else : (j : ℕ) → (j < i) ⊎ (i + 3 ≤ j) → get_or (sets l i (p ∷ q ∷ r ∷ [])) j 0 ≡ get_or l j 0
  three-else j h = ⊎_elim (λ b. sets-before l i (p ∷ q ∷ r ∷ []) j 0 b) (λ b. sets_behind l i (p ∷ q ∷ r ∷ []) j 0 b) h

  pub three-first : i + 3 ≤ length l → get_or (sets l i (p ∷ q ∷ r ∷ [])) i 0 ≡ p
  three-first h = get_or-set_other (set (set l i p) (suc i) q) (suc (suc i)) i r 0 (omega arith) ∙ get_or-set_other (set l i p) (suc i) i q 0 (omega arith) ∙ get_or-set_same l i p 0 (omega arith)

  pub three-second : i + 3 ≤ length l → get_or (sets l i (p ∷ q ∷ r ∷ [])) (i + 1) 0 ≡ q
  three-second h = rw (add-one i) (get_or-set_other (set (set l i p) (suc i) q) (suc (suc i)) (suc i) r 0 (omega arith) ∙ get_or-set_same (set l i p) (suc i) q 0 (omega (arith, length-set l i p)))

  pub three_third : i + 3 ≤ length l → get_or (sets l i (p ∷ q ∷ r ∷ [])) (i + 2) 0 ≡ r
  three_third h = let e : i + 2 ≡ suc (suc i) = omega arith in rw e (get_or-set_same (set (set l i p) (suc i) q) (suc (suc i)) r 0 (omega (arith, length-set (set l i p) (suc i) q, length-set l i p)))

-- ---- a triangle is looked at

-- the numbers of a triangle's sides are below their count
numbers-below : {o N : ℕ} {w w' : List ℕ} {m m' p q r a b c : ℕ} → MetTri o N w m w' m' p q r (tri a b c) → (p < m') × (q < m') × (r < m')
numbers-below {o} {N} {w} {w'} {m} {m'} t = (low _ _ t.numbers.0, low _ _ t.numbers.1, low _ _ t.numbers.2)
  where
    low : (s : Side) (p : ℕ) → index_in s (sides_in o N w' m') ≡ some p → p < m'
    low s p h = omega (arith, index_below s (sides_in o N w' m') p h, length_pairs (lo_of o N w') (hi_of o N w') m')

-- and fit 32 bits
pub numbers_fit : {c e o N t i len : ℕ} {w w' : List ℕ} {m m' p q r x y z : ℕ} → NumberingRoom c e o N t len → (i < t) × (m ≤ 3 * i) → MetTri o N w m w' m' p q r (tri x y z) → (p < 2 ^ 32) × (q < 2 ^ 32) × (r < 2 ^ 32)
numbers_fit room few met =
    let b = numbers-below met in
    (omega (arith, b.0, met.more, room.narrow, few.0, few.1), omega (arith, b.1, met.more, room.narrow, few.0, few.1), omega (arith, b.2, met.more, room.narrow, few.0, few.1))

pub step_of : {c e o N t i : ℕ} {w w₁ w' : List ℕ} {m m' p q r : ℕ} → NumberingRoom c e o N t (length w) → i < t → m ≤ 3 * i → MetTri o N w m w₁ m' p q r (tri_from c w i) → w' ≡ sets w₁ (e + 3 * i) (p ∷ q ∷ r ∷ [])
    → NumberStep c e o N i w m w' m'
step_of {c} {e} {o} {N} {t} {i} {w} {w₁} {w'} {m} {m'} {p} {q} {r} plan it few met z =
    let a = e + 3 * i in
    let room : a + 3 ≤ length w₁ = omega (arith, plan.numbers, plan.table, met.outside.same) in
    let same : (j : ℕ) → (j < a) ⊎ (a + 3 ≤ j) → get_or w' j 0 ≡ get_or w₁ j 0 = λ j h. ap (λ (l : List ℕ). get_or l j 0) z ∙ three-else w₁ a p q r j h in
    let cells : (j : ℕ) → o ≤ j → j < o + N + 4 * m' → get_or w' j 0 ≡ get_or w₁ j 0 = λ j h g. same j (inr (omega (arith, plan.numbers))) in
    let len : length w' ≡ length w₁ = ap length z ∙ three-length w₁ a p q r in
    let listed : sides_in o N w' m' ≡ sides_in o N w₁ m' = sides-same o N w₁ w' m' cells in
    record {
      held = held_same o N w₁ w' m' cells len met.held;
      now-met = listed ∙ met.now-met;
      numbers = rw (listed, ap (λ (l : List ℕ). get_or l a 0) z ∙ three-first w₁ a p q r room, ap (λ (l : List ℕ). get_or l (a + 1) 0) z ∙ three-second w₁ a p q r room, ap (λ (l : List ℕ). get_or l (a + 2) 0) z ∙ three_third w₁ a p q r room) met.numbers;
      more = met.more;
      most = met.most;
      same_length = len ∙ met.outside.same;
      elsewhere = λ j h g. same j g ∙ ⊎_elim (λ b. met.outside.before j b) (λ b. met.outside.behind j b) h;
    }

-- ---- all the triangles

-- a number stays as the sides of more triangles are met
keeps : (l ss : List Side) (s : Side) (k : ℕ) → index_in s l ≡ some k → index_in s (met_all l ss) ≡ some k
unfolding met_all
keeps l [] s k h = h
keeps l (x ∷ ss) s k h = keeps (met l x) ss s k (met-keeps l s x k h)

after-snoc : (l : List Side) (ts : List Tri) (t : Tri) → sides_after l (ts ++ (t ∷ [])) ≡ met_all (sides_after l ts) (sides t)
unfolding sides_after
after-snoc l [] t = refl
after-snoc l (x ∷ ts) t = after-snoc (met_all l (sides x)) ts t

-- the corners of the first i triangles are the same in both slices
pub tris-same : (c i : ℕ) (w w' : List ℕ) → ((j : ℕ) → j < c + 3 * i → get_or w' j 0 ≡ get_or w j 0) → tris_from c w' i ≡ tris_from c w i
unfolding tris_from
tris-same c zero w w' h = refl
tris-same c (suc i) w w' h = rw (tris-same c i w w' (λ j g. h j (omega arith)), h (c + 3 * i) (omega arith), h (c + 3 * i + 1) (omega arith), h (c + 3 * i + 2) (omega arith))

pub length-tris : (c : ℕ) (w : List ℕ) (t : ℕ) → length (tris_from c w t) ≡ t
unfolding tris_from
length-tris c w zero = refl
length-tris c w (suc t) = length-append (tris_from c w t) (tri_from c w t ∷ []) ∙ omega (arith, length-tris c w t)

pub tri-at : (c : ℕ) (w : List ℕ) (t i : ℕ) (d : Tri) → i < t → get_or (tris_from c w t) i d ≡ tri_from c w i
unfolding tris_from
tri-at c w zero i d h = absurd (omega arith)
tri-at c w (suc t) i d h = go (ℕ_discrete i t) (λ l. tri-at c w t i d l)
  where
    go : Dec (i ≡ t) → (i < t → get_or (tris_from c w t) i d ≡ tri_from c w i) → get_or (tris_from c w t ++ (tri_from c w t ∷ [])) i d ≡ tri_from c w i
    go (yes e) old = rw e (get_or_at (tris_from c w t) (tri_from c w t) [] d t (length-tris c w t))
    go (no e) old = get_or-append (tris_from c w t) (tri_from c w t ∷ []) d i (omega (arith, length-tris c w t)) ∙ old (omega arith)

pub numbered-none : (c e o N : ℕ) (w : List ℕ) → Held o N w 0 → NumberedTo c e o N 0 w w 0
unfolding pairs tris_from sides_after
numbered-none c e o N w h = record {
  held = h;
  all-met = refl;
  numbers = λ i b. absurd (omega arith);
  few = omega arith;
  same_length = refl;
  elsewhere = λ j p q. refl;
}

pub numbered_more : {c e o N t i : ℕ} {w₀ w w' : List ℕ} {m m' : ℕ} → NumberingRoom c e o N t (length w₀) → i < t → NumberedTo c e o N i w₀ w m → NumberStep c e o N i w m w' m' → NumberedTo c e o N (i + 1) w₀ w' m'
unfolding tris_from
numbered_more {c} {e} {o} {N} {t} {i} {w₀} {w} {w'} {m} {m'} plan it n s =
    let met : sides_in o N w' m' ≡ met_all (sides_in o N w m) (sides (tri_from c w₀ i)) = s.now-met ∙ ap (λ (x : Tri). met_all (sides_in o N w m) (sides x)) here in
    record {
      held = s.held;
      all-met = met ∙ ap (λ (l : List Side). met_all l (sides (tri_from c w₀ i))) n.all-met ∙ sym (rw (add-one i) (after-snoc [] (tris_from c w₀ i) (tri_from c w₀ i)));
      numbers = λ k h. old k h (ℕ_discrete k i);
      few = omega (arith, n.few, s.more);
      same_length = s.same_length ∙ n.same_length;
      elsewhere = λ j p q. s.elsewhere j p (⊎_elim (λ b. inl (omega arith)) (λ b. inr (omega arith)) q) ∙ n.elsewhere j (⊎_elim (λ b. inl b) (λ b. inr (omega (arith, s.most))) p) (⊎_elim (λ b. inl b) (λ b. inr (omega arith)) q);
    }
  where
    corner : (j : ℕ) → j < c + 3 * t → get_or w j 0 ≡ get_or w₀ j 0
    corner j h = n.elsewhere j (inl (omega (arith, plan.corners, plan.numbers))) (inl (omega (arith, plan.corners)))

    here : tri_from c w i ≡ tri_from c w₀ i
    here = rw (corner (c + 3 * i) (omega arith), corner (c + 3 * i + 1) (omega arith), corner (c + 3 * i + 2) (omega arith))

    cell : (j : ℕ) → j < e + 3 * i → j < o → get_or w' j 0 ≡ get_or w j 0
    cell j h g = s.elsewhere j (inl g) (inl h)

    stays : (x : Side) (p : ℕ) → index_in x (sides_in o N w m) ≡ some p → index_in x (sides_in o N w' m') ≡ some p
    stays x p h = rw s.now-met (keeps (sides_in o N w m) (sides (tri_from c w i)) x p h)

    old : (k : ℕ) → k < i + 1 → Dec (k ≡ i) → NumbersOf (tri_from c w₀ k) (sides_in o N w' m') (get_or w' (e + 3 * k) 0) (get_or w' (e + 3 * k + 1) 0) (get_or w' (e + 3 * k + 2) 0)
    old k h (yes z) = rw z (subst (λ (x : Tri). NumbersOf x (sides_in o N w' m') (get_or w' (e + 3 * i) 0) (get_or w' (e + 3 * i + 1) 0) (get_or w' (e + 3 * i + 2) 0)) here s.numbers)
    old k h (no z) =
        let b : k < i = omega arith in
        let x = n.numbers k b in (
          stays _ _ x.0 ∙ ap some (sym (cell (e + 3 * k) (omega arith) (omega (arith, plan.numbers)))),
          stays _ _ x.1 ∙ ap some (sym (cell (e + 3 * k + 1) (omega arith) (omega (arith, plan.numbers)))),
          stays _ _ x.2 ∙ ap some (sym (cell (e + 3 * k + 2) (omega arith) (omega (arith, plan.numbers)))),
        )

-- from the slice as it was before its table was cleared
pub numbered-cleared : {c e o N t : ℕ} {w w₁ w' : List ℕ} {m : ℕ} → NumberingRoom c e o N t (length w) → w₁ ≡ sets w o (replicate N 0) → NumberedTo c e o N t w₁ w' m → NumberedTo c e o N t w w' m
numbered-cleared {c} {e} {o} {N} {t} {w} {w₁} {w'} {m} plan z n = record {
  held = n.held;
  all-met = n.all-met ∙ ap (sides_after []) (tris-same c t w w₁ (λ j h. before j (omega (arith, plan.corners, plan.numbers))));
  numbers = λ i h. subst (λ (x : Tri). NumbersOf x (sides_in o N w' m) (get_or w' (e + 3 * i) 0) (get_or w' (e + 3 * i + 1) 0) (get_or w' (e + 3 * i + 2) 0)) (tri-same i h) (n.numbers i h);
  few = n.few;
  same_length = n.same_length ∙ ap length z ∙ length-sets w o (replicate N 0);
  elsewhere = λ j p q. n.elsewhere j p q ∙ ap (λ (l : List ℕ). get_or l j 0) z ∙ ⊎_elim (λ b. sets-before w o (replicate N 0) j 0 b) (λ b. sets_behind w o (replicate N 0) j 0 (omega (arith, length-replicate {A = ℕ} N 0))) p;
}
  where
    before : (j : ℕ) → j < o → get_or w₁ j 0 ≡ get_or w j 0
    before j h = ap (λ (l : List ℕ). get_or l j 0) z ∙ sets-before w o (replicate N 0) j 0 h

    tri-same : (i : ℕ) → i < t → tri_from c w₁ i ≡ tri_from c w i
    tri-same i h =
        let p = before (c + 3 * i) (omega (arith, plan.corners, plan.numbers)) in
        let q = before (c + 3 * i + 1) (omega (arith, plan.corners, plan.numbers)) in
        let r = before (c + 3 * i + 2) (omega (arith, plan.corners, plan.numbers)) in
        rw (p, q, r)

-- the numbers are below their count
below-to : (e m : ℕ) (l : List Side) → length l ≡ m → (w : List ℕ) (ts : ℕ → Tri) (i : ℕ)
    → ((k : ℕ) → k < i → NumbersOf (ts k) l (get_or w (e + 3 * k) 0) (get_or w (e + 3 * k + 1) 0) (get_or w (e + 3 * k + 2) 0)) → Below m e w (3 * i)
below-to e m l z w ts zero h = λ j g. absurd (omega arith)
below-to e m l z w ts (suc i) h = λ j g. go j g (ts i) (h i (omega arith)) (below-to e m l z w ts i (λ k b. h k (omega arith))) (ℕ_discrete j (3 * i)) (ℕ_discrete j (3 * i + 1)) (ℕ_discrete j (3 * i + 2))
  where
    low : (s : Side) (k : ℕ) → index_in s l ≡ some k → k < m
    low s k h = omega (arith, index_below s l k h)

    go : (j : ℕ) → j < 3 * suc i → (t : Tri) → NumbersOf t l (get_or w (e + 3 * i) 0) (get_or w (e + 3 * i + 1) 0) (get_or w (e + 3 * i + 2) 0) → Below m e w (3 * i)
        → Dec (j ≡ 3 * i) → Dec (j ≡ 3 * i + 1) → Dec (j ≡ 3 * i + 2) → get_or w (e + j) 0 < m
    go j g (tri a b c) n before (yes q) r s = let f : e + 3 * i ≡ e + j = omega arith in subst (λ (k : ℕ). get_or w k 0 < m) f (low (key a b) (get_or w (e + 3 * i) 0) n.0)
    go j g (tri a b c) n before (no q) (yes r) s = let f : e + 3 * i + 1 ≡ e + j = omega arith in subst (λ (k : ℕ). get_or w k 0 < m) f (low (key b c) (get_or w (e + 3 * i + 1) 0) n.1)
    go j g (tri a b c) n before (no q) (no r) (yes s) = let f : e + 3 * i + 2 ≡ e + j = omega arith in subst (λ (k : ℕ). get_or w k 0 < m) f (low (key c a) (get_or w (e + 3 * i + 2) 0) n.2)
    go j g (tri a b c) n before (no q) (no r) (no s) = before j (omega arith)

-- ---- how often each number occurs

occurs-same : (s e : ℕ) (w w' : List ℕ) (k : ℕ) → ((j : ℕ) → j < k → get_or w' (e + j) 0 ≡ get_or w (e + j) 0) → occurs s e w' k ≡ occurs s e w k
unfolding occurs
occurs-same s e w w' zero h = refl
occurs-same s e w w' (suc k) h = rw (h k (omega arith), occurs-same s e w w' k (λ j g. h j (omega arith)))

occurs-most : (s e : ℕ) (w : List ℕ) (k : ℕ) → occurs s e w k ≤ k
unfolding occurs
occurs-most s e w zero = omega arith
occurs-most s e w (suc k) = go (occurs-most s e w k) (ℕ_discrete s (get_or w (e + k) 0))
  where
    go : occurs s e w k ≤ k → Dec (s ≡ get_or w (e + k) 0) → one (eqb s (get_or w (e + k) 0)) + occurs s e w k ≤ suc k
    go h (yes z) = rw (eq-eqb s (get_or w (e + k) 0) z) (omega arith)
    go h (no z) = rw (ne_eqb s (get_or w (e + k) 0) z) (omega arith)

-- over zeros, nothing is counted yet
pub counted_none : (e a m : ℕ) (w : List ℕ) {w₁ : List ℕ} → a + m ≤ length w → w₁ ≡ sets w a (replicate m 0) → Counted e 0 a m w₁ w₁
unfolding occurs
counted_none e a m w {w₁} r z = record {
  same_length = refl;
  counts = λ s h. ap (λ (l : List ℕ). get_or l (a + s) 0) z ∙ zeros-at w a m s r h;
  elsewhere = λ j h. refl;
}

-- the numbers are below m after that too
pub below-still : (e k a m : ℕ) (w : List ℕ) {w₁ : List ℕ} → e + k ≤ a → w₁ ≡ sets w a (replicate m 0) → Below m e w k → Below m e w₁ k
below-still e k a m w {w₁} r z h = λ j g. omega (arith, ap (λ (l : List ℕ). get_or l (e + j) 0) z ∙ sets-before w a (replicate m 0) (e + j) 0 (omega arith), h j g)

-- there is room for one more
pub count_room : {e k a m j : ℕ} {w₀ w : List ℕ} → ((e + k ≤ a) × (a + m ≤ length w₀)) × (k < 2 ^ 32) → Below m e w₀ k → j < k → Counted e j a m w₀ w
    → ((e + j < a) × (a + m ≤ length w)) × ((get_or w (e + j) 0 < m) × (get_or w (a + get_or w (e + j) 0) 0 + 1 < 2 ^ 32))
count_room {e} {k} {a} {m} {j} {w₀} {w} room below h c =
    let same : get_or w (e + j) 0 ≡ get_or w₀ (e + j) 0 = c.elsewhere (e + j) (inl (omega arith)) in
    let low : get_or w (e + j) 0 < m = omega (arith, same, below j h) in
    ((omega arith, omega (arith, c.same_length)), (low, omega (arith, c.counts (get_or w (e + j) 0) low, occurs-most (get_or w (e + j) 0) e w₀ j)))

pub counted-more : {e k a m j : ℕ} {w₀ w w' : List ℕ} → ((e + k ≤ a) × (a + m ≤ length w₀)) × (k < 2 ^ 32) → Below m e w₀ k → j < k → Counted e j a m w₀ w
    → w' ≡ set w (a + get_or w (e + j) 0) (get_or w (a + get_or w (e + j) 0) 0 + 1) → Counted e (j + 1) a m w₀ w'
unfolding occurs
counted-more {e} {k} {a} {m} {j} {w₀} {w} {w'} room below h c z =
    record {
      same_length = ap length z ∙ length-set w (a + v) _ ∙ c.same_length;
      counts = λ s b. rw (add-one j) (ap (λ (l : List ℕ). get_or l (a + s) 0) z ∙ go s b (ℕ_discrete s (get_or w₀ (e + j) 0)));
      elsewhere = λ i b. ap (λ (l : List ℕ). get_or l i 0) z ∙ get_or-set_other w (a + v) i _ 0 (⊎_elim (λ q. omega arith) (λ q. omega (arith, below j h, same)) b) ∙ c.elsewhere i b;
    }
  where
    v : ℕ
    v = get_or w (e + j) 0

    same : get_or w (e + j) 0 ≡ get_or w₀ (e + j) 0
    same = c.elsewhere (e + j) (inl (omega arith))

    go : (s : ℕ) → s < m → Dec (s ≡ get_or w₀ (e + j) 0) → get_or (set w (a + get_or w (e + j) 0) (get_or w (a + get_or w (e + j) 0) 0 + 1)) (a + s) 0 ≡ one (eqb s (get_or w₀ (e + j) 0)) + occurs s e w₀ j
    go s b (yes y) = rw (same, ← y, eq-eqb s s refl) (get_or-set_same w (a + s) (get_or w (a + s) 0 + 1) 0 (omega (arith, c.same_length)) ∙ omega (arith, c.counts s b))
    go s b (no y) = rw (same, ne_eqb s (get_or w₀ (e + j) 0) y) (get_or-set_other w (a + get_or w₀ (e + j) 0) (a + s) _ 0 (omega arith) ∙ omega (arith, c.counts s b))

-- over zeros, and counted from the slice as it was before
pub counted-done : {e k a m : ℕ} {w w₁ w₂ : List ℕ} → e + k ≤ a → w₁ ≡ sets w a (replicate m 0) → Counted e k a m w₁ w₂ → Counted e k a m w w₂
counted-done {e} {k} {a} {m} {w} {w₁} {w₂} r z c =
    record {
      same_length = c.same_length ∙ ap length z ∙ length-sets w a (replicate m 0);
      counts = λ s h. c.counts s h ∙ occurs-same s e w w₁ k (λ j g. ap (λ (l : List ℕ). get_or l (e + j) 0) z ∙ sets-before w a (replicate m 0) (e + j) 0 (omega arith));
      elsewhere = λ j h. c.elsewhere j h ∙ ap (λ (l : List ℕ). get_or l j 0) z ∙ ⊎_elim (λ b. sets-before w a (replicate m 0) j 0 b) (λ b. sets_behind w a (replicate m 0) j 0 (omega (arith, length-replicate {A = ℕ} m 0))) h;
    }

-- ---- a run of stores behind a table

pub held-within : (o N m at : ℕ) (w vs : List ℕ) {w' : List ℕ} → o + N + 4 * m ≤ at → w' ≡ sets w at vs → Held o N w m → Held o N w' m × (sides_in o N w' m ≡ sides_in o N w m)
held-within o N m at w vs {w'} h e t = (held_same o N w w' m cells (ap length e ∙ length-sets w at vs) t, sides-same o N w w' m cells)
  where
    cells : (j : ℕ) → o ≤ j → j < o + N + 4 * m → get_or w' j 0 ≡ get_or w j 0
    cells j p q = ap (λ (l : List ℕ). get_or l j 0) e ∙ sets-before w at vs j 0 (omega arith)
