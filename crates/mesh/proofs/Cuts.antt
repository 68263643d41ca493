-- Sides, their places in a list of sides, their midpoints by these places, and a side that is met. Assumes nothing.
use Prim.Native.Nat.{ℕ, zero, suc, ◌+◌, ◌≤◌, ◌<◌}
use native.Mathlib.Omega.{arith}
use native.Mathlib.Decide.{ℕ_discrete}
use mathlib.Core.Path.{◌≡◌, refl, sym, ap, ◌∙◌}
use mathlib.Core.Logic.{◌≢◌, ◌⊎◌, inl, inr, ⊎_elim}
use mathlib.Core.Bool.{Bool, true, false, not, cond}
use mathlib.Core.List.{List, [], ◌∷◌, ◌++◌, append-nil}
use mathlib.Core.Option.{Option, none, some}
use borrow.Author.Tests.{eq-eqb, ne_eqb}
use lib.ListN.{length, get_or, length-append, get_or-append}
use lib.Seq.{get_or-append_seam}
use lib.Dec.{T, ltb, ltb→lt, nltb→le}
use Rattle.mesh.specs.Mesh.{Tri, Side, side, key, same, next, index_in, is_none, met, marked, above, mid, Numbered, Same, Mids, All}

-- ---- sides

pub key-either : (u v : ℕ) → ((key u v ≡ side u v) × (u < v)) ⊎ ((key u v ≡ side v u) × (v ≤ u))
unfolding key
key-either u v = go (ltb u v) (λ t. ltb→lt u v t) (λ t. nltb→le u v t)
  where
    go : (b : Bool) → (T b → u < v) → (T (not b) → v ≤ u) → ((cond b (side u v) (side v u) ≡ side u v) × (u < v)) ⊎ ((cond b (side u v) (side v u) ≡ side v u) × (v ≤ u))
    go true h k = inl (refl, h tt)
    go false h k = inr (refl, k tt)

pub key-rising : (u v : ℕ) → u < v → key u v ≡ side u v
key-rising u v h = ⊎_elim (λ p. p.0) (λ p. absurd (omega (arith, p.1))) (key-either u v)

pub key-falling : (u v : ℕ) → v ≤ u → key u v ≡ side v u
key-falling u v h = ⊎_elim (λ p. absurd (omega (arith, p.1))) (λ p. p.0) (key-either u v)

pub key-flip : (u v : ℕ) → key u v ≡ key v u
key-flip u v = go (key-either u v) (key-either v u)
  where
    go : ((key u v ≡ side u v) × (u < v)) ⊎ ((key u v ≡ side v u) × (v ≤ u)) → ((key v u ≡ side v u) × (v < u)) ⊎ ((key v u ≡ side u v) × (u ≤ v)) → key u v ≡ key v u
    go (inl p) (inl q) = absurd (omega arith)
    go (inl p) (inr q) = cc
    go (inr p) (inl q) = cc
    go (inr p) (inr q) = let z : u ≡ v = omega arith in cc

pub key-same : (u v x y : ℕ) → key u v ≡ key x y → Same u v x y
key-same u v x y h = go (key-either u v) (key-either x y)
  where
    go : ((key u v ≡ side u v) × (u < v)) ⊎ ((key u v ≡ side v u) × (v ≤ u)) → ((key x y ≡ side x y) × (x < y)) ⊎ ((key x y ≡ side y x) × (y ≤ x)) → Same u v x y
    go (inl p) (inl q) = inl (cc, cc)
    go (inl p) (inr q) = inr (cc, cc)
    go (inr p) (inl q) = inr (cc, cc)
    go (inr p) (inr q) = inl (cc, cc)

pub same_key : (u v x y : ℕ) → Same u v x y → key u v ≡ key x y
same_key u v x y (inl s) = cc
same_key u v x y (inr s) = cc (key-flip x y)

-- the test of two sides
pub same_cases : (s t : Side) → ((same s t ≡ true) × (s ≡ t)) ⊎ ((same s t ≡ false) × (s ≢ t))
same_cases (side a b) (side c d) = go (ℕ_discrete a c) (ℕ_discrete b d)
  where
    go : Dec (a ≡ c) → Dec (b ≡ d) → ((same (side a b) (side c d) ≡ true) × (side a b ≡ side c d)) ⊎ ((same (side a b) (side c d) ≡ false) × (side a b ≢ side c d))
    go (yes p) (yes q) = inl (rw (eq-eqb a c p, eq-eqb b d q), cc)
    go (yes p) (no q) = inr (rw (eq-eqb a c p, ne_eqb b d q), λ h. q (cc))
    go (no p) q = inr (rw (ne_eqb a c p), λ h. p (cc))

-- ---- the place of a side

-- what a step of the search for s comes to
pub index-here : (s t : Side) (l : List Side) → s ≡ t → index_in s (t ∷ l) ≡ some zero
unfolding index_in
index-here s t l h = ⊎_elim (λ p. rw p.0) (λ p. absurd (p.1 h)) (same_cases s t)

pub index-past : (s t : Side) (l : List Side) → s ≢ t → index_in s (t ∷ l) ≡ next (index_in s l)
unfolding index_in
index-past s t l h = ⊎_elim (λ p. absurd (h p.1)) (λ p. rw p.0) (same_cases s t)

pub side-discrete : (s t : Side) → Dec (s ≡ t)
side-discrete s t = ⊎_elim (λ p. yes p.1) (λ p. no p.1) (same_cases s t)

-- two contrary answers
pub never : {A : Type 0} (o : Option ℕ) (k : ℕ) → o ≡ none → o ≡ some k → A
never o k p q = let z : ◌≡◌ {A = ℕ} 0 1 = cc in absurd (omega arith)

pub next-some : (o : Option ℕ) (k : ℕ) → next o ≡ some k → (j : ℕ) × (o ≡ some j) × (k ≡ suc j)
next-some none k h = never none k refl h
next-some (some j) k h = (j, refl, cc)

pub next-none : (o : Option ℕ) → next o ≡ none → o ≡ none
next-none none h = refl
next-none (some k) h = never (some (suc k)) (suc k) h refl

pub above-some : (n : ℕ) (o : Option ℕ) (p : ℕ) → above n o ≡ some p → (k : ℕ) × (o ≡ some k) × (p ≡ n + k)
above-some n none p h = never none p refl h
above-some n (some k) p h = (k, refl, cc)

pub above-none : (n : ℕ) (o : Option ℕ) → above n o ≡ none → o ≡ none
above-none n none h = refl
above-none n (some k) h = never (some (n + k)) (n + k) h refl

-- at one place there is one side
pub index-only : (s t : Side) (l : List Side) (k : ℕ) → index_in s l ≡ some k → index_in t l ≡ some k → s ≡ t
unfolding index_in
index-only s t [] k h h' = never none k refl h
index-only s t (x ∷ l) k h h' = go (λ j. index-only s t l j) (side-discrete s x) (side-discrete t x)
  where
    go : ((j : ℕ) → index_in s l ≡ some j → index_in t l ≡ some j → s ≡ t) → Dec (s ≡ x) → Dec (t ≡ x) → s ≡ t
    go ih (yes p) (yes q) = cc
    go ih (yes p) (no q) =
        let r = next-some (index_in t l) k (sym (index-past t x l q) ∙ h') in
        let z : zero ≡ k = cc (index-here s x l p) in
        absurd (omega (arith, r.2))
    go ih (no p) (yes q) =
        let r = next-some (index_in s l) k (sym (index-past s x l p) ∙ h) in
        let z : zero ≡ k = cc (index-here t x l q) in
        absurd (omega (arith, r.2))
    go ih (no p) (no q) =
        let r = next-some (index_in s l) k (sym (index-past s x l p) ∙ h) in
        let r' = next-some (index_in t l) k (sym (index-past t x l q) ∙ h') in
        ih r.0 r.1 (r'.1 ∙ ap some (omega (arith, r.2, r'.2)))

-- a place is below the length
pub index_below : (s : Side) (l : List Side) (k : ℕ) → index_in s l ≡ some k → k < length l
unfolding index_in
index_below s [] k h = never none k refl h
index_below s (x ∷ l) k h = go (λ j. index_below s l j) (side-discrete s x)
  where
    go : ((j : ℕ) → index_in s l ≡ some j → j < length l) → Dec (s ≡ x) → k < suc (length l)
    go ih (yes p) = let z : zero ≡ k = cc (index-here s x l p) in omega arith
    go ih (no p) = let d = next-some (index_in s l) k (sym (index-past s x l p) ∙ h) in omega (arith, d.2, ih d.0 d.1)

-- (d) the midpoints of any list of sides: each at or above n, and no two sides with one
pub mids : (n : ℕ) (l : List Side) → Mids n (mid n l)
unfolding mid
mids n l =
    record {
      flip = λ u v. ap (λ (s : Side). above n (index_in s l)) (key-flip u v);
      high = λ u v p h. omega (arith, (above-some n (index_in (key u v) l) p h).2);
      only = λ u v x y p h k.
          let r = above-some n (index_in (key u v) l) p h in
          let r' = above-some n (index_in (key x y) l) p k in
          key-same u v x y (index-only (key u v) (key x y) l r.0 r.1 (r'.1 ∙ ap some (omega (arith, r.2, r'.2))));
    }

-- ---- a list with one more

pub index-keep : (s : Side) (l r : List Side) (k : ℕ) → index_in s l ≡ some k → index_in s (l ++ r) ≡ some k
unfolding index_in
index-keep s [] r k h = never none k refl h
index-keep s (x ∷ l) r k h = go (λ j. index-keep s l r j) (side-discrete s x)
  where
    go : ((j : ℕ) → index_in s l ≡ some j → index_in s (l ++ r) ≡ some j) → Dec (s ≡ x) → index_in s (x ∷ (l ++ r)) ≡ some k
    go ih (yes p) = cc (index-here s x l p, index-here s x (l ++ r) p)
    go ih (no p) =
        let d = next-some (index_in s l) k (sym (index-past s x l p) ∙ h) in
        index-past s x (l ++ r) p ∙ ap next (ih d.0 d.1) ∙ ap some (sym d.2)

pub index-out : (s t : Side) (l : List Side) → index_in s l ≡ none → s ≢ t → index_in s (l ++ (t ∷ [])) ≡ none
unfolding index_in
index-out s t [] h d = index-past s t [] d
index-out s t (x ∷ l) h d = go (index-out s t l) (side-discrete s x)
  where
    go : (index_in s l ≡ none → s ≢ t → index_in s (l ++ (t ∷ [])) ≡ none) → Dec (s ≡ x) → index_in s (x ∷ (l ++ (t ∷ []))) ≡ none
    go ih (yes p) = never (index_in s (x ∷ l)) zero h (index-here s x l p)
    go ih (no p) = index-past s x (l ++ (t ∷ [])) p ∙ ap next (ih (next-none (index_in s l) (sym (index-past s x l p) ∙ h)) d)

pub index-end : (s : Side) (l : List Side) → index_in s l ≡ none → index_in s (l ++ (s ∷ [])) ≡ some (length l)
unfolding index_in
index-end s [] h = index-here s s [] refl
index-end s (x ∷ l) h = go (index-end s l) (side-discrete s x)
  where
    go : (index_in s l ≡ none → index_in s (l ++ (s ∷ [])) ≡ some (length l)) → Dec (s ≡ x) → index_in s (x ∷ (l ++ (s ∷ []))) ≡ some (suc (length l))
    go ih (yes p) = never (index_in s (x ∷ l)) zero h (index-here s x l p)
    go ih (no p) = index-past s x (l ++ (s ∷ [])) p ∙ ap next (ih (next-none (index_in s l) (sym (index-past s x l p) ∙ h)))

-- ---- a side that is met

-- "in order first met": a side that is met goes behind all that were met before, unless it is there
met-behind : (l : List Side) (s : Side) → met l s ≡ l ++ cond (is_none (index_in s l)) (s ∷ []) []
unfolding met
met-behind l s = go (is_none (index_in s l))
  where
    go : (b : Bool) → cond b (l ++ (s ∷ [])) l ≡ l ++ cond b (s ∷ []) []
    go true = refl
    go false = sym (append-nil l)

pub met-new : (l : List Side) (s : Side) → index_in s l ≡ none → met l s ≡ l ++ (s ∷ [])
met-new l s h = met-behind l s ∙ rw h

pub met-old : (l : List Side) (s : Side) (k : ℕ) → index_in s l ≡ some k → met l s ≡ l
met-old l s k h = met-behind l s ∙ rw h (append-nil l)

-- in the list, or not
pub data Found (s : Side) (l : List Side) : Type 0 where
  found : (k : ℕ) → index_in s l ≡ some k → Found s l
  missing : index_in s l ≡ none → Found s l

pub find : (s : Side) (l : List Side) → Found s l
find s l = go (index_in s l) refl
  where
    go : (o : Option ℕ) → index_in s l ≡ o → Found s l
    go none h = missing h
    go (some k) h = found k h

-- ---- each once: the side at place k is found at k

pub met-numbered : (l : List Side) (s : Side) → Numbered l → Numbered (met l s)
met-numbered l s h = go (find s l)
  where
    go : Found s l → Numbered (met l s)
    go (found k f) = rw (met-old l s k f) h
    go (missing f) = rw (met-new l s f) each
      where
        each : Numbered (l ++ (s ∷ []))
        each k b = at (ℕ_discrete k (length l))
          where
            at : Dec (k ≡ length l) → index_in (get_or (l ++ (s ∷ [])) k (side 0 0)) (l ++ (s ∷ [])) ≡ some k
            at (yes e) = rw (e, get_or-append_seam l s [] (side 0 0)) (index-end s l f)
            at (no e) =
                let j : k < length l = omega (arith, simp length-append at b) in
                rw (get_or-append l (s ∷ []) (side 0 0) k j) (index-keep (get_or l k (side 0 0)) l (s ∷ []) k (h k j))

-- ---- the flagged triangles

pub marked_all : (P : Tri → Type 0) (f : Tri → Bool) (ts : List Tri) → All P ts → All P (marked f ts)
unfolding marked
marked_all P f [] h = tt
marked_all P f (t ∷ ts) h = go (f t) (marked_all P f ts h.1)
  where
    go : (b : Bool) → All P (marked f ts) → All P (cond b (t ∷ marked f ts) (marked f ts))
    go true r = (h.0, r)
    go false r = r
