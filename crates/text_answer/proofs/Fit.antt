-- Every number that is printed fits its column: counts, corners of the new triangles and ends of the cut sides are below 1,000,000, so that by
-- crates/text_columns/proofs/Strict.antt each printed column reads as its number. Assumes nothing.
use Prim.Native.Nat.{ℕ, zero, suc, ◌+◌, ◌*◌, ◌/◌, ◌≤◌, ◌<◌}
use native.Mathlib.Omega.{arith}
use mathlib.Core.Path.{◌≡◌, refl}
use mathlib.Core.Bool.{Bool, true, false, cond}
use mathlib.Core.List.{List, [], ◌∷◌, ◌++◌}
use mathlib.Core.Option.{Option, none, some}
use lib.Dec.{ltb}
use lib.ListN.{length, get_or}
use Rattle.mesh.specs.Mesh.{Tri, tri, Side, side, key, sides, index_in, is_none, met, met_all, sides_after, marked, cuts, mid, split, pieces, refined, refine, All}
use Rattle.mesh.proofs.Theorem.{index_below}
use Rattle.mesh.proofs.Cuts.{above-some, marked_all}
use Rattle.refinement.specs.Flag.{flagged_tri}
use Rattle.refinement.specs.Floor.{Refined, refinement_of, tris, tris_of}
use Rattle.text_floor.specs.Text.{is_text, point_count, triangle_count, corners_up_to, points_in, angles_in, corners_in, sizes_in, threshold_in}
use Rattle.text_floor.proofs.Lines.{known, small-column, points-length, corners-length}
use Rattle.text_answer.proofs.Call.{few}

abbrev Small : ℕ → Type 0
Small n = n < 1000000

abbrev pub SmallTri : Tri → Type 0
SmallTri (tri a b c) = Small a × (Small b × Small c)

abbrev pub SmallSide : Side → Type 0
SmallSide (side a b) = Small a × Small b

all_append : {A : Type 0} (P : A → Type 0) (s t : List A) → All P s → All P t → All P (s ++ t)
all_append P [] t h k = k
all_append P (x ∷ s) t h k = (h.0, all_append P s t h.1 k)

-- ---- the corners of a text

corners-small : (s : List ℕ) (n t : ℕ) → All Small (corners_up_to s n t)
unfolding corners_up_to
corners-small s n zero = tt
corners-small s n (suc t) =
    let i = 1 + n + t in
    all_append Small (corners_up_to s n t) _ (corners-small s n t) (small-column s (19 * i), (small-column s (19 * i + 6), (small-column s (19 * i + 12), tt)))

at_small : (l : List ℕ) (i : ℕ) → All Small l → Small (get_or l i 0)
at_small [] i h = omega arith
at_small (x ∷ l) zero h = h.0
at_small (x ∷ l) (suc i) h = at_small l i h.1

tris-small : (l : List ℕ) (i : ℕ) → All Small l → All SmallTri (tris l i)
unfolding tris
tris-small l zero h = tt
tris-small l (suc i) h = all_append SmallTri (tris l i) _ (tris-small l i h) ((at_small l (3 * i) h, (at_small l (3 * i + 1) h, at_small l (3 * i + 2) h)), tt)

-- ---- the new triangles

abbrev SmallMid : Option ℕ → Type 0
SmallMid none = Unit {0}
SmallMid (some p) = Small p

split-small : (a b c : ℕ) (p q r : Option ℕ) → Small a → Small b → Small c → SmallMid p → SmallMid q → SmallMid r → All SmallTri (split a b c p q r)
split-small a b c none none none ha hb hc hp hq hr = ((ha, (hb, hc)), tt)
split-small a b c (some p) none none ha hb hc hp hq hr = ((ha, (hp, hc)), ((hp, (hb, hc)), tt))
split-small a b c none (some q) none ha hb hc hp hq hr = ((ha, (hb, hq)), ((ha, (hq, hc)), tt))
split-small a b c none none (some r) ha hb hc hp hq hr = ((ha, (hb, hr)), ((hr, (hb, hc)), tt))
split-small a b c (some p) (some q) none ha hb hc hp hq hr = ((hb, (hp, hq)), ((hp, (ha, hc)), ((hp, (hc, hq)), tt)))
split-small a b c none (some q) (some r) ha hb hc hp hq hr = ((hc, (hq, hr)), ((hq, (hb, ha)), ((hq, (ha, hr)), tt)))
split-small a b c (some p) none (some r) ha hb hc hp hq hr = ((ha, (hp, hr)), ((hp, (hb, hc)), ((hp, (hc, hr)), tt)))
split-small a b c (some p) (some q) (some r) ha hb hc hp hq hr = ((ha, (hp, hr)), ((hp, (hb, hq)), ((hr, (hq, hc)), ((hp, (hq, hr)), tt))))

refined-small : (m : ℕ → ℕ → Option ℕ) (ts : List Tri) → ((u v : ℕ) → SmallMid (m u v)) → All SmallTri ts → All SmallTri (refined m ts)
refined-small m [] k h = tt
refined-small m (tri a b c ∷ ts) k h =
    all_append SmallTri (pieces m (tri a b c)) (refined m ts) (split-small a b c (m a b) (m b c) (m c a) h.0.0 h.0.1.0 h.0.1.1 (k a b) (k b c) (k c a)) (refined-small m ts k h.1)

below_all : (n : ℕ) (l : List Side) → n + length l ≤ 1000000 → (u v p : ℕ) → mid n l u v ≡ some p → Small p
unfolding mid
below_all n l h u v p e = let d = above-some n (index_in (key u v) l) p e in omega (arith, index_below (key u v) l d.0 d.1, d.2)

mid-small : (n : ℕ) (l : List Side) → n + length l ≤ 1000000 → (u v : ℕ) → SmallMid (mid n l u v)
mid-small n l h u v = go (mid n l u v) refl
  where
    go : (o : Option ℕ) → mid n l u v ≡ o → SmallMid o
    go none e = tt
    go (some p) e = below_all n l h u v p e

-- ---- the cut sides

key-small : (u v : ℕ) → Small u → Small v → SmallSide (key u v)
unfolding key
key-small u v h k = go (ltb u v)
  where
    go : (b : Bool) → SmallSide (cond b (side u v) (side v u))
    go true = (h, k)
    go false = (k, h)

met-small : (l : List Side) (s : Side) → All SmallSide l → SmallSide s → All SmallSide (met l s)
unfolding met
met-small l s h k = go (is_none (index_in s l))
  where
    go : (b : Bool) → All SmallSide (cond b (l ++ (s ∷ [])) l)
    go true = all_append SmallSide l (s ∷ []) h (k, tt)
    go false = h

all_small : (l ss : List Side) → All SmallSide l → All SmallSide ss → All SmallSide (met_all l ss)
unfolding met_all
all_small l [] h k = h
all_small l (s ∷ ss) h k = all_small (met l s) ss (met-small l s h k.0) k.1

after_small : (l : List Side) (ts : List Tri) → All SmallSide l → All SmallTri ts → All SmallSide (sides_after l ts)
unfolding sides_after
after_small l [] h k = h
after_small l (tri a b c ∷ ts) h k =
    after_small (met_all l (sides (tri a b c))) ts
    (all_small l (sides (tri a b c)) h (key-small a b k.0.0 k.0.1.0, (key-small b c k.0.1.0 k.0.1.1, (key-small c a k.0.1.1 k.0.0, tt)))) k.1

cuts-small : (f : Tri → Bool) (ts : List Tri) → All SmallTri ts → All SmallSide (cuts f ts)
unfolding cuts
cuts-small f ts h = after_small [] (marked f ts) tt (marked_all SmallTri f ts h)

-- ---- all that is printed for a text

pub record Fit (r : Refined) : Type 0 where
  pub triangles : All SmallTri r.triangles
  pub cut : All SmallSide r.cut

pub fits : (s : List ℕ) → is_text s ≡ true → Fit (refinement_of (threshold_in s) (angles_in s) (points_in s) (sizes_in s) (tris_of (corners_in s)))
unfolding refinement_of refine
fits s e =
    let k = known s e in
    let f = flagged_tri (threshold_in s) (angles_in s) in
    let ts = tris_of (corners_in s) in
    let w = (few (threshold_in s) (angles_in s) (points_in s) (sizes_in s) (corners_in s)).cut in
    let h = tris-small (corners_in s) (length (corners_in s) / 3) (corners-small s (point_count s) (triangle_count s)) in
    record {
      triangles = refined-small (mid (length (points_in s) / 3) (cuts f ts)) ts (mid-small (length (points_in s) / 3) (cuts f ts) (omega (arith, w, points-length s (point_count s), corners-length s (point_count s) (triangle_count s), k.few-points, k.few-triangles))) h;
      cut = cuts-small f ts h;
    }
