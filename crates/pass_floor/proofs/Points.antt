-- What stands at each place of a refined floor's points: the old point there, or the midpoint of a cut side. And the loops that store planes. Assumes nothing.
use Prim.Native.Nat.{ℕ, zero, suc, ◌+◌, ◌*◌, ◌/◌, ◌-◌, ◌≤◌, ◌<◌}
use native.Mathlib.Omega.{arith}
use mathlib.Core.Path.{◌≡◌, refl, sym, ap, ◌∙◌}
use mathlib.Core.List.{List, [], ◌∷◌, ◌++◌, map}
use lib.ListN.{length, length-append, length-map, get_or, get_or-append}
use lib.Seq.{get_or-append-add, ext_get_or}
use lib.Ieee.{Float, nan}
use Rattle.linear_cells.specs.Region.{tab, put}
use Rattle.linear_cells.proofs.Loops.{length-tab, get_or-tab}
use Rattle.mesh.specs.Mesh.{Side, side}
use Rattle.mesh.specs.Area.{halfway}
use Rattle.mesh.specs.Points.{midpoint, midpoints, more_points}
use Rattle.edges.specs.declared.Table.{Table}
use Rattle.edges.specs.Table.{lo_of, hi_of, cuts_in}
use Rattle.edges.proofs.Tree.{length_pairs, pair-at}
use Rattle.pass_floor.specs.Planes.{midway_at, coordinate_at, coordinate_plane, mean_on, cut_at, value_plane}
use Rattle.pass_floor.specs.declared.inputs.Mean.{Mean}

mids-at : (pts : List Float) (l : List Side) (j k : ℕ) → k < 3 → j < length l → get_or (midpoints pts l) (3 * j + k) nan ≡ get_or (midpoint pts (get_or l j (side 0 0))) k nan
unfolding midpoints
mids-at pts [] j k b h = absurd (omega arith)
mids-at pts (s ∷ l) zero k b h = let e : 3 * 0 + k ≡ k = omega arith in rw e (get_or-append (midpoint pts s) (midpoints pts l) nan k b)
mids-at pts (s ∷ l) (suc j) k b h =
    let e : 3 * suc j + k ≡ 3 + (3 * j + k) = omega arith in
    rw e (get_or-append-add (midpoint pts s) (midpoints pts l) (3 * j + k) nan ∙ mids-at pts l j k b (omega arith))

pub cuts-length : (t : Table) (u : List ℕ) → length (cuts_in t u) ≡ t.sides
cuts-length t u = length_pairs (lo_of t.base t.buckets u) (hi_of t.base t.buckets u) t.sides

-- an old point
pub old-coordinate : (pts : List Float) (l : List Side) (k v : ℕ) → k < 2 → length pts ≡ 3 * (length pts / 3) → v < length pts / 3 → get_or pts (3 * v + k) nan ≡ coordinate_at pts l k v
unfolding coordinate_at more_points
old-coordinate pts l k v b whole h = sym (get_or-append pts (midpoints pts l) nan (3 * v + k) (omega arith))

midpoint-at : (pts : List Float) (s : Side) (a b k : ℕ) → k < 2 → s ≡ side a b → get_or (midpoint pts s) k nan ≡ halfway (get_or pts (3 * a + k) nan) (get_or pts (3 * b + k) nan)
midpoint-at pts s a b zero h e =
    let p : 3 * a + 0 ≡ 3 * a = omega arith in
    let q : 3 * b + 0 ≡ 3 * b = omega arith in
    rw (e, p, q)
midpoint-at pts s a b (suc zero) h e = rw e
midpoint-at pts s a b (suc (suc k)) h e = absurd (omega arith)

-- a midpoint
pub new-coordinate : (pts : List Float) (t : Table) (u : List ℕ) (k v : ℕ) → k < 2 → length pts ≡ 3 * (length pts / 3) → length pts / 3 ≤ v → v < length pts / 3 + t.sides
    → midway_at pts t u k (v - length pts / 3) ≡ coordinate_at pts (cuts_in t u) k v
unfolding coordinate_at more_points midway_at
new-coordinate pts t u k v b whole h g =
    let j = v - length pts / 3 in
    let i : 3 * v + k ≡ length pts + (3 * j + k) = omega arith in
    let m : j < length (cuts_in t u) = omega (arith, cuts-length t u) in
    sym (ap (λ (x : ℕ). get_or (pts ++ midpoints pts (cuts_in t u)) x nan) i
    ∙ get_or-append-add pts (midpoints pts (cuts_in t u)) (3 * j + k) nan
    ∙ mids-at pts (cuts_in t u) j k (omega arith) m
    ∙ midpoint-at pts (get_or (cuts_in t u) j (side 0 0)) (lo_of t.base t.buckets u j) (hi_of t.base t.buckets u j) k b (at j (omega arith)))
  where
    at : (j : ℕ) → j < t.sides → get_or (cuts_in t u) j (side 0 0) ≡ side (lo_of t.base t.buckets u j) (hi_of t.base t.buckets u j)
    at j h = pair-at (lo_of t.base t.buckets u) (hi_of t.base t.buckets u) t.sides j h

-- ---- the loop

pub plane-done : (w : List Float) (at : ℕ) (pts : List Float) (t : Table) (u : List ℕ) (k : ℕ) {w₁ : List Float}
    → w₁ ≡ put w at (tab (coordinate_at pts (cuts_in t u) k) (length pts / 3 + t.sides)) → w₁ ≡ put w at (coordinate_plane pts (cuts_in t u) k)
unfolding coordinate_plane
plane-done w at pts t u k e = e ∙ rw (cuts-length t u)

-- ---- one value for each point

pub cut-at : (t : Table) (u : List ℕ) (j : ℕ) → j < t.sides → get_or (cuts_in t u) j (side 0 0) ≡ cut_at t u j
cut-at t u j h = pair-at (lo_of t.base t.buckets u) (hi_of t.base t.buckets u) t.sides j h

map_at : (f : Side → Float) (l : List Side) (j : ℕ) → j < length l → get_or (map f l) j nan ≡ f (get_or l j (side 0 0))
map_at f [] j h = absurd (omega arith)
map_at f (s ∷ l) zero h = refl
map_at f (s ∷ l) (suc j) h = map_at f l j (omega arith)

pub old_value : (kind : Mean) (values : List Float) (l : List Side) (v : ℕ) → v < length values → get_or values v nan ≡ get_or (value_plane kind values l) v nan
unfolding value_plane
old_value kind values l v h = sym (get_or-append values (map (mean_on kind values) l) nan v h)

pub new-value : (kind : Mean) (values : List Float) (t : Table) (u : List ℕ) (v : ℕ) → length values ≤ v → v < length values + t.sides
    → mean_on kind values (cut_at t u (v - length values)) ≡ get_or (value_plane kind values (cuts_in t u)) v nan
unfolding value_plane
new-value kind values t u v h g =
    let j = v - length values in
    let i : v ≡ length values + j = omega arith in
    let m : j < length (cuts_in t u) = omega (arith, cuts-length t u) in
    sym (ap (λ (x : ℕ). get_or (values ++ map (mean_on kind values) (cuts_in t u)) x nan) i
    ∙ get_or-append-add values (map (mean_on kind values) (cuts_in t u)) j nan
    ∙ map_at (mean_on kind values) (cuts_in t u) j m
    ∙ ap (mean_on kind values) (cut-at t u j (omega arith)))

pub length-plane : (kind : Mean) (values : List Float) (t : Table) (u : List ℕ) → length (value_plane kind values (cuts_in t u)) ≡ length values + t.sides
unfolding value_plane
length-plane kind values t u = length-append values _ ∙ omega (arith, length-map (cuts_in t u) (mean_on kind values), cuts-length t u)

-- a list that is stored element by element
tab-get_or : {A : Type 0} (d : A) (l : List A) {n : ℕ} → length l ≡ n → tab (λ j. get_or l j d) n ≡ l
tab-get_or d l {n} e = ext_get_or d _ l (length-tab _ n ∙ sym e) (λ i h. get_or-tab _ n i d (omega (arith, length-tab (λ j. get_or l j d) n)))

pub values-done : (w : List Float) (at : ℕ) (kind : Mean) (values : List Float) (t : Table) (u : List ℕ) {w₁ : List Float}
    → w₁ ≡ put w at (tab (λ v. get_or (value_plane kind values (cuts_in t u)) v nan) (length values + t.sides)) → w₁ ≡ put w at (value_plane kind values (cuts_in t u))
values-done w at kind values t u e = e ∙ ap (put w at) (tab-get_or nan (value_plane kind values (cuts_in t u)) (length-plane kind values t u))
