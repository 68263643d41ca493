-- Digital search trees over a numbered list of sides: the walk to a side that is there finds it, a walk that ends shows that it is not, and a side that is put
-- where its walk ended is found from then on. All of it for any two ends `lo` and `hi`, any contents `hold` of the positions and any place `under` of a side's
-- links, so that it serves a table in one slice and one in two. Assumes nothing.
use Prim.Native.Nat.{ℕ, zero, suc, ◌+◌, ◌-◌, ◌/◌, ◌%◌, ◌≤◌, ◌<◌}
use native.Mathlib.Nat.{mod-lt}
use native.Mathlib.Omega.{arith}
use native.Mathlib.Decide.{ℕ_discrete}
use mathlib.Core.Path.{◌≡◌, refl, sym, ap, ap₂, ◌∙◌}
use mathlib.Core.Logic.{◌≢◌}
use mathlib.Core.Bool.{Bool, true, false, cond, ◌&&◌}
use mathlib.Core.List.{List, [], ◌∷◌, ◌++◌}
use mathlib.Core.Option.{none, some}
use Rattle.std.specs.Prelude.{Option as Maybe}
use Rattle.std.specs.Prelude.{None, Some}
use lib.Dec.{eqb}
use lib.ListN.{length, get_or, length-append, get_or-append}
use lib.Seq.{get_or-append_seam}
use borrow.Author.Tests.{eq-eqb, eqb-true}
use Rattle.mesh.specs.Mesh.{Side, side, key, tri, sides, index_in, met, met_all, Numbered}
use Rattle.mesh.proofs.Cuts.{index-out, index-keep, met-old, met-new, Found, found, missing, find}
use Rattle.edges.specs.Table.{slot_of, path_of, pairs, Spot, bucket, link, next, LeadsIn, Leads, Trees, Keeps, Free, Walked, NumbersOf, place, one_more}

-- ---- the test whether two sides are one

false-true : ◌≡◌ {A = Bool} false true → ⊥
false-true f = let z : ◌≡◌ {A = ℕ} 0 1 = ap (λ (x : Bool). cond x 1 0) f in omega arith

pub same-both : (a b c d : ℕ) → (eqb a c && eqb b d) ≡ true → (a ≡ c) × (b ≡ d)
same-both a b c d h = go (eqb a c) (eqb b d) refl refl h
  where
    go : (x y : Bool) → eqb a c ≡ x → eqb b d ≡ y → (x && y) ≡ true → (a ≡ c) × (b ≡ d)
    go true true p q z = (eqb-true a c p, eqb-true b d q)
    go true false p q z = absurd (false-true z)
    go false y p q z = absurd (false-true z)

pub same_not : (a b c d : ℕ) → (eqb a c && eqb b d) ≡ false → (a ≡ c) × (b ≡ d) → ⊥
same_not a b c d h e = false-true (sym h ∙ rw (eq-eqb a c e.0, eq-eqb b d e.1) refl)

-- ---- walks

digit : (r : ℕ) → r % 2 < 2
digit r = mod-lt r (omega arith)

module _ {hold under : ℕ → ℕ} where
  leads-here : {k p r : ℕ} → hold p ≡ suc k → Leads hold under k p r
  unfolding LeadsIn
  leads-here e = record { depth = 0; way = e }

  leads-there : {k p r : ℕ} → hold p ≢ 0 → Leads hold under k (next hold under p r) (r / 2) → Leads hold under k p r
  unfolding LeadsIn
  leads-there h l = record { depth = suc l.depth; way = (h, l.way) }

  leads-some : {k p r : ℕ} → Leads hold under k p r → hold p ≢ 0
  unfolding LeadsIn
  leads-some {k} {p} {r} l z = go l.depth l.way
    where
      go : (d : ℕ) → LeadsIn hold under k d p r → ⊥
      go zero w = let e : hold p ≡ suc k = w in omega arith
      go (suc d) w = w.0 z

  leads-on : {k p r : ℕ} → Leads hold under k p r → hold p ≢ suc k → Leads hold under k (next hold under p r) (r / 2)
  unfolding LeadsIn
  leads-on {k} {p} {r} l other = go l.depth l.way
    where
      go : (d : ℕ) → LeadsIn hold under k d p r → Leads hold under k (next hold under p r) (r / 2)
      go zero w = absurd (other w)
      go (suc d) w = record { depth = d; way = w.1 }

-- the position behind one that holds a side is one of the trees'
module _ {o N : ℕ} {hold under : ℕ → ℕ} {m : ℕ} (known : (q : ℕ) → Spot o N under m q → hold q ≤ m) where
  spot-next : {p : ℕ} (r : ℕ) → Spot o N under m p → hold p ≢ 0 → Spot o N under m (next hold under p r)
  spot-next {p} r s h = link (hold p - 1) (r % 2) (omega (arith, known p s)) (digit r) refl

  -- and a walk is the same where what is held is kept
  leads-kept : {hold' : ℕ → ℕ} → Keeps o N under hold hold' m → (k d p r : ℕ) → Spot o N under m p → LeadsIn hold under k d p r → LeadsIn hold' under k d p r
  unfolding LeadsIn
  leads-kept keeps k zero p r s w = keeps p s (λ z. let e : hold p ≡ suc k = w in omega arith) ∙ w
  leads-kept {hold'} keeps k (suc d) p r s w =
      let e : hold' p ≡ hold p = keeps p s w.0 in
      (λ z. w.0 (sym e ∙ z), rw e (leads-kept keeps k d (next hold under p r) (r / 2) (spot-next r s w.0) w.1))

-- ---- the walk to the side a b: at position p, with r left of its path

pub record Walk (o N : ℕ) (lo hi hold under : ℕ → ℕ) (m a b p r : ℕ) : Type 0 where
  pub spot : Spot o N under m p
  -- the side, if it is there, is still ahead
  pub ahead : (k : ℕ) → k < m → lo k ≡ a → hi k ≡ b → Leads hold under k p r
  -- and a walk that leads on from here leads on from its bucket
  pub behind : (hold' : ℕ → ℕ) (k : ℕ) → Keeps o N under hold hold' m → Leads hold' under k p r → Leads hold' under k (o + slot_of N a b) (path_of a b)

module _ {o N : ℕ} {lo hi hold under : ℕ → ℕ} {m : ℕ} (t : Trees o N lo hi hold under m) {a b : ℕ} where
  pub walk_start : {h p r : ℕ} → (h ≡ slot_of N a b) × (h < N) → p ≡ o + h → r ≡ path_of a b → Walk o N lo hi hold under m a b p r
  walk_start {h} {p} {r} e i j =
      let q : p ≡ o + slot_of N a b = i ∙ ap (λ (z : ℕ). o + z) e.0 in
      record {
        spot = bucket h e.1 i;
        ahead = λ k l u v. rw (q, j, sym u, sym v) (t.reached k l);
        behind = λ hold' k keeps l. rw (sym q, sym j) l;
      }

  module _ {p r : ℕ} (w : Walk o N lo hi hold under m a b p r) where
    pub walk-known : hold p ≤ m
    walk-known = t.known p w.spot

    -- another side stands here
    pub walk-on : hold p ≢ 0 → ((lo (hold p - 1) ≡ a) × (hi (hold p - 1) ≡ b) → ⊥) → Walk o N lo hi hold under m a b (next hold under p r) (r / 2)
    walk-on h other = record {
      spot = spot-next t.known r w.spot h;
      ahead = λ k l u v. leads-on (w.ahead k l u v) (λ e. let i : hold p - 1 ≡ k = omega arith in other (ap lo i ∙ u, ap hi i ∙ v));
      behind = λ hold' k keeps l. let e : hold' p ≡ hold p = keeps p w.spot h in w.behind hold' k keeps (leads-there (λ z. h (sym e ∙ z)) (rw e l));
    }

    pub walk-free : hold p ≡ 0 → Free o N hold under m a b p
    walk-free z = record { rest = r; empty = z; through = w.behind }

    -- the side is nowhere
    pub walk_none : hold p ≡ 0 → (k : ℕ) → k < m → lo k ≡ a → hi k ≡ b → ⊥
    walk_none z k l u v = leads-some (w.ahead k l u v) z

-- a walk goes on to later sides only
pub left_over : ℕ → ℕ → ℕ
left_over m zero = 0
left_over m (suc k) = m - k

module _ {o N : ℕ} {lo hi hold under : ℕ → ℕ} {m : ℕ} (t : Trees o N lo hi hold under m) where
  pub walk-less : (k r : ℕ) {at at' : ℕ} → at ≡ suc k → k < m → at' ≡ hold (under k + r % 2) → left_over m at' < left_over m at
  unfolding left_over
  walk-less k r {at} {at'} e h i = rw e (go at' i)
    where
      go : (x : ℕ) → x ≡ hold (under k + r % 2) → left_over m x < m - k
      go zero j = omega arith
      go (suc y) j = omega (arith, t.later k (r % 2) h (digit r) (λ z. let c : suc y ≡ 0 = j ∙ z in omega arith), t.known (under k + r % 2) (link k (r % 2) h (digit r) refl))

-- ---- the same trees elsewhere

module _ {o N : ℕ} {lo hi hold lo' hi' hold' under : ℕ → ℕ} {m : ℕ} where
  pub trees-same : ((k : ℕ) → k < m → lo' k ≡ lo k) → ((k : ℕ) → k < m → hi' k ≡ hi k) → ((q : ℕ) → Spot o N under m q → hold' q ≡ hold q) → ((k : ℕ) → k < m → slot_of N (lo k) (hi k) < N)
      → Trees o N lo hi hold under m → Trees o N lo' hi' hold' under m
  trees-same los his holds slots t = record {
    reached = λ k l. let way = t.reached k l in rw (los k l, his k l) (record { depth = way.depth; way = leads-kept t.known (λ q s h. holds q s) k way.depth _ _ (bucket _ (slots k l) refl) way.way });
    known = λ q s. rw (holds q s) (t.known q s);
    later = λ k s l g. rw (holds (under k + s) (link k s l g refl)) (t.later k s l g);
  }

-- ---- one more side

-- side a b is put at the empty position p
pub record Put (o N : ℕ) (lo hi hold lo' hi' hold' under : ℕ → ℕ) (m a b p : ℕ) : Type 0 where
  pub lo-old : (k : ℕ) → k < m → lo' k ≡ lo k
  pub hi-old : (k : ℕ) → k < m → hi' k ≡ hi k
  pub lo-new : lo' m ≡ a
  pub hi-new : hi' m ≡ b
  pub held-old : (q : ℕ) → Spot o N under m q → q ≢ p → hold' q ≡ hold q
  pub held_new : hold' p ≡ suc m
  pub links-new : (s : ℕ) → s < 2 → hold' (under m + s) ≡ 0

module _ {o N : ℕ} {lo hi hold lo' hi' hold' under : ℕ → ℕ} {m a b p : ℕ} (d : Put o N lo hi hold lo' hi' hold' under m a b p) where
  old-pairs : (n : ℕ) → n ≤ m → pairs lo' hi' n ≡ pairs lo hi n
  unfolding pairs
  old-pairs zero l = refl
  old-pairs (suc k) l = rw (old-pairs k (omega arith), d.lo-old k l, d.hi-old k l)

  pub new-pairs : pairs lo' hi' (suc m) ≡ pairs lo hi m ++ (side a b ∷ [])
  unfolding pairs
  new-pairs = rw (old-pairs m (omega arith), d.lo-new, d.hi-new)

  module _ (t : Trees o N lo hi hold under m) (f : Free o N hold under m a b p) (slots : (k : ℕ) → k < m → slot_of N (lo k) (hi k) < N) where
    keeps : Keeps o N under hold hold' m
    keeps q s h = d.held-old q s (λ e. h (ap hold e ∙ f.empty))

    pub trees-more : Trees o N lo' hi' hold' under (suc m)
    trees-more = record { reached = λ k l. reached k l (ℕ_discrete k m); known = known; later = λ k s l g. later k s l g (ℕ_discrete k m) (ℕ_discrete (under k + s) p) }
      where
        reached : (k : ℕ) → k < suc m → Dec (k ≡ m) → Leads hold' under k (o + slot_of N (lo' k) (hi' k)) (path_of (lo' k) (hi' k))
        reached k l (yes e) = rw (e, d.lo-new, d.hi-new) (f.through hold' m keeps (leads-here d.held_new))
        reached k l (no e) =
            let i : k < m = omega arith in
            let way = t.reached k i in
            rw (d.lo-old k i, d.hi-old k i) (record { depth = way.depth; way = leads-kept t.known keeps k way.depth _ _ (bucket _ (slots k i) refl) way.way })

        old : (q : ℕ) → Spot o N under m q → Dec (q ≡ p) → hold' q ≤ suc m
        old q s (yes e) = rw (e, d.held_new) (omega arith)
        old q s (no e) = rw (d.held-old q s e) (omega (arith, t.known q s))

        linked : (q k s : ℕ) → k < suc m → s < 2 → q ≡ under k + s → Dec (k ≡ m) → hold' q ≤ suc m
        linked q k s l g e (yes i) = rw (e, i, d.links-new s g) (omega arith)
        linked q k s l g e (no i) = old q (link k s (omega arith) g e) (ℕ_discrete q p)

        known : (q : ℕ) → Spot o N under (suc m) q → hold' q ≤ suc m
        known q (bucket h l e) = old q (bucket h l e) (ℕ_discrete q p)
        known q (link k s l g e) = linked q k s l g e (ℕ_discrete k m)

        later : (k s : ℕ) → k < suc m → s < 2 → Dec (k ≡ m) → Dec (under k + s ≡ p) → hold' (under k + s) ≢ 0 → suc k < hold' (under k + s)
        later k s l g (yes e) c h = absurd (h (ap (λ (z : ℕ). hold' (under z + s)) e ∙ d.links-new s g))
        later k s l g (no e) (yes c) h = rw (c, d.held_new) (omega arith)
        later k s l g (no e) (no c) h =
            let q : hold' (under k + s) ≡ hold (under k + s) = d.held-old (under k + s) (link k s (omega arith) g refl) c in
            rw q (t.later k s (omega arith) g (λ z. h (q ∙ z)))

-- no side at all
module _ {o N : ℕ} (hold : ℕ → ℕ) {under : ℕ → ℕ} (empty : (h : ℕ) → h < N → hold (o + h) ≡ 0) where
  none-known : (q : ℕ) → Spot o N under 0 q → hold q ≤ 0
  none-known q (bucket h l e) = rw (e, empty h l) (omega arith)
  none-known q (link k s l g e) = absurd (omega arith)

  pub no-trees : {lo hi : ℕ → ℕ} → Trees o N lo hi hold under 0
  no-trees = record { reached = λ k l. absurd (omega arith); known = none-known; later = λ k s l g. absurd (omega arith) }

-- ---- a side's place in the list

pub length_pairs : (lo hi : ℕ → ℕ) (m : ℕ) → length (pairs lo hi m) ≡ m
unfolding pairs
length_pairs lo hi zero = refl
length_pairs lo hi (suc k) = length-append (pairs lo hi k) (side (lo k) (hi k) ∷ []) ∙ omega (arith, length_pairs lo hi k)

pub pair-at : (lo hi : ℕ → ℕ) (m k : ℕ) → k < m → get_or (pairs lo hi m) k (side 0 0) ≡ side (lo k) (hi k)
unfolding pairs
pair-at lo hi zero k h = absurd (omega arith)
pair-at lo hi (suc j) k h = go (ℕ_discrete k j) (pair-at lo hi j k)
  where
    go : Dec (k ≡ j) → (k < j → get_or (pairs lo hi j) k (side 0 0) ≡ side (lo k) (hi k)) → get_or (pairs lo hi j ++ (side (lo j) (hi j) ∷ [])) k (side 0 0) ≡ side (lo k) (hi k)
    go (yes e) ih =
        let z : k ≡ length (pairs lo hi j) = omega (arith, length_pairs lo hi j) in
        rw z (get_or-append_seam (pairs lo hi j) (side (lo j) (hi j)) [] (side 0 0)) ∙ ap (λ (i : ℕ). side (lo i) (hi i)) (sym e)
    go (no e) ih = get_or-append (pairs lo hi j) (side (lo j) (hi j) ∷ []) (side 0 0) k (omega (arith, length_pairs lo hi j)) ∙ ih (omega arith)

pub index-here : (lo hi : ℕ → ℕ) (m a b k : ℕ) → Numbered (pairs lo hi m) → k < m → lo k ≡ a → hi k ≡ b → index_in (side a b) (pairs lo hi m) ≡ some k
index-here lo hi m a b k n l u v = rw (pair-at lo hi m k l ∙ ap₂ side u v) at (n k (omega (arith, length_pairs lo hi m)))

pub index-nowhere : (lo hi : ℕ → ℕ) (a b m : ℕ) → ((k : ℕ) → k < m → lo k ≡ a → hi k ≡ b → ⊥) → index_in (side a b) (pairs lo hi m) ≡ none
unfolding pairs index_in
index-nowhere lo hi a b zero h = refl
index-nowhere lo hi a b (suc k) h =
    index-out (side a b) (side (lo k) (hi k)) (pairs lo hi k) (index-nowhere lo hi a b k (λ j l. h j (omega arith))) (λ e. let u : lo k ≡ a = cc in let v : hi k ≡ b = cc in h k (omega arith) u v)

-- ---- a walk under way: at position p, which holds `at`, with r left of its path

pub record Going (o N : ℕ) (lo hi hold under : ℕ → ℕ) (m a b p r : ℕ) (at : Maybe ℕ) : Type 0 where
  pub trees : Trees o N lo hi hold under m
  pub numbered : Numbered (pairs lo hi m)
  pub walk : Walk o N lo hi hold under m a b p r
  pub here : one_more (place at) ≡ hold p

-- what is left to walk, at a position that may hold a side
abbrev pub left_at : ℕ → Maybe ℕ → ℕ
left_at m at = left_over m (one_more (place at))

module _ {o N : ℕ} {lo hi hold under : ℕ → ℕ} {m a b : ℕ} where
  pub going_start : {h p r : ℕ} {at : Maybe ℕ} → Trees o N lo hi hold under m → Numbered (pairs lo hi m) → (h ≡ slot_of N a b) × (h < N) → p ≡ o + h → r ≡ path_of a b → one_more (place at) ≡ hold p
      → Going o N lo hi hold under m a b p r at
  going_start t n e i j k = record { trees = t; numbered = n; walk = walk_start t e i j; here = k }

  module _ {p r : ℕ} {at : Maybe ℕ} (g : Going o N lo hi hold under m a b p r at) where
    module _ {k : ℕ} (h : at ≡ Some k) where
      holds : hold p ≡ suc k
      holds = sym g.here ∙ ap (λ (x : Maybe ℕ). one_more (place x)) h

      pub going-in : k < m
      going-in = omega (arith, holds, walk-known g.trees g.walk)

      -- another side stands here: the walk goes on, to a later side
      pub going_on : (eqb (lo k) a && eqb (hi k) b) ≡ false → {at' : Maybe ℕ} → one_more (place at') ≡ hold (under k + r % 2)
          → Going o N lo hi hold under m a b (under k + r % 2) (r / 2) at' × (left_at m at' < left_at m at)
      going_on miss {at'} e =
          let i : hold p - 1 ≡ k = omega (arith, holds) in
          let on = walk-on g.trees g.walk (λ z. let f : suc k ≡ 0 = sym holds ∙ z in omega arith) (rw i (same_not (lo k) (hi k) a b miss)) in
          let walk : Walk o N lo hi hold under m a b (under k + r % 2) (r / 2) = rw i at on in (
            record { trees = g.trees; numbered = g.numbered; walk = walk; here = e },
            walk-less g.trees k r (g.here ∙ holds) going-in e,
          )

      pub going-found : (eqb (lo k) a && eqb (hi k) b) ≡ true → Walked o N lo hi hold under m a b (Some k) p
      going-found hit =
          let both = same-both (lo k) (hi k) a b hit in
          record {
            number = sym (index-here lo hi m a b k g.numbered going-in both.0 both.1);
            few = going-in;
            spot = g.walk.spot;
            free = λ z. cc;
          }

    pub going-none : at ≡ None → Walked o N lo hi hold under m a b at p
    going-none z =
        let i : hold p ≡ 0 = sym g.here ∙ ap (λ (x : Maybe ℕ). one_more (place x)) z in
        record {
          number = ap place z ∙ sym (index-nowhere lo hi a b m (walk_none g.trees g.walk i));
          few = rw z tt;
          spot = g.walk.spot;
          free = λ y. walk-free g.trees g.walk i;
        }

-- ---- lists of sides that grow as sides are met

-- a number stays as more sides are met
pub met-keeps : (l : List Side) (s t : Side) (k : ℕ) → index_in s l ≡ some k → index_in s (met l t) ≡ some k
met-keeps l s t k h = go (find t l)
  where
    go : Found t l → index_in s (met l t) ≡ some k
    go (found j f) = rw (met-old l t j f) h
    go (missing f) = rw (met-new l t f) (index-keep s l (t ∷ []) k h)

pub met-longer : (l : List Side) (s : Side) → length l ≤ length (met l s)
met-longer l s = go (find s l)
  where
    go : Found s l → length l ≤ length (met l s)
    go (found j f) = rw (met-old l s j f) (omega arith)
    go (missing f) = rw (met-new l s f) (omega (arith, length-append l (s ∷ [])))

pub pairs-most : (lo hi lo' hi' : ℕ → ℕ) (m m' : ℕ) (s : Side) → pairs lo' hi' m' ≡ met (pairs lo hi m) s → m ≤ m'
pairs-most lo hi lo' hi' m m' s e = omega (arith, met-longer (pairs lo hi m) s, ap length e, length_pairs lo hi m, length_pairs lo' hi' m')

-- the three sides of a triangle are met, one after the other
pub three-met : (l : List Side) {l₁ l₂ l₃ : List Side} {p q r : ℕ} (a b c : ℕ) → l₁ ≡ met l (key a b) → l₂ ≡ met l₁ (key b c) → l₃ ≡ met l₂ (key c a)
    → index_in (key a b) l₁ ≡ some p → index_in (key b c) l₂ ≡ some q → index_in (key c a) l₃ ≡ some r → (l₃ ≡ met_all l (sides (tri a b c))) × NumbersOf (tri a b c) l₃ p q r
unfolding met_all
three-met l {l₁} {l₂} {l₃} {p} {q} {r} a b c x y z h i j =
    let p₂ : index_in (key a b) l₂ ≡ some p = rw y (met-keeps l₁ (key a b) (key b c) p h) in
    (z ∙ rw (y, x), (rw z (met-keeps l₂ (key a b) (key c a) p p₂), rw z (met-keeps l₂ (key b c) (key c a) q i), j))
