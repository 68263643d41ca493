-- A table of sides in one slice: what the stores of a new side do to it, and what a side that is met, or three, comes to. Assumes nothing.
use Prim.Native.Nat.{ℕ, zero, suc, ◌+◌, ◌-◌, ◌*◌, ◌%◌, ◌^◌, ◌≤◌, ◌<◌}
use native.Mathlib.Omega.{arith}
use native.Mathlib.Decide.{ℕ_discrete}
use native.Mathlib.Numerals.{add-one}
use native.Mathlib.Nat.{mod-lt}
use mathlib.Core.Path.{◌≡◌, refl, sym, ap, ◌∙◌, subst}
use mathlib.Core.Logic.{◌≢◌, ◌⊎◌, inl, inr}
use mathlib.Core.Bool.{cond}
use mathlib.Core.List.{List, [], ◌∷◌, ◌++◌}
use mathlib.Core.Option.{none, some}
use Rattle.std.specs.Prelude.{Option as Maybe}
use Rattle.std.specs.Prelude.{None, Some}
use lib.Dec.{ltb}
use lib.ListN.{length, get_or, set, length-set, replicate}
use lib.Seq.{get_or-set_same, get_or-set_other, sets, length-sets}
use borrow.Author.Tests.{lt-ltb, le-ltb}
use Rattle.mesh.specs.Mesh.{Side, side, key, tri, index_in, met}
use Rattle.slices.proofs.Runs.{sets-before}
use Rattle.mesh.proofs.Cuts.{index-end, met-old, met-new, met-numbered}
use Rattle.edges.specs.Table.{slot_of, pairs, place, Spot, bucket, link, Trees, hold_of, lo_of, hi_of, under_of, sides_in, Held, WalkedIn, Outside, Met, MetTri}
use Rattle.edges.proofs.Tree.{Put, trees-more, no-trees, new-pairs, length_pairs, pairs-most, three-met}

-- the bucket of a side is one of the N
pub slot-below : (N a b : ℕ) → 0 < N → slot_of N a b < N
unfolding slot_of
slot-below N a b h = go (ℕ_discrete (N - a) 0)
  where
    go : Dec (N - a ≡ 0) → cond (ltb a N) a (a % N) < N
    go (yes e) = rw (le-ltb a N (omega arith)) (mod-lt a h)
    go (no e) = rw (lt-ltb a N (omega arith)) (omega arith)

-- a position stands before the row of the next side, at none of its rows' ends
spot-apart : {o N m q : ℕ} → Spot o N (under_of o N) m q → (o ≤ q) × ((q < o + N + 4 * m) × ((k : ℕ) → (q ≢ o + N + 4 * k) × (q ≢ o + N + 4 * k + 1)))
spot-apart (bucket h l e) = (omega arith, (omega arith, λ k. (λ z. omega arith, λ z. omega arith)))
spot-apart (link k s l g e) = (omega arith, (omega arith, λ j. (λ z. omega arith, λ z. omega arith)))

pub spot_in : {o N m q : ℕ} → Spot o N (under_of o N) m q → (o ≤ q) × (q < o + N + 4 * m)
spot_in s = ((spot-apart s).0, (spot-apart s).1.0)

-- w after the five stores of a side at place m: its ends, two empty links, and its number at position p
abbrev pub stored : ℕ → ℕ → List ℕ → ℕ → ℕ → ℕ → ℕ → List ℕ
stored o N w m a b p = set (set (set (set (set w (o + N + 4 * m) a) (o + N + 4 * m + 1) b) (o + N + 4 * m + 2) 0) (o + N + 4 * m + 3) 0) p (m + 1)

module _ (o N : ℕ) (w : List ℕ) (m a b p : ℕ) (spot : Spot o N (under_of o N) m p) (room : o + N + 4 * m + 4 ≤ length w) where
  w₁ : List ℕ
  w₁ = set w (o + N + 4 * m) a

  w₂ : List ℕ
  unfolding w₁
  w₂ = set w₁ (o + N + 4 * m + 1) b

  w₃ : List ℕ
  unfolding w₂
  w₃ = set w₂ (o + N + 4 * m + 2) 0

  w₄ : List ℕ
  unfolding w₃
  w₄ = set w₃ (o + N + 4 * m + 3) 0

  len₁ : length w₁ ≡ length w
  unfolding w₁
  len₁ = length-set w (o + N + 4 * m) a

  len₂ : length w₂ ≡ length w
  unfolding w₂
  len₂ = length-set w₁ (o + N + 4 * m + 1) b ∙ len₁

  len₃ : length w₃ ≡ length w
  unfolding w₃
  len₃ = length-set w₂ (o + N + 4 * m + 2) 0 ∙ len₂

  len₄ : length w₄ ≡ length w
  unfolding w₄
  len₄ = length-set w₃ (o + N + 4 * m + 3) 0 ∙ len₃

  pub stored-length : length (stored o N w m a b p) ≡ length w
  unfolding w₄
  stored-length = length-set w₄ p (m + 1) ∙ len₄

  below : p < o + N + 4 * m
  below = (spot-apart spot).1.0

  pub elsewhere : (j : ℕ) → j ≢ p → (j < o + N + 4 * m) ⊎ (o + N + 4 * m + 4 ≤ j) → get_or (stored o N w m a b p) j 0 ≡ get_or w j 0
  unfolding w₄
  elsewhere j n r =
      get_or-set_other w₄ p j (m + 1) 0 n ∙ get_or-set_other w₃ (o + N + 4 * m + 3) j 0 0 (apart 3 (omega arith)) ∙ get_or-set_other w₂ (o + N + 4 * m + 2) j 0 0 (apart 2 (omega arith))
      ∙ get_or-set_other w₁ (o + N + 4 * m + 1) j b 0 (apart 1 (omega arith)) ∙ get_or-set_other w (o + N + 4 * m) j a 0 (apart₀ r)
    where
      apart₀ : (j < o + N + 4 * m) ⊎ (o + N + 4 * m + 4 ≤ j) → j ≢ o + N + 4 * m
      apart₀ (inl h) e = omega arith
      apart₀ (inr h) e = omega arith

      apart : (s : ℕ) → s < 4 → j ≢ o + N + 4 * m + s
      apart s h e = go r
        where
          go : (j < o + N + 4 * m) ⊎ (o + N + 4 * m + 4 ≤ j) → ⊥
          go (inl l) = omega arith
          go (inr l) = omega arith

  at-lo : get_or (stored o N w m a b p) (o + N + 4 * m) 0 ≡ a
  unfolding w₄
  at-lo =
      get_or-set_other w₄ p (o + N + 4 * m) (m + 1) 0 (omega (arith, below)) ∙ get_or-set_other w₃ (o + N + 4 * m + 3) (o + N + 4 * m) 0 0 (omega arith)
      ∙ get_or-set_other w₂ (o + N + 4 * m + 2) (o + N + 4 * m) 0 0 (omega arith) ∙ get_or-set_other w₁ (o + N + 4 * m + 1) (o + N + 4 * m) b 0 (omega arith)
      ∙ get_or-set_same w (o + N + 4 * m) a 0 (omega arith)

  at-hi : get_or (stored o N w m a b p) (o + N + 4 * m + 1) 0 ≡ b
  unfolding w₄
  at-hi =
      get_or-set_other w₄ p (o + N + 4 * m + 1) (m + 1) 0 (omega (arith, below)) ∙ get_or-set_other w₃ (o + N + 4 * m + 3) (o + N + 4 * m + 1) 0 0 (omega arith)
      ∙ get_or-set_other w₂ (o + N + 4 * m + 2) (o + N + 4 * m + 1) 0 0 (omega arith) ∙ get_or-set_same w₁ (o + N + 4 * m + 1) b 0 (omega (arith, len₁))

  at-link : (s : ℕ) → s < 2 → get_or (stored o N w m a b p) (under_of o N m + s) 0 ≡ 0
  unfolding w₄
  at-link zero h =
      let e : under_of o N m + 0 ≡ o + N + 4 * m + 2 = omega arith in
      rw e (get_or-set_other w₄ p (o + N + 4 * m + 2) (m + 1) 0 (omega (arith, below)) ∙ get_or-set_other w₃ (o + N + 4 * m + 3) (o + N + 4 * m + 2) 0 0 (omega arith)
      ∙ get_or-set_same w₂ (o + N + 4 * m + 2) 0 0 (omega (arith, len₂)))
  at-link (suc zero) h =
      let e : under_of o N m + 1 ≡ o + N + 4 * m + 3 = omega arith in
      rw e (get_or-set_other w₄ p (o + N + 4 * m + 3) (m + 1) 0 (omega (arith, below)) ∙ get_or-set_same w₃ (o + N + 4 * m + 3) 0 0 (omega (arith, len₃)))
  at-link (suc (suc s)) h = absurd (omega arith)

  at_position : get_or (stored o N w m a b p) p 0 ≡ m + 1
  unfolding w₄
  at_position = get_or-set_same w₄ p (m + 1) 0 (omega (arith, len₄, below))

  put : Put o N (lo_of o N w) (hi_of o N w) (hold_of w) (lo_of o N (stored o N w m a b p)) (hi_of o N (stored o N w m a b p)) (hold_of (stored o N w m a b p)) (under_of o N) m a b p
  put = record {
    lo-old = λ k h. elsewhere (o + N + 4 * k) (λ z. ((spot-apart spot).1.1 k).0 (sym z)) (inl (omega arith));
    hi-old = λ k h. elsewhere (o + N + 4 * k + 1) (λ z. ((spot-apart spot).1.1 k).1 (sym z)) (inl (omega arith));
    lo-new = at-lo;
    hi-new = at-hi;
    held-old = λ q s n. elsewhere q n (inl (spot-apart s).1.0);
    held_new = at_position ∙ add-one m;
    links-new = at-link;
  }

  stored-outside : Outside o N w (m + 1) (stored o N w m a b p)
  stored-outside = record {
    same = stored-length;
    before = λ j q. elsewhere j (omega (arith, (spot-apart spot).0)) (inl (omega arith));
    behind = λ j q. elsewhere j (omega (arith, below)) (inr (omega arith));
  }

-- ---- a side is met

module _ {o N : ℕ} {w : List ℕ} {m p : ℕ} {at : Maybe ℕ} (a b : ℕ) (t : Held o N w m) (k : WalkedIn o N w m a b at p) where
  pub met-found : {n : ℕ} → at ≡ Some n → Met o N w m w m n (side a b)
  met-found h =
      let q = sym k.number ∙ ap place h in
      record {
        held = t;
        now-met = sym (met-old (sides_in o N w m) (side a b) _ q);
        number = q;
        more = omega arith;
        outside = record { same = refl; before = λ j l. refl; behind = λ j l. refl };
      }

  pub met-added : at ≡ None → o + N + 4 * m + 4 ≤ length w → Met o N w m (stored o N w m a b p) (m + 1) m (side a b)
  met-added z room =
      let w' = stored o N w m a b p in
      let d = put o N w m a b p k.spot room in
      let out : index_in (side a b) (sides_in o N w m) ≡ none = sym k.number ∙ ap place z in
      let new : sides_in o N w' (m + 1) ≡ sides_in o N w m ++ (side a b ∷ []) = ap (pairs (lo_of o N w') (hi_of o N w')) (add-one m) ∙ new-pairs d in
      let now : sides_in o N w' (m + 1) ≡ met (sides_in o N w m) (side a b) = new ∙ sym (met-new (sides_in o N w m) (side a b) out) in
      record {
        held = record {
          buckets = t.buckets;
          narrow = t.narrow;
          room = omega (arith, stored-length o N w m a b p k.spot room);
          trees = subst (Trees o N (lo_of o N w') (hi_of o N w') (hold_of w') (under_of o N)) (sym (add-one m)) (trees-more d t.trees (k.free z) (λ j l. slot-below N _ _ t.buckets));
          numbered = rw now (met-numbered (sides_in o N w m) (side a b) t.numbered);
        };
        now-met = now;
        number = rw new (index-end (side a b) (sides_in o N w m) out ∙ ap some (length_pairs (lo_of o N w) (hi_of o N w) m));
        more = omega arith;
        outside = stored-outside o N w m a b p k.spot room;
      }

outside-more : {o N : ℕ} {w w₁ w₂ : List ℕ} {m₁ m₂ : ℕ} → m₁ ≤ m₂ → Outside o N w m₁ w₁ → Outside o N w₁ m₂ w₂ → Outside o N w m₂ w₂
outside-more h p q = record {
  same = q.same ∙ p.same;
  before = λ j l. q.before j l ∙ p.before j l;
  behind = λ j l. q.behind j l ∙ p.behind j (omega arith);
}

met-most : {o N : ℕ} {w w' : List ℕ} {m m' k : ℕ} {s : Side} → Met o N w m w' m' k s → m ≤ m'
met-most {o} {N} {w} {w'} {m} {m'} {k} {s} t = pairs-most (lo_of o N w) (hi_of o N w) (lo_of o N w') (hi_of o N w') m m' s t.now-met

pub met-three : {o N : ℕ} {w w₁ w₂ w₃ : List ℕ} {m m₁ m₂ m₃ p q r : ℕ} (a b c : ℕ) → Met o N w m w₁ m₁ p (key a b) → Met o N w₁ m₁ w₂ m₂ q (key b c) → Met o N w₂ m₂ w₃ m₃ r (key c a)
    → MetTri o N w m w₃ m₃ p q r (tri a b c)
met-three {o} {N} {w} {m = m} a b c x y z =
    let now = three-met (sides_in o N w m) a b c x.now-met y.now-met z.now-met x.number y.number z.number in
    record {
      held = z.held;
      now-met = now.0;
      numbers = now.1;
      more = omega (arith, x.more, y.more, z.more);
      most = omega (arith, met-most x, met-most y, met-most z);
      outside = outside-more (met-most z) (outside-more (met-most y) x.outside y.outside) z.outside;
    }

-- ---- an empty table

pub zeros-at : (l : List ℕ) (i k j : ℕ) → i + k ≤ length l → j < k → get_or (sets l i (replicate k 0)) (i + j) 0 ≡ 0
zeros-at l i zero j r h = absurd (omega arith)
zeros-at l i (suc k) zero r h =
    let e : i + 0 ≡ i = omega arith in
    rw e (sets-before (set l i 0) (suc i) (replicate k 0) i 0 (omega arith) ∙ get_or-set_same l i 0 0 (omega arith))
zeros-at l i (suc k) (suc j) r h =
    let e : i + suc j ≡ suc i + j = omega arith in
    rw e (zeros-at (set l i 0) (suc i) k j (omega (arith, length-set l i 0)) (omega arith))

pub empty-held : (o N : ℕ) (w : List ℕ) → (0 < N) × (N ≤ 2 ^ 32) → o + N ≤ length w → Held o N (sets w o (replicate N 0)) 0
unfolding pairs
empty-held o N w b r = record {
  buckets = b.0;
  narrow = b.1;
  room = omega (arith, length-sets w o (replicate N 0));
  trees = no-trees (hold_of (sets w o (replicate N 0))) (λ h l. zeros-at w o N h r l);
  numbered = λ k l. absurd (omega arith);
}
