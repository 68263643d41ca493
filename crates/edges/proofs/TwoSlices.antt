-- A table of sides in two slices: what the stores of a new side do to it, what a side that is met, or three, comes to, and where a table stays. The laws on
-- trees are those of proofs/Tree. Assumes nothing.
use Prim.Native.Nat.{ℕ, zero, suc, ◌+◌, ◌*◌, ◌≤◌, ◌<◌}
use native.Mathlib.Omega.{arith}
use native.Mathlib.Numerals.{add-one}
use mathlib.Core.Path.{◌≡◌, refl, sym, ap, ◌∙◌, subst}
use mathlib.Core.Logic.{◌≢◌}
use mathlib.Core.List.{List, [], ◌∷◌, ◌++◌}
use mathlib.Core.Option.{none, some}
use Rattle.std.specs.Prelude.{Option as Maybe}
use Rattle.std.specs.Prelude.{None, Some}
use lib.ListN.{length, get_or, set, length-set, replicate}
use lib.Seq.{get_or-set_same, get_or-set_other, sets, length-sets}
use Rattle.mesh.specs.Mesh.{Side, side, key, tri, index_in, met}
use Rattle.mesh.proofs.Cuts.{index-end, met-old, met-new, met-numbered}
use Rattle.edges.specs.Table.{pairs, place, Spot, bucket, link, Trees, hold_of}
use Rattle.edges.specs.TwoSlices.{lo_at, hi_at, under_at, sides_at, HeldInTwo, WalkedInTwo, OutsideInTwo, MetInTwo, MetTriInTwo}
use Rattle.edges.proofs.Tree.{Put, trees-more, trees-same, no-trees, new-pairs, length_pairs, pairs-most, three-met}
use Rattle.edges.proofs.Stored.{slot-below, zeros-at}

-- a position stands before the links of the next side
pub spot-within : {o N m q : ℕ} → Spot o N (under_at o N) m q → (o ≤ q) × (q < o + N + 2 * m)
spot-within (bucket h l e) = (omega arith, omega arith)
spot-within (link k s l g e) = (omega arith, omega arith)

-- ---- the stores of a side at place m: its ends; two empty links, and its number at position p

abbrev pub ends-stored : List ℕ → ℕ → ℕ → ℕ → List ℕ
ends-stored e m a b = set (set e (2 * m) a) (2 * m + 1) b

abbrev pub links-stored : ℕ → ℕ → List ℕ → ℕ → ℕ → List ℕ
links-stored o N w m p = set (set (set w (o + N + 2 * m) 0) (o + N + 2 * m + 1) 0) p (m + 1)

module _ (e : List ℕ) (m a b : ℕ) (room : 2 * m + 2 ≤ length e) where
  ends-long : length (ends-stored e m a b) ≡ length e
  ends-long = length-set (set e (2 * m) a) (2 * m + 1) b ∙ length-set e (2 * m) a

  ends-else : (j : ℕ) → j ≢ 2 * m → j ≢ 2 * m + 1 → get_or (ends-stored e m a b) j 0 ≡ get_or e j 0
  ends-else j p q = get_or-set_other (set e (2 * m) a) (2 * m + 1) j b 0 q ∙ get_or-set_other e (2 * m) j a 0 p

  ends-lo : lo_at (ends-stored e m a b) m ≡ a
  ends-lo = get_or-set_other (set e (2 * m) a) (2 * m + 1) (2 * m) b 0 (omega arith) ∙ get_or-set_same e (2 * m) a 0 (omega arith)

  ends-hi : hi_at (ends-stored e m a b) m ≡ b
  ends-hi = get_or-set_same (set e (2 * m) a) (2 * m + 1) b 0 (omega (arith, length-set e (2 * m) a))

module _ (o N : ℕ) (w : List ℕ) (m p : ℕ) (spot : Spot o N (under_at o N) m p) (room : o + N + 2 * m + 2 ≤ length w) where
  w₁ : List ℕ
  w₁ = set w (o + N + 2 * m) 0

  w₂ : List ℕ
  unfolding w₁
  w₂ = set w₁ (o + N + 2 * m + 1) 0

  len₁ : length w₁ ≡ length w
  unfolding w₁
  len₁ = length-set w (o + N + 2 * m) 0

  len₂ : length w₂ ≡ length w
  unfolding w₂
  len₂ = length-set w₁ (o + N + 2 * m + 1) 0 ∙ len₁

  links-long : length (links-stored o N w m p) ≡ length w
  unfolding w₂
  links-long = length-set w₂ p (m + 1) ∙ len₂

  links-else : (j : ℕ) → j ≢ p → j ≢ o + N + 2 * m → j ≢ o + N + 2 * m + 1 → get_or (links-stored o N w m p) j 0 ≡ get_or w j 0
  unfolding w₂
  links-else j n q r = get_or-set_other w₂ p j (m + 1) 0 n ∙ get_or-set_other w₁ (o + N + 2 * m + 1) j 0 0 r ∙ get_or-set_other w (o + N + 2 * m) j 0 0 q

  links-new : (s : ℕ) → s < 2 → get_or (links-stored o N w m p) (under_at o N m + s) 0 ≡ 0
  unfolding w₂
  links-new zero h =
      let z : under_at o N m + 0 ≡ o + N + 2 * m = omega arith in
      rw z (get_or-set_other w₂ p (o + N + 2 * m) (m + 1) 0 (omega (arith, spot-within spot)) ∙ get_or-set_other w₁ (o + N + 2 * m + 1) (o + N + 2 * m) 0 0 (omega arith) ∙ get_or-set_same w (o + N + 2 * m) 0 0 (omega arith))
  links-new (suc zero) h = get_or-set_other w₂ p (o + N + 2 * m + 1) (m + 1) 0 (omega (arith, spot-within spot)) ∙ get_or-set_same w₁ (o + N + 2 * m + 1) 0 0 (omega (arith, len₁))
  links-new (suc (suc s)) h = absurd (omega arith)

  links-at : get_or (links-stored o N w m p) p 0 ≡ m + 1
  unfolding w₂
  links-at = get_or-set_same w₂ p (m + 1) 0 (omega (arith, len₂, spot-within spot))

-- ---- a side is met

module _ {o N : ℕ} {e w : List ℕ} {m p : ℕ} {at : Maybe ℕ} (a b : ℕ) (t : HeldInTwo o N e w m) (k : WalkedInTwo o N e w m a b at p) where
  pub met-found : {n : ℕ} → at ≡ Some n → MetInTwo o N e w m e w m n (side a b)
  met-found h =
      let q = sym k.number ∙ ap place h in
      record {
        held = t;
        now-met = sym (met-old (sides_at e m) (side a b) _ q);
        number = q;
        more = omega arith;
        outside = record { same_ends = refl; same = refl; ends-behind = λ j l. refl; before = λ j l. refl; behind = λ j l. refl };
      }

  pub met-added : at ≡ None → 2 * m + 2 ≤ length e → o + N + 2 * m + 2 ≤ length w → MetInTwo o N e w m (ends-stored e m a b) (links-stored o N w m p) (m + 1) m (side a b)
  met-added z room room' =
      let e' = ends-stored e m a b in
      let w' = links-stored o N w m p in
      let d : Put o N (lo_at e) (hi_at e) (hold_of w) (lo_at e') (hi_at e') (hold_of w') (under_at o N) m a b p = record {
        lo-old = λ j h. ends-else e m a b room (2 * j) (omega arith) (omega arith);
        hi-old = λ j h. ends-else e m a b room (2 * j + 1) (omega arith) (omega arith);
        lo-new = ends-lo e m a b room;
        hi-new = ends-hi e m a b room;
        held-old = λ q s n. links-else o N w m p k.spot room' q n (omega (arith, spot-within s)) (omega (arith, spot-within s));
        held_new = links-at o N w m p k.spot room' ∙ add-one m;
        links-new = links-new o N w m p k.spot room';
      } in
      let out : index_in (side a b) (sides_at e m) ≡ none = sym k.number ∙ ap place z in
      let new : sides_at e' (m + 1) ≡ sides_at e m ++ (side a b ∷ []) = ap (pairs (lo_at e') (hi_at e')) (add-one m) ∙ new-pairs d in
      let now : sides_at e' (m + 1) ≡ met (sides_at e m) (side a b) = new ∙ sym (met-new (sides_at e m) (side a b) out) in
      record {
        held = record {
          buckets = t.buckets;
          ends-in = omega (arith, ends-long e m a b room);
          links-in = omega (arith, links-long o N w m p k.spot room');
          trees = subst (Trees o N (lo_at e') (hi_at e') (hold_of w') (under_at o N)) (sym (add-one m)) (trees-more d t.trees (k.free z) (λ j l. slot-below N _ _ t.buckets));
          numbered = rw now (met-numbered (sides_at e m) (side a b) t.numbered);
        };
        now-met = now;
        number = rw new (index-end (side a b) (sides_at e m) out ∙ ap some (length_pairs (lo_at e) (hi_at e) m));
        more = omega arith;
        outside = record {
          same_ends = ends-long e m a b room;
          same = links-long o N w m p k.spot room';
          ends-behind = λ j l. ends-else e m a b room j (omega arith) (omega arith);
          before = λ j l. links-else o N w m p k.spot room' j (omega (arith, spot-within k.spot)) (omega arith) (omega arith);
          behind = λ j l. links-else o N w m p k.spot room' j (omega (arith, spot-within k.spot)) (omega arith) (omega arith);
        };
      }

outside-more : {o N : ℕ} {e w e₁ w₁ e₂ w₂ : List ℕ} {m₁ m₂ : ℕ} → m₁ ≤ m₂ → OutsideInTwo o N e w m₁ e₁ w₁ → OutsideInTwo o N e₁ w₁ m₂ e₂ w₂ → OutsideInTwo o N e w m₂ e₂ w₂
outside-more h p q = record {
  same_ends = q.same_ends ∙ p.same_ends;
  same = q.same ∙ p.same;
  ends-behind = λ j l. q.ends-behind j l ∙ p.ends-behind j (omega arith);
  before = λ j l. q.before j l ∙ p.before j l;
  behind = λ j l. q.behind j l ∙ p.behind j (omega arith);
}

met-most : {o N : ℕ} {e w e' w' : List ℕ} {m m' k : ℕ} {s : Side} → MetInTwo o N e w m e' w' m' k s → m ≤ m'
met-most {e = e} {e' = e'} {m = m} {m'} {k} {s} t = pairs-most (lo_at e) (hi_at e) (lo_at e') (hi_at e') m m' s t.now-met

pub met-three : {o N : ℕ} {e w e₁ w₁ e₂ w₂ e₃ w₃ : List ℕ} {m m₁ m₂ m₃ p q r : ℕ} (a b c : ℕ)
    → MetInTwo o N e w m e₁ w₁ m₁ p (key a b) → MetInTwo o N e₁ w₁ m₁ e₂ w₂ m₂ q (key b c) → MetInTwo o N e₂ w₂ m₂ e₃ w₃ m₃ r (key c a)
    → MetTriInTwo o N e w m e₃ w₃ m₃ p q r (tri a b c)
met-three {e = e} {m = m} a b c x y z =
    let now = three-met (sides_at e m) a b c x.now-met y.now-met z.now-met x.number y.number z.number in
    record {
      held = z.held;
      now-met = now.0;
      numbers = now.1;
      more = omega (arith, x.more, y.more, z.more);
      most = omega (arith, met-most x, met-most y, met-most z);
      outside = outside-more (met-most z) (outside-more (met-most y) x.outside y.outside) z.outside;
    }

-- ---- an empty table, and one whose cells stay

pub empty-apart : (o N : ℕ) (e w : List ℕ) → 0 < N → o + N ≤ length w → HeldInTwo o N e (sets w o (replicate N 0)) 0
unfolding pairs
empty-apart o N e w b r = record {
  buckets = b;
  ends-in = omega arith;
  links-in = omega (arith, length-sets w o (replicate N 0));
  trees = no-trees (hold_of (sets w o (replicate N 0))) (λ h l. zeros-at w o N h r l);
  numbered = λ k l. absurd (omega arith);
}

pub held-still : {o N : ℕ} {e w w' : List ℕ} {m : ℕ} → ((j : ℕ) → o ≤ j → j < o + N + 2 * m → get_or w' j 0 ≡ get_or w j 0) → length w' ≡ length w → HeldInTwo o N e w m → HeldInTwo o N e w' m
held-still {N = N} same len t = record {
  buckets = t.buckets;
  ends-in = t.ends-in;
  links-in = omega (arith, t.links-in);
  trees = trees-same (λ k l. refl) (λ k l. refl) (λ q s. same q (spot-within s).0 (spot-within s).1) (λ k l. slot-below N _ _ t.buckets) t.trees;
  numbered = t.numbered;
}
