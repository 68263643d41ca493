-- The list of cut sides: it has the sides of the flagged triangles, each once, in the order first met, the lower end first. Assumes nothing.
use Prim.Native.Nat.{ℕ, ◌<◌}
use native.Mathlib.Nat.{not-suc-le-zero}
use native.Mathlib.Omega.{arith}
use mathlib.Core.Path.{◌≡◌, refl, sym, ap, ◌∙◌, subst}
use mathlib.Core.Logic.{◌≢◌, ◌↔◌, ⊎_elim}
use mathlib.Core.Bool.{Bool}
use mathlib.Core.List.{List, [], ◌∷◌, ◌++◌, append_assoc, append-nil}
use mathlib.Core.Option.{Option, none, some}
use lib.ListN.{length}
use Rattle.mesh.specs.Mesh.{Tri, tri, Side, key, index_in, met, met_all, marked, sides_after, cuts, Numbered, Good, All}
use Rattle.mesh.specs.Claim.{listed, FirstMet, LowerFirst, TwoEnds, InRange, CutSides}
use Rattle.mesh.proofs.Whole.{All-append}
use Rattle.mesh.proofs.Cuts.{key-either, side-discrete, never, index_below, index-keep, index-out, index-end, met-new, met-old, Found, found, missing, find, met-numbered, marked_all}

-- ---- a list with one more side

one_place : (o : Option ℕ) (j k : ℕ) → o ≡ some j → o ≡ some k → j ≡ k
one_place o j k h g = cc

more-out : (s t : Side) (l : List Side) → (index_in s (l ++ (t ∷ [])) ≡ none) ↔ ((index_in s l ≡ none) × (s ≢ t))
more-out s t l = (λ e. go e (find s l), λ e. index-out s t l e.0 e.1)
  where
    go : index_in s (l ++ (t ∷ [])) ≡ none → Found s l → (index_in s l ≡ none) × (s ≢ t)
    go e (found k f) = never (index_in s (l ++ (t ∷ []))) k e (index-keep s l (t ∷ []) k f)
    go e (missing f) = (f, λ q. never (index_in s (l ++ (t ∷ []))) (length l) e (subst (λ (x : Side). index_in s (l ++ (x ∷ [])) ≡ some (length l)) q (index-end s l f)))

-- a side that is found is found before the last, or is the last
data Found-more (s t : Side) (l : List Side) (k : ℕ) : Type 0 where
  before : index_in s l ≡ some k → Found-more s t l k
  last : s ≡ t → k ≡ length l → Found-more s t l k

find-more : (s t : Side) (l : List Side) (k : ℕ) → index_in t l ≡ none → index_in s (l ++ (t ∷ [])) ≡ some k → Found-more s t l k
find-more s t l k out h = go (find s l)
  where
    go : Found s l → Found-more s t l k
    go (found j f) = before (f ∙ ap some (one_place (index_in s (l ++ (t ∷ []))) j k (index-keep s l (t ∷ []) j f) h))
    go (missing f) = end (side-discrete s t)
      where
        end : Dec (s ≡ t) → Found-more s t l k
        end (yes e) = last e (one_place (index_in s (l ++ (t ∷ []))) k (length l) h (rw e (index-end t l out)))
        end (no e) = never (index_in s (l ++ (t ∷ []))) k (index-out s t l f e) h

-- ---- in the order first met

module _ (all l : List Side) (t : Side) (h : FirstMet all l) where
  -- the side t is met again
  again : (k : ℕ) → index_in t l ≡ some k → FirstMet (all ++ (t ∷ [])) l
  again k here = record {
    same = λ s. (λ e. index-out s t all ((h.same s).0 e) (λ q. never (index_in s l) k e (rw q here)), λ o. (h.same s).1 ((more-out s t all).0 o).0);
    once = h.once;
    order = λ s u i j p q a b c d. h.order s u i j p q a b (still s i p a (find s all) c) (still u j q b (find u all) d);
  }
    where
      still : (s : Side) (j p : ℕ) → index_in s l ≡ some j → Found s all → index_in s (all ++ (t ∷ [])) ≡ some p → index_in s all ≡ some p
      still s j p e (found i f) c = f ∙ ap some (one_place (index_in s (all ++ (t ∷ []))) i p (index-keep s all (t ∷ []) i f) c)
      still s j p e (missing f) c = never (index_in s l) j ((h.same s).1 f) e

  -- the side t is met for the first time: it is later than all that stand in the list
  first : index_in t l ≡ none → FirstMet (all ++ (t ∷ [])) (l ++ (t ∷ []))
  first out = record {
    same = λ s. (
      λ e. let r = (more-out s t l).0 e in (more-out s t all).1 ((h.same s).0 r.0, r.1),
      λ e. let r = (more-out s t all).0 e in (more-out s t l).1 ((h.same s).1 r.0, r.1),
    );
    once = subst Numbered (met-new l t out) (met-numbered l t h.once);
    order = λ s u i j p q a b c d. ordered s u i j p q (find-more s t l i out a) (find-more s t all p none_before c) (find-more u t all q none_before d) (find-more u t l j out b);
  }
    where
      none_before : index_in t all ≡ none
      none_before = (h.same t).0 out

      ordered : (s u : Side) (i j p q : ℕ) → Found-more s t l i → Found-more s t all p → Found-more u t all q → Found-more u t l j → i < j → p < q
      ordered s u i j p q (before a) (before c) (before d) (before b) g = h.order s u i j p q a b c d g
      ordered s u i j p q (before a) (before c) (before d) (last e b) g = never (index_in t all) q none_before (rw (sym e) d)
      ordered s u i j p q (before a) (before c) (last e d) y g = let k = index_below s all p c in omega arith
      ordered s u i j p q (before a) (last e c) x y g = never (index_in t l) i out (rw (sym e) a)
      ordered s u i j p q (last e a) x y (before b) g = let k = index_below u l j b in absurd (omega arith)
      ordered s u i j p q (last e a) x y (last f b) g = absurd (omega arith)

met-more : (all l : List Side) (t : Side) → FirstMet all l → FirstMet (all ++ (t ∷ [])) (met l t)
met-more all l t h = go (find t l)
  where
    go : Found t l → FirstMet (all ++ (t ∷ [])) (met l t)
    go (found k f) = rw (met-old l t k f) (again all l t h k f)
    go (missing f) = rw (met-new l t f) (first all l t h f)

all-met : (all l ss : List Side) → FirstMet all l → FirstMet (all ++ ss) (met_all l ss)
unfolding met_all
all-met all l [] h = rw (append-nil all) h
all-met all l (s ∷ ss) h = subst (λ (x : List Side). FirstMet x (met_all (met l s) ss)) (append_assoc all (s ∷ []) ss) (all-met (all ++ (s ∷ [])) (met l s) ss (met-more all l s h))

none-met : FirstMet [] []
unfolding index_in
none-met = record { same = λ s. (λ e. e, λ e. e); once = λ k l. absurd (not-suc-le-zero l); order = λ s t j k p q a. never none j refl a }

-- the cut sides are the listed sides of the flagged triangles, met one after the other
after-listed : (l : List Side) (ts : List Tri) → sides_after l ts ≡ met_all l (listed ts)
unfolding sides_after met_all listed
after-listed l [] = refl
after-listed l (tri a b c ∷ ts) = after-listed (met (met (met l (key a b)) (key b c)) (key c a)) ts

cuts-listed : (f : Tri → Bool) (ts : List Tri) → cuts f ts ≡ met_all [] (listed (marked f ts))
unfolding cuts
cuts-listed f ts = after-listed [] (marked f ts)

pub cuts-met : (f : Tri → Bool) (ts : List Tri) → FirstMet (listed (marked f ts)) (cuts f ts)
cuts-met f ts = rw (cuts-listed f ts) (all-met [] [] (listed (marked f ts)) none-met)

-- ---- the ends

module _ (P : Side → Type 0) where
  met_all_lem : (l : List Side) (s : Side) → All P l → P s → All P (met l s)
  met_all_lem l s h k = go (find s l)
    where
      go : Found s l → All P (met l s)
      go (found j f) = rw (met-old l s j f) h
      go (missing f) = rw (met-new l s f) (All-append P l (s ∷ []) h (k, tt))

  all-all : (l ss : List Side) → All P l → All P ss → All P (met_all l ss)
  unfolding met_all
  all-all l [] h k = h
  all-all l (s ∷ ss) h k = all-all (met l s) ss (met_all_lem l s h k.0) k.1

  -- what holds of the three sides of each triangle holds of each cut side
  module _ (Q : Tri → Type 0) (each : (a b c : ℕ) → Q (tri a b c) → P (key a b) × P (key b c) × P (key c a)) where
    listed-all : (ts : List Tri) → All Q ts → All P (listed ts)
    unfolding listed
    listed-all [] h = tt
    listed-all (tri a b c ∷ ts) h = let e = each a b c h.0 in (e.0, (e.1, (e.2, listed-all ts h.1)))

    cuts-all : (f : Tri → Bool) (ts : List Tri) → All Q (marked f ts) → All P (cuts f ts)
    cuts-all f ts h = rw (cuts-listed f ts) (all-all [] (listed (marked f ts)) tt (listed-all (marked f ts) h))

key-lower : (n u v : ℕ) → u < n → v < n → LowerFirst n (key u v)
key-lower n u v hu hv = ⊎_elim (λ p. rw p.0 (omega (arith, p.1), hv)) (λ p. rw p.0 (p.1, hu)) (key-either u v)

key-two : (u v : ℕ) → u ≢ v → TwoEnds (key u v)
key-two u v ne = ⊎_elim (λ p. rw p.0 p.1) (λ p. rw p.0 (omega (arith, p.1))) (key-either u v)

two_ends : (n : ℕ) (f : Tri → Bool) (ts : List Tri) → All (Good n) (marked f ts) → All TwoEnds (cuts f ts)
two_ends n f ts = cuts-all TwoEnds (Good n) (λ a b c g. (key-two a b g.3, key-two b c g.4, key-two c a g.5)) f ts

pub good-ends : (n : ℕ) (f : Tri → Bool) (ts : List Tri) → All (Good n) ts → All TwoEnds (cuts f ts)
good-ends n f ts g = two_ends n f ts (marked_all (Good n) f ts g)

-- ---- the list

pub cut-sides : (n : ℕ) (f : Tri → Bool) (ts : List Tri) → All (InRange n) ts → CutSides n f ts (cuts f ts)
cut-sides n f ts g = record {
  met = cuts-met f ts;
  lower-first = cuts-all (LowerFirst n) (InRange n) (λ a b c g. (key-lower n a b g.0 g.1, key-lower n b c g.1 g.2, key-lower n c a g.2 g.0)) f ts (marked_all (InRange n) f ts g);
  two_ends = two_ends n f ts;
}
