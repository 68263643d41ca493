-- The pieces that marks give, stored from the last triangle to the first over the marks themselves: what is left to read stands before what is stored. And the
-- slice after that, told from the slice before the first mark was made. Assumes nothing.
use Prim.Native.Nat.{ℕ, zero, suc, ◌+◌, ◌*◌, ◌≤◌, ◌<◌}
use native.Mathlib.Omega.{arith}
use native.Mathlib.Numerals.{add-one}
use mathlib.Core.Path.{◌≡◌, refl, sym, ap, ◌∙◌}
use mathlib.Core.List.{List, [], ◌∷◌, ◌++◌, append-nil, append_assoc}
use mathlib.Core.Option.{Option, none, some}
use lib.ListN.{length, length-append, length-drop, get_or, set, drop}
use lib.Seq.{sets, length-sets, set_comm, ext_get_or, get_or-drop}
use Rattle.mesh.specs.Mesh.{Tri, Side, mid, refined}
use Rattle.slices.proofs.Runs.{sets-before}
use Rattle.edges.specs.Table.{one_more, one_less}
use Rattle.refinement.specs.Floor.{tris, corners_of}
use Rattle.refinement.proofs.Runs.{front}
use Rattle.refinement.proofs.Triangles.{corners-length, corners-append}
use Rattle.refinement.specs.Stored.{Stored}
use Rattle.refine_call.specs.Marks.{marked_by, split_at, split_to, MarksAt, MarksTo}
use Rattle.refine_call.proofs.Marking.{count_of}
use Rattle.refinement.proofs.Stands.{one_more_lem}

-- ---- two runs, the second stored first

set_first : {A : Type 0} (l : List A) (i j : ℕ) (x : A) (ys : List A) → i < j → set (sets l j ys) i x ≡ sets (set l i x) j ys
set_first l i j x [] h = refl
set_first {A} l i j x (y ∷ ys) h = set_first (set l j y) i (suc j) x ys (omega arith) ∙ ap (λ (z : List A). sets z (suc j) ys) (set_comm l j i y x (omega arith))

pub sets-prepend : {A : Type 0} (l : List A) (i j : ℕ) (xs ys : List A) → j ≡ i + length xs → sets (sets l j ys) i xs ≡ sets l i (xs ++ ys)
sets-prepend l i j [] ys e = let z : j ≡ i = omega arith in rw z refl
sets-prepend l i j (x ∷ xs) ys e = rw (set_first l i j x ys (omega arith)) (sets-prepend (set l i x) (suc i) j xs ys (omega arith))

-- ---- how many pieces

pub some-piece : (w l : List ℕ) (i : ℕ) → 1 ≤ length (split_at w l i)
some-piece w l i = omega (arith, count_of (get_or l (3 * i) 0) (get_or l (3 * i + 1) 0) (get_or l (3 * i + 2) 0) (get_or w (3 * i) 0) (get_or w (3 * i + 1) 0) (get_or w (3 * i + 2) 0))

pub split-least : (w l : List ℕ) (i : ℕ) → i ≤ length (split_to w l i)
unfolding split_to
split-least w l zero = omega arith
split-least w l (suc i) = omega (arith, length-append (split_to w l i) (split_at w l i), some-piece w l i, split-least w l i)

-- ---- the loop: the pieces of the triangles from i on stand behind k others

pub record SplitFrom (w₀ l : List ℕ) (t i : ℕ) (w : List ℕ) (k : ℕ) : Type 0 where
  pub rest : List Tri
  pub whole : split_to w₀ l t ≡ split_to w₀ l i ++ rest
  pub stands : w ≡ sets w₀ (3 * k) (corners_of rest)
  pub counted : k ≡ length (split_to w₀ l i)

pub split-start : (w l : List ℕ) (t k : ℕ) → k ≡ length (split_to w l t) → SplitFrom w l t t w k
unfolding corners_of
split-start w l t k e = record { rest = []; whole = sym (append-nil (split_to w l t)); stands = refl; counted = e }

module _ {w₀ l : List ℕ} {t j : ℕ} {w : List ℕ} {k : ℕ} (h : SplitFrom w₀ l t j w k) (i : ℕ) (next : j ≡ i + 1) where
  more : split_to w₀ l j ≡ split_to w₀ l i ++ split_at w₀ l i
  unfolding split_to
  more = rw (next, add-one i) refl

  many : k ≡ length (split_to w₀ l i) + length (split_at w₀ l i)
  many = h.counted ∙ ap length more ∙ length-append (split_to w₀ l i) (split_at w₀ l i)

  -- the marks of triangle i have not been written over
  cell : (n : ℕ) → n < 3 * i + 3 → get_or w n 0 ≡ get_or w₀ n 0
  cell n g = ap (λ (x : List ℕ). get_or x n 0) h.stands ∙ sets-before w₀ (3 * k) (corners_of h.rest) n 0 (omega (arith, many, split-least w₀ l i, some-piece w₀ l i))

  pub same-pieces : split_at w l i ≡ split_at w₀ l i
  same-pieces = rw (cell (3 * i) (omega arith), cell (3 * i + 1) (omega arith), cell (3 * i + 2) (omega arith)) refl

  pub split-room : length (split_at w l i) ≤ k
  split-room = rw same-pieces (omega (arith, many))

  pub split-on : {w' : List ℕ} {k' : ℕ} → k' + length (split_at w l i) ≡ k → w' ≡ sets w (3 * k') (corners_of (split_at w l i)) → SplitFrom w₀ l t i w' k'
  split-on {w'} {k'} e z =
      let new = split_at w₀ l i in
      let e' : k' + length new ≡ k = rw same-pieces at e in
      let behind : 3 * k ≡ 3 * k' + length (corners_of new) = omega (arith, corners-length new) in
      record {
        rest = new ++ h.rest;
        whole = h.whole ∙ ap (λ (x : List Tri). x ++ h.rest) more ∙ append_assoc (split_to w₀ l i) new h.rest;
        stands = (rw (same-pieces, h.stands) at z) ∙ sets-prepend w₀ (3 * k') (3 * k) (corners_of new) (corners_of h.rest) behind ∙ ap (sets w₀ (3 * k')) (sym (corners-append new h.rest));
        counted = omega (arith, many);
      }

pub split-bounds : {w₀ l : List ℕ} {t i : ℕ} {w : List ℕ} {k : ℕ} → SplitFrom w₀ l t i w k → (i ≤ k) × (k ≤ length (split_to w₀ l t))
split-bounds {w₀} {l} {t} {i} h = (omega (arith, h.counted, split-least w₀ l i), omega (arith, h.counted, ap length h.whole ∙ length-append (split_to w₀ l i) h.rest))

pub split-long : {w₀ l : List ℕ} {t i : ℕ} {w : List ℕ} {k : ℕ} → SplitFrom w₀ l t i w k → length w ≡ length w₀
split-long {w₀} {k = k} h = ap length h.stands ∙ length-sets w₀ (3 * k) (corners_of h.rest)

pub split_done : {w₀ l : List ℕ} {t i : ℕ} {w : List ℕ} {k : ℕ} → SplitFrom w₀ l t i w k → i ≡ 0 → w ≡ sets w₀ 0 (corners_of (split_to w₀ l t))
unfolding split_to
split_done {w₀} {l} {t} {i} {w} {k} h z =
    let none : k ≡ 0 = h.counted ∙ ap (λ (x : ℕ). length (split_to w₀ l x)) z in
    let all : split_to w₀ l t ≡ h.rest = h.whole ∙ ap (λ (x : ℕ). split_to w₀ l x ++ h.rest) z in
    h.stands ∙ rw (none, all) refl

-- ---- the pieces are those of the definition

one-less-one-more : (o : Option ℕ) → one_less (one_more o) ≡ o
one-less-one-more none = refl
one-less-one-more (some k) = refl

pub split-refined : (n : ℕ) (s : List Side) (l w : List ℕ) (t : ℕ) → ((j : ℕ) → j < t → MarksAt n s w l j) → split_to w l t ≡ refined (mid n s) (tris l t)
unfolding split_to tris
split-refined n s l w zero h = refl
split-refined n s l w (suc t) h =
    let m = h t (omega arith) in
    let p : one_less (get_or w (3 * t) 0) ≡ mid n s (get_or l (3 * t) 0) (get_or l (3 * t + 1) 0) = ap one_less m.0 ∙ one-less-one-more (mid n s (get_or l (3 * t) 0) (get_or l (3 * t + 1) 0)) in
    let q : one_less (get_or w (3 * t + 1) 0) ≡ mid n s (get_or l (3 * t + 1) 0) (get_or l (3 * t + 2) 0) = ap one_less m.1.0 ∙ one-less-one-more (mid n s (get_or l (3 * t + 1) 0) (get_or l (3 * t + 2) 0)) in
    let r : one_less (get_or w (3 * t + 2) 0) ≡ mid n s (get_or l (3 * t + 2) 0) (get_or l (3 * t) 0) = ap one_less m.1.1 ∙ one-less-one-more (mid n s (get_or l (3 * t + 2) 0) (get_or l (3 * t) 0)) in
    rw (split-refined n s l w t (λ j g. h j (omega arith)), p, q, r) (sym (rw add-one at (one_more_lem (mid n s) l t)))

-- ---- the slice told from another that is the same behind the run

pub drop-same : (n : ℕ) (a b : List ℕ) → length a ≡ length b → ((j : ℕ) → n ≤ j → get_or a j 0 ≡ get_or b j 0) → drop n a ≡ drop n b
drop-same n a b e h = ext_get_or 0 (drop n a) (drop n b) (length-drop n a ∙ rw e (sym (length-drop n b))) (λ i g. get_or-drop n a i 0 ∙ h (n + i) (omega arith) ∙ sym (get_or-drop n b i 0))

pub front_same : (new a b : List ℕ) → length new ≤ length a → length a ≡ length b → ((j : ℕ) → length new ≤ j → get_or a j 0 ≡ get_or b j 0) → sets a 0 new ≡ sets b 0 new
front_same new a b room e h = front a new room ∙ ap (λ (x : List ℕ). new ++ x) (drop-same (length new) a b e h) ∙ sym (front b new (omega arith))

pub refined-marked : {n : ℕ} {s : List Side} {l : List ℕ} {t : ℕ} {w w₁ w₂ : List ℕ} {k : ℕ} → 12 * t ≤ length w → MarksTo n s l t w w₁ k → w₂ ≡ sets w₁ 0 (corners_of (split_to w₁ l t))
    → Stored (refined (mid n s) (tris l t)) w 0 0 w₂ k × (t + 3 * length (marked_by w l t) ≤ k)
refined-marked {n} {s} {l} {t} {w} {w₁} {w₂} {k} room h e =
    let new = split_to w₁ l t in
    let is : new ≡ refined (mid n s) (tris l t) = split-refined n s l w₁ t h.marks in
    let long = corners-length new in (
      rw (sym is) (record {
        stands = e ∙ front_same (corners_of new) w₁ w (omega (arith, long, h.counted, h.most, h.same)) h.same (λ j g. h.ahead j (omega (arith, long, h.counted, split-least w₁ l t)));
        counted = omega (arith, h.counted);
      }),
      h.least,
    )
