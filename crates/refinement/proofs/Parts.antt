-- Triangles and sides in lists of numbers, one more at a time: the cut sides, the pieces and the midpoints of a list with one more triangle or side.
-- Assumes nothing.
use Prim.Native.Nat.{ℕ, ◌+◌, ◌-◌, ◌*◌, ◌≤◌}
use native.Mathlib.Omega.{arith}
use native.Mathlib.Numerals.{add-one}
use mathlib.Core.Path.{◌≡◌, refl, sym, ap, ◌∙◌}
use mathlib.Core.Bool.{Bool, true, false, cond}
use mathlib.Core.List.{List, [], ◌∷◌, ◌++◌, append-nil}
use mathlib.Core.Option.{Option, none, some}
use lib.ListN.{length, take, replicate, length-append}
use lib.Seq.{take-append_seam}
use Rattle.mesh.specs.Mesh.{Tri, tri, Side, sides, met_all, sides_after, cuts, marked, one, split, pieces, refined}
use Rattle.edges.specs.declared.Table.{Table}
use Rattle.edges.specs.Table.{MetTri, pairs}
use Rattle.refinement.specs.declared.Cut.{Cut}
use Rattle.refinement.specs.Floor.{tris, tri_at, corners_of}
use Rattle.refinement.specs.Steps.{having, HeldIn, CutStep, CutTo, rows_of, Rows}
use Rattle.refinement.proofs.Triangles.{corners-length}

-- ---- one more triangle

pub marked_more : (f : Tri → Bool) (ts : List Tri) (t : Tri) → marked f (ts ++ (t ∷ [])) ≡ marked f ts ++ cond (f t) (t ∷ []) []
unfolding marked
marked_more f [] t = refl
marked_more f (s ∷ ts) t = go (f s) (marked_more f ts t)
  where
    go : (b : Bool) → marked f (ts ++ (t ∷ [])) ≡ marked f ts ++ cond (f t) (t ∷ []) []
        → cond b (s ∷ marked f (ts ++ (t ∷ []))) (marked f (ts ++ (t ∷ []))) ≡ cond b (s ∷ marked f ts) (marked f ts) ++ cond (f t) (t ∷ []) []
    go true e = ap (λ (l : List Tri). s ∷ l) e
    go false e = e

pub after_more : (l : List Side) (ts : List Tri) (t : Tri) → sides_after l (ts ++ (t ∷ [])) ≡ met_all (sides_after l ts) (sides t)
unfolding sides_after
after_more l [] t = refl
after_more l (s ∷ ts) t = after_more (met_all l (sides s)) ts t

pub cuts-more : (f : Tri → Bool) (ts : List Tri) (t : Tri) → cuts f (ts ++ (t ∷ [])) ≡ cond (f t) (met_all (cuts f ts) (sides t)) (cuts f ts)
unfolding cuts
cuts-more f ts t = rw (marked_more f ts t) (go (f t))
  where
    go : (b : Bool) → sides_after [] (marked f ts ++ cond b (t ∷ []) []) ≡ cond b (met_all (sides_after [] (marked f ts)) (sides t)) (sides_after [] (marked f ts))
    go true = after_more [] (marked f ts) t
    go false = ap (sides_after []) (append-nil (marked f ts))

pub count-more : (f : Tri → Bool) (ts : List Tri) (t : Tri) → length (marked f (ts ++ (t ∷ []))) ≡ one (f t) + length (marked f ts)
count-more f ts t = ap length (marked_more f ts t) ∙ length-append (marked f ts) (cond (f t) (t ∷ []) []) ∙ go (f t)
  where
    go : (b : Bool) → length (marked f ts) + length (cond b (t ∷ []) []) ≡ one b + length (marked f ts)
    go true = omega arith
    go false = omega arith

pub one-most : (b : Bool) → one b ≤ 1
one-most true = omega arith
one-most false = omega arith

-- ---- the cut sides: a step, and the loop

pub step-flagged : (t : Table) {f : Tri → Bool} {w w' : List ℕ} {m' p q r : ℕ} {cut : Cut} {x : Tri} → f x ≡ true → MetTri t.base t.buckets w cut.sides w' m' p q r x
    → CutStep t f x w cut w' (record { sides = m'; flagged = cut.flagged + 1 })
step-flagged t e s = record {
  held = s.held;
  now-cut = rw e s.now-met;
  counted = rw e (omega arith);
  more = s.more;
  most = s.most;
  outside = s.outside;
}

pub step-passed : (t : Table) {f : Tri → Bool} {w : List ℕ} {cut : Cut} {x : Tri} → f x ≡ false → HeldIn (having t cut.sides) w → CutStep t f x w cut w cut
step-passed t e h = record {
  held = h;
  now-cut = rw e refl;
  counted = rw e (omega arith);
  more = omega arith;
  most = omega arith;
  outside = record { same = refl; before = λ j l. refl; behind = λ j l. refl };
}

pub cut-none : (t : Table) {w : List ℕ} (f : Tri → Bool) (l : List ℕ) → HeldIn (having t 0) w → CutTo t f l 0 w w (record { sides = 0; flagged = 0 })
unfolding tris pairs cuts sides_after marked
cut-none t f l h = record {
  held = h;
  all-cut = refl;
  counted = refl;
  few = omega arith;
  seldom = omega arith;
  outside = record { same = refl; before = λ j q. refl; behind = λ j q. refl };
}

pub cut_again : {t : Table} {f : Tri → Bool} {l : List ℕ} {i : ℕ} {w w₁ w₂ : List ℕ} {cut₁ cut₂ : Cut} → CutTo t f l i w w₁ cut₁
    → CutStep t f (tri_at l i) w₁ cut₁ w₂ cut₂ → CutTo t f l (i + 1) w w₂ cut₂
unfolding tris
cut_again {f = f} {l} {i} h s =
    rw (add-one i) (record {
      held = s.held;
      all-cut = s.now-cut ∙ rw h.all-cut (sym (cuts-more f (tris l i) (tri_at l i)));
      counted = s.counted ∙ rw h.counted (sym (count-more f (tris l i) (tri_at l i)));
      few = omega (arith, s.more, h.few);
      seldom = omega (arith, s.counted, one-most (f (tri_at l i)), h.seldom);
      outside = record {
        same = s.outside.same ∙ h.outside.same;
        before = λ j q. s.outside.before j q ∙ h.outside.before j q;
        behind = λ j q. s.outside.behind j q ∙ h.outside.behind j (omega (arith, s.most));
      };
    })

-- ---- midpoints that may be none

pub rows-of : (m : ℕ → ℕ → Option ℕ) {p q r : Option ℕ} {count : ℕ} {rows : List ℕ} (a b c : ℕ) → p ≡ m a b → q ≡ m b c → r ≡ m c a
    → Rows (split a b c p q r) count rows → Rows (pieces m (tri a b c)) count rows
rows-of m a b c e₁ e₂ e₃ h = rw (e₁, e₂, e₃) at h

-- ---- rows of corners

pub take-rows : {ts : List Tri} {count : ℕ} {rows : List ℕ} → Rows ts count rows → take (3 * count) rows ≡ corners_of ts
unfolding rows_of
take-rows {ts} {count} {rows} h =
    let e : 3 * count ≡ length (corners_of ts) = omega (arith, h.many, corners-length ts) in
    rw (h.corners, e) (take-append_seam (corners_of ts) (replicate (12 - 3 * length ts) 0))

-- ---- how many

-- a triangle has at most four pieces
pub four : (m : ℕ → ℕ → Option ℕ) (t : Tri) → length (pieces m t) ≤ 4
four m (tri a b c) = rows (m a b) (m b c) (m c a)
  where
    rows : (p q r : Option ℕ) → length (split a b c p q r) ≤ 4
    rows none none none = omega arith
    rows none none (some r) = omega arith
    rows none (some q) none = omega arith
    rows none (some q) (some r) = omega arith
    rows (some p) none none = omega arith
    rows (some p) none (some r) = omega arith
    rows (some p) (some q) none = omega arith
    rows (some p) (some q) (some r) = omega arith

pub refined-most : (m : ℕ → ℕ → Option ℕ) (ts : List Tri) → length (refined m ts) ≤ 4 * length ts
refined-most m [] = omega arith
refined-most m (t ∷ ts) = omega (arith, length-append (pieces m t) (refined m ts), four m t, refined-most m ts)
