-- The marks of triangles, one more triangle at a time: flags, the sides of flagged triangles, the marks of the others. Assumes nothing.
use Prim.Native.Nat.{ℕ, zero, suc, ◌+◌, ◌-◌, ◌*◌, ◌≤◌, ◌<◌}
use native.Mathlib.Omega.{arith}
use native.Mathlib.Decide.{ℕ_discrete}
use native.Mathlib.Numerals.{add-one}
use mathlib.Core.Path.{◌≡◌, refl, sym, ap, ◌∙◌}
use mathlib.Core.Logic.{◌≢◌, ◌⊎◌, inl, inr}
use mathlib.Core.Bool.{Bool, true, false, cond}
use mathlib.Core.List.{List, [], ◌∷◌, ◌++◌, append-nil}
use mathlib.Core.Option.{Option, none, some}
use borrow.Author.Tests.{eq-eqb, ne_eqb}
use lib.Dec.{eqb}
use Rattle.std.specs.Int.{from_bool}
use lib.ListN.{length, length-append, get_or, set, length-set, replicate, length-replicate}
use lib.Seq.{sets, length-sets, get_or-set_same, get_or-set_other}
use Rattle.mesh.specs.Mesh.{Tri, tri, Side, key, index_in, met, met_all, sides, sides_after, cuts, marked, one, above, mid, split}
use Rattle.mesh.proofs.Theorem.{index_below}
use Rattle.slices.proofs.Runs.{sets-before, sets_behind}
use Rattle.edges.specs.Table.{one_more, one_less, pairs}
use Rattle.edges.specs.TwoSlices.{lo_at, hi_at, sides_at, HeldInTwo, MetTriInTwo}
use Rattle.edges.proofs.Tree.{length_pairs}
use Rattle.edges.proofs.Tree.{met-keeps}
use Rattle.edges.proofs.Numbering.{three-length, three-else, three-first, three-second, three_third}
use Rattle.edges.proofs.TwoSlices.{held-still, empty-apart}
use Rattle.refinement.specs.Floor.{tri_at, tris}
use Rattle.refinement.proofs.Parts.{marked_more, count-more, one-most, after_more}
use Rattle.refine_call.specs.Marks.{cut_mark, marked_by, split_at, split_to, Cuts, CutsAt, MarksAt, FlagsTo, MarksRoom, CutsStep, CutsTo, Marked, MarksStep, MarksTo}

-- ---- flags

-- a flag as a number
bit : (b : Bool) → from_bool b ≡ one b
bit true = refl
bit false = refl

pub flags-none : (f : Tri → Bool) (l w : List ℕ) → FlagsTo f l 0 w w 0
unfolding tris marked
flags-none f l w = record { flags = λ j h. absurd (omega arith); counted = refl; seldom = omega arith; same = refl; behind = λ j h. refl }

pub flags-again : {f : Tri → Bool} {l : List ℕ} {i : ℕ} {w w₁ : List ℕ} {b : Bool} {c x y : ℕ} → FlagsTo f l i w w₁ c → 3 * i < length w₁ → b ≡ f (tri_at l i) → x ≡ from_bool b → y ≡ from_bool b → FlagsTo f l (i + 1) w (set w₁ (3 * i) x) (c + y)
unfolding tris
flags-again {f} {l} {i} {w} {w₁} {b} {c} {x} {y} h room e p q =
    let flag : y ≡ one (f (tri_at l i)) = q ∙ bit b ∙ ap one e in
    rw (add-one i) (record {
      flags = λ j g. at j g (ℕ_discrete j i);
      counted = omega (arith, h.counted, flag, count-more f (tris l i) (tri_at l i));
      seldom = omega (arith, h.seldom, flag, one-most (f (tri_at l i)));
      same = length-set w₁ (3 * i) x ∙ h.same;
      behind = λ j g. get_or-set_other w₁ (3 * i) j x 0 (omega arith) ∙ h.behind j (omega arith);
    })
  where
    z : x ≡ one (f (tri_at l i))
    z = p ∙ bit b ∙ ap one e

    at : (j : ℕ) → j < suc i → Dec (j ≡ i) → get_or (set w₁ (3 * i) x) (3 * j) 0 ≡ one (f (tri_at l j))
    at j g (yes e) = rw e (get_or-set_same w₁ (3 * i) x 0 room ∙ z)
    at j g (no e) = get_or-set_other w₁ (3 * i) (3 * j) x 0 (omega arith) ∙ h.flags j (omega arith)

-- the marked triangles are the flagged ones
mark-flag : (b : Bool) (x : ℕ) (t : Tri) → x ≡ one b → cond (eqb x 0) [] (t ∷ []) ≡ cond b (t ∷ []) []
mark-flag true x t e = rw (ne_eqb x 0 (omega arith)) refl
mark-flag false x t e = rw (eq-eqb x 0 e) refl

pub flags-marked : (f : Tri → Bool) (l w : List ℕ) (i : ℕ) → ((j : ℕ) → j < i → get_or w (3 * j) 0 ≡ one (f (tri_at l j))) → marked_by w l i ≡ marked f (tris l i)
unfolding marked_by tris marked
flags-marked f l w zero h = refl
flags-marked f l w (suc i) h = sym (marked_more f (tris l i) (tri_at l i) ∙ rw (flags-marked f l w i (λ j g. h j (omega arith)), mark-flag (f (tri_at l i)) (get_or w (3 * i) 0) (tri_at l i) (h i (omega arith))) refl)

-- the same ones are marked in both slices
same-mark : (x y : ℕ) → (x ≡ 0 → y ≡ 0) → (x ≢ 0 → y ≢ 0) → eqb y 0 ≡ eqb x 0
same-mark x y p q = go (ℕ_discrete x 0)
  where
    go : Dec (x ≡ 0) → eqb y 0 ≡ eqb x 0
    go (yes e) = eq-eqb y 0 (p e) ∙ sym (eq-eqb x 0 e)
    go (no e) = ne_eqb y 0 (q e) ∙ sym (ne_eqb x 0 e)

pub marked-same : (w w' l : List ℕ) (i : ℕ) → ((j : ℕ) → j < i → eqb (get_or w' (3 * j) 0) 0 ≡ eqb (get_or w (3 * j) 0) 0) → marked_by w' l i ≡ marked_by w l i
unfolding marked_by
marked-same w w' l zero h = refl
marked-same w w' l (suc i) h = rw (marked-same w w' l i (λ j g. h j (omega arith)), h i (omega arith))

pub marked-most : (w l : List ℕ) (i : ℕ) → length (marked_by w l i) ≤ i
unfolding marked_by
marked-most w l zero = omega arith
marked-most w l (suc i) = rw (length-append (marked_by w l i) (cond (eqb (get_or w (3 * i) 0) 0) [] (tri_at l i ∷ []))) (go (eqb (get_or w (3 * i) 0) 0) (marked-most w l i))
  where
    go : (b : Bool) → length (marked_by w l i) ≤ i → length (marked_by w l i) + length (cond b [] (tri_at l i ∷ [])) ≤ suc i
    go true h = omega arith
    go false h = omega arith

-- ---- the sides of flagged triangles

-- a mark of a cut side stays as more sides are met
keeps : (l ss : List Side) (s : Side) (k : ℕ) → index_in s l ≡ some k → index_in s (met_all l ss) ≡ some k
unfolding met_all
keeps l [] s k h = h
keeps l (x ∷ ss) s k h = keeps (met l x) ss s k (met-keeps l s x k h)

place_of : (n : ℕ) (o : Option ℕ) (x : ℕ) → above n o ≡ some x → o ≡ some (x - n) × (n ≤ x)
place_of n none x h = let z : ◌≡◌ {A = ℕ} 0 1 = cc in absurd (omega arith)
place_of n (some k) x h = let e : n + k ≡ x = cc in let i : k ≡ x - n = omega arith in (ap some i, omega arith)

cuts-keep : (n : ℕ) (l ss : List Side) (u v x : ℕ) → Cuts n l u v x → Cuts n (met_all l ss) u v x
unfolding mid
cuts-keep n l ss u v x c =
    let p = place_of n (index_in (key u v) l) (x - 1) c.1 in
    let q = keeps l ss (key u v) (x - 1 - n) p.0 in
    let e : n + (x - 1 - n) ≡ x - 1 = omega (arith, p.1) in
    (c.0, ap (above n) q ∙ ap some e)

cuts-met : (n : ℕ) (l : List Side) (u v p : ℕ) → index_in (key u v) l ≡ some p → Cuts n l u v (n + p + 1)
unfolding mid
cuts-met n l u v p h = let e : n + p ≡ n + p + 1 - 1 = omega arith in (omega arith, ap (above n) h ∙ ap some e)

-- the numbers of the sides that were met are below their count
pub met-below : {o N : ℕ} {e w e' w' : List ℕ} {m m' p q r a b c : ℕ} → MetTriInTwo o N e w m e' w' m' p q r (tri a b c) → (p < m') × ((q < m') × (r < m'))
met-below {e' = e'} {m' = m'} t = (low _ _ t.numbers.0, (low _ _ t.numbers.1, low _ _ t.numbers.2))
  where
    low : (s : Side) (p : ℕ) → index_in s (sides_at e' m') ≡ some p → p < m'
    low s p h = omega (arith, index_below s (sides_at e' m') p h, length_pairs (lo_at e') (hi_at e') m')

pub cut-passed : {n o N : ℕ} {l : List ℕ} {i : ℕ} {e w : List ℕ} {m : ℕ} → HeldInTwo o N e w m → get_or w (3 * i) 0 ≡ 0 → CutsStep n o N l i e w m e w m
cut-passed {i = i} {w = w} {m = m} h z =
    let b = eq-eqb (get_or w (3 * i) 0) 0 z in
    record {
      held = h;
      now-cut = rw b refl;
      more = rw b (omega arith);
      most = omega arith;
      cut-marks = λ f. absurd (f z);
      no-marks = λ f. f;
      same_ends = refl;
      same = refl;
      ends-behind = λ j g. refl;
      before = λ j g q. refl;
      behind = λ j g. refl;
    }

pub cut-cut : {n o N : ℕ} {l : List ℕ} {i : ℕ} {e w e₁ w₁ w₂ : List ℕ} {m m₁ p q r : ℕ} → 3 * i + 3 ≤ o → o ≤ length w → get_or w (3 * i) 0 ≢ 0 → MetTriInTwo o N e w m e₁ w₁ m₁ p q r (tri_at l i)
    → w₂ ≡ sets w₁ (3 * i) ((n + p + 1) ∷ (n + q + 1) ∷ (n + r + 1) ∷ []) → CutsStep n o N l i e w m e₁ w₂ m₁
cut-cut {n} {o} {N} {l} {i} {e} {w} {e₁} {w₁} {w₂} {m} {m₁} {p} {q} {r} below room f t z =
    let b = ne_eqb (get_or w (3 * i) 0) 0 f in
    let in-w : 3 * i + 3 ≤ length w₁ = omega (arith, t.outside.same) in
    let first : get_or w₂ (3 * i) 0 ≡ n + p + 1 = ap (λ (x : List ℕ). get_or x (3 * i) 0) z ∙ three-first w₁ (3 * i) (n + p + 1) (n + q + 1) (n + r + 1) in-w in
    let second : get_or w₂ (3 * i + 1) 0 ≡ n + q + 1 = ap (λ (x : List ℕ). get_or x (3 * i + 1) 0) z ∙ three-second w₁ (3 * i) (n + p + 1) (n + q + 1) (n + r + 1) in-w in
    let third : get_or w₂ (3 * i + 2) 0 ≡ n + r + 1 = ap (λ (x : List ℕ). get_or x (3 * i + 2) 0) z ∙ three_third w₁ (3 * i) (n + p + 1) (n + q + 1) (n + r + 1) in-w in
    record {
      held = held-still (λ j g h. else j (inr (omega arith))) (ap length z ∙ three-length w₁ (3 * i) (n + p + 1) (n + q + 1) (n + r + 1)) t.held;
      now-cut = rw b t.now-met;
      more = rw b t.more;
      most = t.most;
      cut-marks = λ g. (rw first (cuts-met n (sides_at e₁ m₁) _ _ p t.numbers.0), (rw second (cuts-met n (sides_at e₁ m₁) _ _ q t.numbers.1), rw third (cuts-met n (sides_at e₁ m₁) _ _ r t.numbers.2)));
      no-marks = λ g. absurd (f g);
      same_ends = t.outside.same_ends;
      same = ap length z ∙ three-length w₁ (3 * i) (n + p + 1) (n + q + 1) (n + r + 1) ∙ t.outside.same;
      ends-behind = t.outside.ends-behind;
      before = λ j g h. else j h ∙ t.outside.before j g;
      behind = λ j g. else j (inr (omega arith)) ∙ t.outside.behind j g;
    }
  where
    else : (j : ℕ) → (j < 3 * i) ⊎ (3 * i + 3 ≤ j) → get_or w₂ j 0 ≡ get_or w₁ j 0
    else j h = ap (λ (x : List ℕ). get_or x j 0) z ∙ three-else w₁ (3 * i) (n + p + 1) (n + q + 1) (n + r + 1) j h

pub cuts-none : {n N t : ℕ} {l e w : List ℕ} → HeldInTwo (3 * t) N e w 0 → CutsTo n N t l 0 e w e w 0
unfolding marked_by sides_after pairs
cuts-none h = record {
  held = h;
  all-cut = refl;
  few = omega arith;
  seldom = omega arith;
  cut-marks = λ j g. absurd (omega arith);
  no-marks = λ j g. absurd (omega arith);
  ahead = λ j g q. refl;
  same_ends = refl;
  same = refl;
  ends-behind = λ j g. refl;
  behind = λ j g. refl;
}

pub cuts-again : {n N t : ℕ} {l : List ℕ} {i : ℕ} {e₀ w₀ e w e' w' : List ℕ} {m m' : ℕ} → i < t → CutsTo n N t l i e₀ w₀ e w m → CutsStep n (3 * t) N l i e w m e' w' m'
    → CutsTo n N t l (i + 1) e₀ w₀ e' w' m'
unfolding marked_by
cuts-again {n} {N} {t} {l} {i} {e₀} {w₀} {e} {w} {e'} {w'} {m} {m'} it h s =
    rw (add-one i) (record {
      held = s.held;
      all-cut = s.now-cut ∙ rw (first, h.all-cut) (grown (eqb (get_or w₀ (3 * i) 0) 0));
      few = rw (length-append (marked_by w₀ l i) (cond (eqb (get_or w₀ (3 * i) 0) 0) [] (tri_at l i ∷ []))) (few (eqb (get_or w₀ (3 * i) 0) 0) (rw first at s.more));
      seldom = rw (length-append (marked_by w₀ l i) (cond (eqb (get_or w₀ (3 * i) 0) 0) [] (tri_at l i ∷ []))) (seldom (eqb (get_or w₀ (3 * i) 0) 0));
      cut-marks = λ j g f. cut j g f (ℕ_discrete j i);
      no-marks = λ j g f. uncut j g f (ℕ_discrete j i);
      ahead = λ j g q. s.before j q (inr (omega arith)) ∙ h.ahead j (omega arith) q;
      same_ends = s.same_ends ∙ h.same_ends;
      same = s.same ∙ h.same;
      ends-behind = λ j g. s.ends-behind j g ∙ h.ends-behind j (omega (arith, s.most));
      behind = λ j g. s.behind j g ∙ h.behind j (omega (arith, s.most));
    })
  where
    first : get_or w (3 * i) 0 ≡ get_or w₀ (3 * i) 0
    first = h.ahead (3 * i) (omega arith) (omega arith)

    grown : (b : Bool) → cond b (sides_after [] (marked_by w₀ l i)) (met_all (sides_after [] (marked_by w₀ l i)) (sides (tri_at l i))) ≡ sides_after [] (marked_by w₀ l i ++ cond b [] (tri_at l i ∷ []))
    grown true = ap (sides_after []) (sym (append-nil (marked_by w₀ l i)))
    grown false = sym (after_more [] (marked_by w₀ l i) (tri_at l i))

    few : (b : Bool) → m' ≤ cond b m (m + 3) → m' ≤ 3 * (length (marked_by w₀ l i) + length (cond b [] (tri_at l i ∷ [])))
    few true q = omega (arith, h.few)
    few false q = omega (arith, h.few)

    seldom : (b : Bool) → length (marked_by w₀ l i) + length (cond b [] (tri_at l i ∷ [])) ≤ suc i
    seldom true = omega (arith, h.seldom)
    seldom false = omega (arith, h.seldom)

    kept : (b : Bool) → eqb (get_or w (3 * i) 0) 0 ≡ b → (u v x : ℕ) → Cuts n (sides_at e m) u v x → Cuts n (sides_at e' m') u v x
    kept true z u v x c = rw (s.now-cut, z) c
    kept false z u v x c = rw (s.now-cut, z) (cuts-keep n (sides_at e m) (sides (tri_at l i)) u v x c)

    cell : (j : ℕ) → j < 3 * i → get_or w' j 0 ≡ get_or w j 0
    cell j g = s.before j (omega arith) (inl g)

    cut : (j : ℕ) → j < suc i → get_or w₀ (3 * j) 0 ≢ 0 → Dec (j ≡ i) → CutsAt n (sides_at e' m') w' l j
    cut j g f (yes z) = rw z (s.cut-marks (λ y. f (ap (λ (k : ℕ). get_or w₀ (3 * k) 0) z ∙ sym first ∙ y)))
    cut j g f (no z) =
        let c = h.cut-marks j (omega arith) f in
        let k = kept (eqb (get_or w (3 * i) 0) 0) refl in
        rw (cell (3 * j) (omega arith), cell (3 * j + 1) (omega arith), cell (3 * j + 2) (omega arith)) (k _ _ _ c.0, (k _ _ _ c.1.0, k _ _ _ c.1.1))

    uncut : (j : ℕ) → j < suc i → get_or w₀ (3 * j) 0 ≡ 0 → Dec (j ≡ i) → get_or w' (3 * j) 0 ≡ 0
    uncut j g f (yes z) = rw z (s.no-marks (first ∙ ap (λ (k : ℕ). get_or w₀ (3 * k) 0) (sym z) ∙ f))
    uncut j g f (no z) = cell (3 * j) (omega arith) ∙ h.no-marks j (omega arith) f

-- the same are marked after that
pub cuts-marked : {n N t : ℕ} {l : List ℕ} {i : ℕ} {e w e' w' : List ℕ} {m : ℕ} → CutsTo n N t l i e w e' w' m → marked_by w' l i ≡ marked_by w l i
cuts-marked {l = l} {i} {w = w} {w' = w'} h =
    marked-same w w' l i (λ j g. same-mark (get_or w (3 * j) 0) (get_or w' (3 * j) 0) (h.no-marks j g) (λ f z. let c = (h.cut-marks j g f).0.0 in absurd (omega arith)))

-- ---- flags and cut sides

no_length : {A : Type 0} (l : List A) → length l ≡ 0 → l ≡ []
no_length [] e = refl
no_length (x ∷ l) e = absurd (omega arith)

module _ {f : Tri → Bool} {n : ℕ} {l : List ℕ} {t : ℕ} {e w w₁ : List ℕ} {c : ℕ} (h : FlagsTo f l t w w₁ c) where
  pub none-flagged : c ≡ 0 → Marked f n l t e w e w₁ (record { sides = 0; flagged = 0 })
  unfolding cuts sides_after pairs
  none-flagged z =
      let nobody : marked f (tris l t) ≡ [] = no_length (marked f (tris l t)) (sym h.counted ∙ z) in
      record {
        flagged = sym z ∙ h.counted;
        all-cut = rw nobody refl;
        few = omega arith;
        seldom = omega arith;
        held = λ q. absurd (q refl);
        as_many = λ q. absurd (q refl);
        cut-marks = λ q. absurd (q refl);
        same_ends = refl;
        same = h.same;
        ends-behind = λ j g. refl;
        behind = λ j g. h.behind j (omega arith);
      }

  pub some-flagged : {e' w₂ w₃ : List ℕ} {m : ℕ} → w₂ ≡ sets w₁ (3 * t) (replicate (3 * c) 0) → CutsTo n (3 * c) t l t e w₂ e' w₃ m → Marked f n l t e w e' w₃ (record { sides = m; flagged = c })
  unfolding cuts
  some-flagged {e'} {w₂} {w₃} {m} z k =
      let those : marked_by w₂ l t ≡ marked f (tris l t) = flags-marked f l w₂ t (λ j g. ap (λ (x : List ℕ). get_or x (3 * j) 0) z ∙ sets-before w₁ (3 * t) (replicate (3 * c) 0) (3 * j) 0 (omega arith) ∙ h.flags j g) in
      let many : length (marked_by w₂ l t) ≡ c = ap length those ∙ sym h.counted in
      let few : m ≤ 3 * c = rw (← many) k.few in
      record {
        flagged = h.counted;
        all-cut = k.all-cut ∙ ap (sides_after []) those;
        few = few;
        seldom = h.seldom;
        held = λ q. k.held;
        as_many = λ q. ap length (cuts-marked k) ∙ many;
        cut-marks = λ q j g x. k.cut-marks j g (λ y. x (k.no-marks j g y));
        same_ends = k.same_ends;
        same = k.same ∙ ap length z ∙ length-sets w₁ (3 * t) (replicate (3 * c) 0) ∙ h.same;
        ends-behind = k.ends-behind;
        behind = λ j g. k.behind j (omega arith) ∙ ap (λ (x : List ℕ). get_or x j 0) z ∙ sets_behind w₁ (3 * t) (replicate (3 * c) 0) j 0 (omega (arith, length-replicate {A = ℕ} (3 * c) 0)) ∙ h.behind j (omega arith);
      }

-- an empty table of three buckets a flagged triangle, and room for its sides
pub cut-room : {f : Tri → Bool} {l : List ℕ} {t : ℕ} {w w₁ : List ℕ} {c : ℕ} → FlagsTo f l t w w₁ c → (n corners : ℕ) (e : List ℕ) → MarksRoom n (3 * t) (3 * t) t corners (length e) (length w) → c ≢ 0
    → {w₂ : List ℕ} → w₂ ≡ sets w₁ (3 * t) (replicate (3 * c) 0) → HeldInTwo (3 * t) (3 * c) e w₂ 0 × MarksRoom n (3 * t) (3 * c) t corners (length e) (length w₂)
cut-room {t = t} {w} {w₁} {c} h n corners e room q {w₂} z =
    let long : length w₂ ≡ length w₁ = ap length z ∙ length-sets w₁ (3 * t) (replicate (3 * c) 0) in (
      rw z (empty-apart (3 * t) (3 * c) e w₁ (omega arith) (omega (arith, room.marks-in, h.same, h.seldom))),
      record {
        marks-before = room.marks-before;
        corners-in = room.corners-in;
        ends-in = room.ends-in;
        marks-in = omega (arith, room.marks-in, long, h.same, h.seldom);
        few = room.few;
      },
    )

-- ---- the marks of the others

mark-is : (o : Option ℕ) (x : ℕ) → (0 < x) × (o ≡ some (x - 1)) → x ≡ one_more o
mark-is o x c = let e : x ≡ suc (x - 1) = omega (arith, c.0) in e ∙ ap one_more (sym c.1)

pub cut-some : (x : ℕ) → x ≢ 0 → 1 ≡ cut_mark x
cut-some zero h = absurd (h refl)
cut-some (suc x) h = refl

pub count_of : (a b c p q r : ℕ) → length (split a b c (one_less p) (one_less q) (one_less r)) ≡ 1 + cut_mark p + cut_mark q + cut_mark r
count_of a b c zero zero zero = refl
count_of a b c zero zero (suc r) = refl
count_of a b c zero (suc q) zero = refl
count_of a b c zero (suc q) (suc r) = refl
count_of a b c (suc p) zero zero = refl
count_of a b c (suc p) zero (suc r) = refl
count_of a b c (suc p) (suc q) zero = refl
count_of a b c (suc p) (suc q) (suc r) = refl

pub mark-found : {n : ℕ} {s : List Side} {l : List ℕ} {i : ℕ} {w : List ℕ} → get_or w (3 * i) 0 ≢ 0 → CutsAt n s w l i → MarksStep n s l i w w 4
mark-found {n} {s} {l} {i} {w} f c =
    let x = mark-is _ (get_or w (3 * i) 0) c.0 in
    let y = mark-is _ (get_or w (3 * i + 1) 0) c.1.0 in
    let z = mark-is _ (get_or w (3 * i + 2) 0) c.1.1 in
    record {
      marks = (x, (y, z));
      counted = sym (count_of _ _ _ (get_or w (3 * i) 0) (get_or w (3 * i + 1) 0) (get_or w (3 * i + 2) 0)
          ∙ rw (← cut-some (get_or w (3 * i) 0) f, ← cut-some (get_or w (3 * i + 1) 0) (omega (arith, c.1.0.0)), ← cut-some (get_or w (3 * i + 2) 0) (omega (arith, c.1.1.0))) refl);
      least = rw (ne_eqb (get_or w (3 * i) 0) 0 f) (omega arith);
      most = omega arith;
      same = refl;
      elsewhere = λ j h. refl;
    }

pub cut_most : (x : ℕ) → cut_mark x ≤ 1
cut_most zero = omega arith
cut_most (suc x) = omega arith

pub mark-put : {n : ℕ} {s : List Side} {l : List ℕ} {i : ℕ} {w w' : List ℕ} {p q r k : ℕ} → 3 * i + 3 ≤ length w → get_or w (3 * i) 0 ≡ 0
    → p ≡ one_more (mid n s (get_or l (3 * i) 0) (get_or l (3 * i + 1) 0)) → q ≡ one_more (mid n s (get_or l (3 * i + 1) 0) (get_or l (3 * i + 2) 0)) → r ≡ one_more (mid n s (get_or l (3 * i + 2) 0) (get_or l (3 * i) 0))
    → w' ≡ sets w (3 * i) (p ∷ q ∷ r ∷ []) → ((a b c : ℕ) → k ≡ length (split a b c (one_less p) (one_less q) (one_less r))) → MarksStep n s l i w w' k
mark-put {n} {s} {l} {i} {w} {w'} {p} {q} {r} {k} room f x y z e count =
    let first : get_or w' (3 * i) 0 ≡ p = ap (λ (v : List ℕ). get_or v (3 * i) 0) e ∙ three-first w (3 * i) p q r room in
    let second : get_or w' (3 * i + 1) 0 ≡ q = ap (λ (v : List ℕ). get_or v (3 * i + 1) 0) e ∙ three-second w (3 * i) p q r room in
    let third : get_or w' (3 * i + 2) 0 ≡ r = ap (λ (v : List ℕ). get_or v (3 * i + 2) 0) e ∙ three_third w (3 * i) p q r room in
    let many = count 0 0 0 ∙ count_of 0 0 0 p q r in
    record {
      marks = (first ∙ x, (second ∙ y, third ∙ z));
      counted = rw (first, second, third) (count _ _ _);
      least = rw (eq-eqb (get_or w (3 * i) 0) 0 f) (omega (arith, many));
      most = omega (arith, many, cut_most p, cut_most q, cut_most r);
      same = ap length e ∙ three-length w (3 * i) p q r;
      elsewhere = λ j h. ap (λ (v : List ℕ). get_or v j 0) e ∙ three-else w (3 * i) p q r j h;
    }

-- pieces by marks that are the same
at_same : (w w' l : List ℕ) (i : ℕ) → ((j : ℕ) → j < 3 * i + 3 → 3 * i ≤ j → get_or w' j 0 ≡ get_or w j 0) → split_at w' l i ≡ split_at w l i
at_same w w' l i h = rw (h (3 * i) (omega arith) (omega arith), h (3 * i + 1) (omega arith) (omega arith), h (3 * i + 2) (omega arith) (omega arith)) refl

pub split-same : (w w' l : List ℕ) (i : ℕ) → ((j : ℕ) → j < 3 * i → get_or w' j 0 ≡ get_or w j 0) → split_to w' l i ≡ split_to w l i
unfolding split_to
split-same w w' l zero h = refl
split-same w w' l (suc i) h = rw (split-same w w' l i (λ j g. h j (omega arith)), at_same w w' l i (λ j g q. h j (omega arith))) refl

pub marks-none : (n : ℕ) (s : List Side) (l w : List ℕ) → MarksTo n s l 0 w w 0
unfolding split_to marked_by
marks-none n s l w = record { marks = λ j h. absurd (omega arith); counted = refl; least = omega arith; most = omega arith; same = refl; ahead = λ j h. refl }

pub marks-again : {n : ℕ} {s : List Side} {l : List ℕ} {i : ℕ} {w₀ w w' : List ℕ} {k c : ℕ} → MarksTo n s l i w₀ w k → MarksStep n s l i w w' c → MarksTo n s l (i + 1) w₀ w' (k + c)
unfolding split_to marked_by
marks-again {n} {s} {l} {i} {w₀} {w} {w'} {k} {c} h m =
    let old : split_to w' l i ≡ split_to w l i = split-same w w' l i (λ j g. cell j g) in
    rw (add-one i) (record {
      marks = λ j g. at j g (ℕ_discrete j i);
      counted = sym (length-append (split_to w' l i) (split_at w' l i) ∙ rw old (omega (arith, h.counted, m.counted)));
      least = rw (length-append (marked_by w₀ l i) (cond (eqb (get_or w₀ (3 * i) 0) 0) [] (tri_at l i ∷ []))) (least (eqb (get_or w₀ (3 * i) 0) 0) (rw (h.ahead (3 * i) (omega arith)) at m.least));
      most = omega (arith, h.most, m.most);
      same = m.same ∙ h.same;
      ahead = λ j g. m.elsewhere j (inr (omega arith)) ∙ h.ahead j (omega arith);
    })
  where
    cell : (j : ℕ) → j < 3 * i → get_or w' j 0 ≡ get_or w j 0
    cell j g = m.elsewhere j (inl g)

    at : (j : ℕ) → j < suc i → Dec (j ≡ i) → MarksAt n s w' l j
    at j g (yes e) = rw e m.marks
    at j g (no e) = rw (cell (3 * j) (omega arith), cell (3 * j + 1) (omega arith), cell (3 * j + 2) (omega arith)) (h.marks j (omega arith))

    least : (b : Bool) → cond b 1 4 ≤ c → suc i + 3 * (length (marked_by w₀ l i) + length (cond b [] (tri_at l i ∷ []))) ≤ k + c
    least true q = omega (arith, h.least)
    least false q = omega (arith, h.least)

-- what the next triangle asks for
pub marks-held : {n : ℕ} {s : List Side} {l : List ℕ} {i o N m : ℕ} {e w₀ w : List ℕ} {k : ℕ} → 3 * i ≤ o → MarksTo n s l i w₀ w k → HeldInTwo o N e w₀ m → HeldInTwo o N e w m
marks-held b h t = held-still (λ j g q. h.ahead j (omega arith)) h.same t

pub marks-cut : {n : ℕ} {s : List Side} {l : List ℕ} {i : ℕ} {w₀ w : List ℕ} {k : ℕ} → MarksTo n s l i w₀ w k → (get_or w₀ (3 * i) 0 ≢ 0 → CutsAt n s w₀ l i) → get_or w (3 * i) 0 ≢ 0 → CutsAt n s w l i
marks-cut {i = i} h c f =
    let e₀ = h.ahead (3 * i) (omega arith) in
    let e₁ = h.ahead (3 * i + 1) (omega arith) in
    let e₂ = h.ahead (3 * i + 2) (omega arith) in
    rw (e₀, e₁, e₂) (c (λ z. f (e₀ ∙ z)))
