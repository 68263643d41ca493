-- The edges of a pass, one more at a time: what stands in the slice after it. The points lie below the coefficients, so that what is kept changes
-- nothing that is read. Assumes nothing.
use Prim.Native.Nat.{ℕ, ◌+◌, ◌≤◌, ◌<◌}
use native.Mathlib.Omega.{arith}
use native.Mathlib.Decide.{dec_le}
use native.Mathlib.Nat.{zero-add}
use mathlib.Core.Path.{◌≡◌, refl, sym, ap, ◌∙◌}
use mathlib.Core.Bool.{Bool, true, false, not, cond}
use mathlib.Core.List.{List}
use borrow.Author.Tests.{lt-ltb, le-ltb}
use lib.Dec.{ltb}
use lib.ListN.{length, get_or}
use lib.Seq.{ext_get_or}
use lib.Ieee.{Float, nan}
use Rattle.std.specs.Prelude.{Ok, Err}
use Rattle.complex.specs.declared.Complex.{Complex}
use Rattle.complex.specs.Complex.{cnan}
use Rattle.floor.proofs.Lowest.{lowest-none, lowest-again, lowest-found}
use Rattle.geometry.specs.declared.MeanSize.{MeanSize}
use Rattle.geometry.specs.Edge.{transport_of}
use Rattle.linear_cells.specs.Region.{tab}
use Rattle.linear_cells.specs.Cell.{set_c, region_c, put_c}
use Rattle.linear_cells.proofs.Loops.{apart, length-tab, get_or-tab}
use Rattle.linear_cells.proofs.Cells.{length-region_c, length-put_c, put_c-region_c, put_c-else-real}
use Rattle.linear_cells.proofs.Over.{over, over_none, length_over, over-todo, over_done, over-cell}
use Rattle.pass_transports.specs.declared.TransportsPlan.{TransportsPlan}
use Rattle.pass_transports.specs.Transports.{Points, end_of, transport_at, is_refused, coefficient, first_mean, coefficient_at, ends_at, refused_at, transports_answer, Answer, Transport}
use Rattle.pass_transports.specs.Work.{points_from, TransportsRoom, Ends, kept, Looked, kept_to, Transported}

-- ---- the points of a slice that is the same below the coefficients

module _ (w w' : List Float) (l : TransportsPlan) {len m : ℕ} (ok : TransportsRoom len l m) (h : (j : ℕ) → j < l.transports → get_or w' j nan ≡ get_or w j nan) where
  end_same : (v : ℕ) → v < l.points → end_of (points_from w' l) v ≡ end_of (points_from w l) v
  unfolding end_of points_from
  end_same v k =
      rw (
        h (l.x + v) (omega (arith, ok.x_below)),
        h (l.y + v) (omega (arith, ok.y-below)),
        h (l.sizes + v) (omega (arith, ok.sizes-below)),
        h (l.gradients + v) (omega (arith, ok.gradients-below)),
        h (l.gradients + l.points + v) (omega (arith, ok.gradients-below)),
      )

  transport-same : (a b : List ℕ) (e : ℕ) → Ends l.points a b → e < length a → transport_at (points_from w' l) a b e ≡ transport_at (points_from w l) a b e
  unfolding transport_at
  transport-same a b e g k = rw (end_same (get_or a e 0) (g.a-below e k), end_same (get_or b e 0) (g.b-below e k))

-- ---- one edge

pub error-is : (p : Points) (a b : List ℕ) (e : ℕ) (x : MeanSize) {f : Transport} → f ≡ transport_at p a b e → f ≡ Err x → x ≡ ends_at a b e
unfolding transport_at transport_of end_of
error-is p a b e x q h = go _ _ (sym q ∙ h)
  where
    go : (c : Bool) (z : Complex) → ◌≡◌ {A = Transport} (cond c (Err (ends_at a b e)) (Ok z)) (Err x) → x ≡ ends_at a b e
    go true z k = cc
    go false z k = absurd (cc)

pub looked-none : {l : TransportsPlan} (a b : List ℕ) (e : ℕ) (w : List Float) (x : MeanSize) {f : Transport} → f ≡ transport_at (points_from w l) a b e → f ≡ Err x → Looked l a b e w w false
looked-none {l} a b e w x p q =
    let z : transport_at (points_from w l) a b e ≡ Err x = sym p ∙ q in
    record { sound = sym (ap (λ (t : Transport). not (is_refused t)) z); work = sym (ap (kept w l.transports (length a) e) z) }

pub looked-kept : {l : TransportsPlan} (a b : List ℕ) (e : ℕ) (w : List Float) {w' : List Float} (z : Complex) {f : Transport} → f ≡ transport_at (points_from w l) a b e → f ≡ Ok z
    → w' ≡ set_c w l.transports (length a) e z → Looked l a b e w w' true
looked-kept {l} a b e w c p q s =
    let z : transport_at (points_from w l) a b e ≡ Ok c = sym p ∙ q in
    record { sound = sym (ap (λ (t : Transport). not (is_refused t)) z); work = s ∙ sym (ap (kept w l.transports (length a) e) z) }

kept-some : (w : List Float) (b m e : ℕ) (t : Transport) → is_refused t ≡ false → kept w b m e t ≡ set_c w b m e (coefficient t)
kept-some w b m e (Ok z) h = refl
kept-some w b m e (Err f) h = let z : ◌≡◌ {A = ℕ} (cond true 0 1) (cond false 0 1) = ap (λ (b : Bool). cond b 0 1) h in absurd (omega (arith, z))

kept-none : (w : List Float) (b m e : ℕ) (t : Transport) → is_refused t ≡ true → kept w b m e t ≡ w
kept-none w b m e (Ok z) h = let z : ◌≡◌ {A = ℕ} (cond false 0 1) (cond true 0 1) = ap (λ (b : Bool). cond b 0 1) h in absurd (omega (arith, z))
kept-none w b m e (Err f) h = refl

not-true : (b : Bool) → true ≡ not b → b ≡ false
not-true true h = h
not-true false h = refl

not-false : (b : Bool) → false ≡ not b → b ≡ true
not-false true h = refl
not-false false h = h

-- ---- all the edges

-- belongs in crate linear_cells, proofs/Over: a list that a loop has gone over up to i
over-part : {A : Type 0} (f : ℕ → A → A) (d : A) (i : ℕ) (v : List A) → i ≤ length v → over f d i v ≡ tab (λ e. cond (ltb e i) (f e (get_or v e d)) (get_or v e d)) (length v)
over-part f d i v h =
    ext_get_or d _ _ (length_over f d i v ∙ sym (length-tab _ (length v))) (λ e k.
    let l : e < length v = omega (arith, length_over f d i v) in
    at e (dec_le i e) ∙ sym (get_or-tab _ (length v) e d l))
  where
    at : (e : ℕ) → Dec (i ≤ e) → get_or (over f d i v) e d ≡ cond (ltb e i) (f e (get_or v e d)) (get_or v e d)
    at e (yes g) = rw (le-ltb e i g) (over-todo f d i v e g)
    at e (no g) = let l : e < i = omega arith in rw (lt-ltb e i l) (over_done f d i v e l h)

unfoldable pub written_to : Points → List ℕ → List ℕ → ℕ → List Complex → List Complex
written_to p a b e v = over (λ j z. coefficient_at p a b j) cnan e v

length-written : (p : Points) (a b : List ℕ) (e : ℕ) (v : List Complex) → length (written_to p a b e v) ≡ length v
unfolding written_to
length-written p a b e v = length_over _ cnan e v

part : (p : Points) (a b : List ℕ) (e : ℕ) (v : List Complex) → e ≤ length v → written_to p a b e v ≡ kept_to p a b e v
unfolding written_to kept_to
part p a b e v h = over-part (λ j z. coefficient_at p a b j) cnan e v h

told-refused : (p : Points) (a b : List ℕ) (e : ℕ) → e ≡ first_mean p a b (length a) → e < length a → refused_at a b e ≡ transports_answer p a b
unfolding transports_answer
told-refused p a b e f h = rw (← f, lt-ltb e (length a) h)

told-done : (p : Points) (a b : List ℕ) → length a ≡ first_mean p a b (length a) → ◌≡◌ {A = Answer} (Ok tt) (transports_answer p a b)
unfolding transports_answer
told-done p a b f = rw (← f, le-ltb (length a) (length a) (omega arith))

-- the first e edges have a coefficient, which is kept
pub record To (l : TransportsPlan) (a b : List ℕ) (e : ℕ) (w₀ w : List Float) : Type 0 where
  pub sound : e ≡ first_mean (points_from w₀ l) a b e
  pub work : w ≡ put_c w₀ l.transports (written_to (points_from w₀ l) a b e (region_c w₀ l.transports (length a)))

pub to_none : (l : TransportsPlan) (a b : List ℕ) (w : List Float) → To l a b 0 w w
unfolding first_mean written_to
to_none l a b w = record { sound = lowest-none _; work = rw (over_none, put_c-region_c) }

pub to-length : {l : TransportsPlan} {a b : List ℕ} {e : ℕ} {w₀ w : List Float} → To l a b e w₀ w → length w ≡ length w₀
to-length {l} {a} {b} {e} {w₀} k = ap length k.work ∙ length-put_c w₀ l.transports (written_to (points_from w₀ l) a b e (region_c w₀ l.transports (length a)))

module _ (l : TransportsPlan) (a b : List ℕ) (e : ℕ) (w₀ w : List Float) (ok : TransportsRoom (length w₀) l (length a)) (g : Ends l.points a b) (h : e < length a) (k : To l a b e w₀ w) where
  v₀ : List Complex
  v₀ = region_c w₀ l.transports (length a)

  n₀ : length v₀ ≡ length a
  unfolding v₀
  n₀ = length-region_c w₀ l.transports (length a)

  same : transport_at (points_from w l) a b e ≡ transport_at (points_from w₀ l) a b e
  unfolding v₀
  same =
      let v : List Complex = written_to (points_from w₀ l) a b e v₀ in
      let below : (j : ℕ) → j < l.transports → get_or w j nan ≡ get_or w₀ j nan =
      λ j q. ap (λ t. get_or t j nan) k.work ∙ (rw zero-add at (put_c-else-real w₀ l.transports v (length-written (points_from w₀ l) a b e v₀ ∙ n₀) 0 l.transports j (omega (arith, apart)) q)) in
      transport-same w₀ w l ok below a b e g h

  pub to-more : {w' : List Float} → Looked l a b e w w' true → To l a b (e + 1) w₀ w'
  unfolding first_mean written_to v₀ coefficient_at
  to-more {w'} q =
      let good : is_refused (transport_at (points_from w₀ l) a b e) ≡ false = ap is_refused (sym same) ∙ not-true _ q.sound in
      record {
        sound = lowest-again _ e k.sound good;
        work = q.work
            ∙ ap (kept w l.transports (length a) e) same
            ∙ kept-some w l.transports (length a) e (transport_at (points_from w₀ l) a b e) good
            ∙ ap (λ t. set_c t l.transports (length a) e (coefficient (transport_at (points_from w₀ l) a b e))) k.work
            ∙ over-cell (λ j z. coefficient_at (points_from w₀ l) a b j) w₀ l.transports v₀ n₀ ok.transports-in e h;
      }

  pub to-found : {w' : List Float} {o : Answer} → Looked l a b e w w' false → o ≡ refused_at a b e → Transported l a b w₀ w' o
  unfolding first_mean v₀
  to-found {w'} {o} q s =
      let bad : is_refused (transport_at (points_from w₀ l) a b e) ≡ true = ap is_refused (sym same) ∙ not-false _ q.sound in
      let first : e ≡ first_mean (points_from w₀ l) a b (length a) = lowest-found _ e (length a) k.sound bad h in
      record {
        result = s ∙ told-refused (points_from w₀ l) a b e first h;
        work = q.work
            ∙ ap (kept w l.transports (length a) e) same
            ∙ kept-none w l.transports (length a) e (transport_at (points_from w₀ l) a b e) bad
            ∙ k.work
            ∙ ap (put_c w₀ l.transports) (part (points_from w₀ l) a b e v₀ (omega (arith, n₀)) ∙ ap (λ i. kept_to (points_from w₀ l) a b i v₀) first);
      }

pub to-done : {l : TransportsPlan} {a b : List ℕ} {e : ℕ} {w₀ w : List Float} {o : Answer} → e ≡ length a → To l a b e w₀ w → o ≡ Ok tt → Transported l a b w₀ w o
to-done {l} {a} {b} {e} {w₀} {w} z k s =
    let first : length a ≡ first_mean (points_from w₀ l) a b (length a) = rw z at k.sound in
    let v : List Complex = region_c w₀ l.transports (length a) in
    let n : e ≤ length v = omega (arith, length-region_c w₀ l.transports (length a)) in
    record {
      result = s ∙ told-done (points_from w₀ l) a b first;
      work = k.work ∙ ap (put_c w₀ l.transports) (part (points_from w₀ l) a b e v n ∙ ap (λ i. kept_to (points_from w₀ l) a b i v) (z ∙ first));
    }

pub transported-length : {l : TransportsPlan} {a b : List ℕ} {w w' : List Float} {r : Answer} → Transported l a b w w' r → length w' ≡ length w
transported-length {l} {a} {b} {w} t = ap length t.work ∙ length-put_c w l.transports _
