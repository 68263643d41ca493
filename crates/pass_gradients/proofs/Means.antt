-- The sums divided by the weights, one more point at a time; the check of sums and weights that are the same. Assumes nothing.
use Prim.Native.Nat.{ℕ, ◌+◌, ◌*◌, ◌≤◌, ◌<◌}
use native.Mathlib.Omega.{arith}
use native.Mathlib.Decide.{ℕ_discrete}
use mathlib.Core.Path.{◌≡◌, refl, sym, ap, ap₂, ◌∙◌, subst}
use mathlib.Core.Logic.{◌≢◌, ◌⊎◌, inl, inr}
use mathlib.Core.Bool.{Bool, true, false, cond, not}
use mathlib.Core.List.{List}
use borrow.Author.Tests.{eq-eqb, ne_eqb, lt-ltb, le-ltb, eqb-true, ltb-true, ltb-false}
use lib.Dec.{eqb, ltb}
use lib.ListN.{length, length-set, get_or, set}
use lib.Seq.{get_or-set_same, get_or-set_other}
use lib.Ieee.{Float, nan}
use Rattle.std.specs.Prelude.{Ok, Err}
use Rattle.float.specs.Double.{◌⊘◌}
use Rattle.refusals.specs.declared.Refusal.{Refusal}
use Rattle.refusals.specs.Refusal.{row_at, Verdict}
use Rattle.floor.specs.Checks.{lowest}
use Rattle.floor.proofs.Lowest.{lowest-none, lowest-again, lowest-found, lowest-most, lowest-same}
use Rattle.pass_geometries.specs.Work.{coords_from}
use Rattle.pass_gradients.specs.Gradients.{point_verdict, row_of_point, first_refused, check_means}
use Rattle.pass_gradients.specs.Work.{sums_x, sums_y, weights, divide_at, DividedTo, DividedPoint, Divided}

-- ---- one point

module _ (g n v : ℕ) (w : List Float) (h : v < n) (room : g + 3 * n ≤ length w) where
  x : Float
  x = get_or w (g + v) nan ⊘ get_or w (g + 2 * n + v) nan

  y : Float
  y = get_or w (g + n + v) nan ⊘ get_or w (g + 2 * n + v) nan

  pub divide-length : length (divide_at g n v w) ≡ length w
  unfolding divide_at x y
  divide-length = length-set (set w (g + v) x) (g + n + v) y ∙ length-set w (g + v) x

  pub divide-x : get_or (divide_at g n v w) (g + v) nan ≡ get_or w (g + v) nan ⊘ get_or w (g + 2 * n + v) nan
  unfolding divide_at x y
  divide-x = get_or-set_other (set w (g + v) x) (g + n + v) (g + v) y nan (omega arith) ∙ get_or-set_same w (g + v) x nan (omega arith)

  pub divide-y : get_or (divide_at g n v w) (g + n + v) nan ≡ get_or w (g + n + v) nan ⊘ get_or w (g + 2 * n + v) nan
  unfolding divide_at x y
  divide-y = get_or-set_same (set w (g + v) x) (g + n + v) y nan (omega (arith, length-set w (g + v) x))

  pub divide-else : (j : ℕ) → j ≢ g + v → j ≢ g + n + v → get_or (divide_at g n v w) j nan ≡ get_or w j nan
  unfolding divide_at x y
  divide-else j p q = get_or-set_other (set w (g + v) x) (g + n + v) j y nan q ∙ get_or-set_other w (g + v) j x nan p

-- what a point's verdict says of its row
verdict-ok : (r v : ℕ) → point_verdict r v ≡ Ok tt → r ≡ 0
verdict-ok r v e = go (eqb r 0) refl e
  where
    go : (b : Bool) → eqb r 0 ≡ b → ◌≡◌ {A = Verdict} (cond b (Ok tt) (Err (row_at r v))) (Ok tt) → r ≡ 0
    go true q h = eqb-true r 0 q
    go false q h = absurd (cc)

verdict-err : (r v : ℕ) (x : Refusal) → point_verdict r v ≡ Err x → (r ≢ 0) × (x ≡ row_at r v)
verdict-err r v x e = go (eqb r 0) refl e
  where
    go : (b : Bool) → eqb r 0 ≡ b → ◌≡◌ {A = Verdict} (cond b (Ok tt) (Err (row_at r v))) (Err x) → (r ≢ 0) × (x ≡ row_at r v)
    go true q h = absurd (cc)
    go false q h = (λ z. let y : eqb r 0 ≡ true = eq-eqb r 0 z in absurd (cc), cc)

pub point-refused : {g n v : ℕ} {w : List Float} {q : Verdict} (x : Refusal) → q ≡ point_verdict (row_of_point (sums_x g n w) (sums_y g n w) (weights g n w) v) v → q ≡ Err x
    → DividedPoint g n v w w (Err x)
point-refused {g} {n} {v} {w} x e z =
    let r = row_of_point (sums_x g n w) (sums_y g n w) (weights g n w) v in
    record { answer = sym z ∙ e; work = sym (ap (λ (b : Bool). cond b (divide_at g n v w) w) (ne_eqb r 0 (verdict-err r v x (sym e ∙ z)).0)) }

pub point-divided : {g n v : ℕ} {w w' : List Float} {q : Verdict} → q ≡ point_verdict (row_of_point (sums_x g n w) (sums_y g n w) (weights g n w) v) v → q ≡ Ok tt
    → w' ≡ divide_at g n v w → DividedPoint g n v w w' (Ok tt)
point-divided {g} {n} {v} {w} e z d =
    let r = row_of_point (sums_x g n w) (sums_y g n w) (weights g n w) v in
    record { answer = sym z ∙ e; work = d ∙ sym (ap (λ (b : Bool). cond b (divide_at g n v w) w) (eq-eqb r 0 (verdict-ok r v (sym e ∙ z)))) }

-- ---- the first i points

pub record To (g n i : ℕ) (w₀ w : List Float) : Type 0 where
  pub sound : i ≡ first_refused (sums_x g n w₀) (sums_y g n w₀) (weights g n w₀) i
  pub means : DividedTo g n i w₀ w

pub to_none : (g n : ℕ) (w : List Float) → To g n 0 w w
unfolding first_refused
to_none g n w = record { sound = lowest-none _; means = record { same_length = refl; mean-x = λ p h. absurd (omega arith); mean-y = λ p h. absurd (omega arith); elsewhere = λ j h. refl } }

found_first : (g n i : ℕ) (w : List Float) → not (eqb (row_of_point (sums_x g n w) (sums_y g n w) (weights g n w) i) 0) ≡ true
    → i ≡ first_refused (sums_x g n w) (sums_y g n w) (weights g n w) i → i < n → i ≡ first_refused (sums_x g n w) (sums_y g n w) (weights g n w) n
unfolding first_refused
found_first g n i w b s h = lowest-found _ i n s b h

check-refused : (X Y W : ℕ → Float) (n : ℕ) {i r : ℕ} → i ≡ first_refused X Y W n → r ≡ row_of_point X Y W i → i < n → Err (row_at r i) ≡ check_means X Y W n
unfolding check_means
check-refused X Y W n {i} {r} p q h = rw (← p, ← q, lt-ltb i n h)

check_sound : (X Y W : ℕ → Float) (n : ℕ) → n ≡ first_refused X Y W n → ◌≡◌ {A = Verdict} (Ok tt) (check_means X Y W n)
unfolding check_means
check_sound X Y W n p = rw (← p, le-ltb n n (omega arith))

module _ {g n i : ℕ} {w₀ w : List Float} (h : i < n) (room : g + 3 * n ≤ length w₀) (k : To g n i w₀ w) where
  here : (b : ℕ) → (b ≡ g) ⊎ ((b ≡ g + n) ⊎ (b ≡ g + 2 * n)) → coords_from w b i ≡ coords_from w₀ b i
  here b (inl e) = k.means.elsewhere (b + i) (inr (inl (omega arith, omega arith)))
  here b (inr (inl e)) = k.means.elsewhere (b + i) (inr (inr (omega arith)))
  here b (inr (inr e)) = k.means.elsewhere (b + i) (inr (inr (omega arith)))

  -- the row of point i is the same for the sums as they were
  pub same_row : row_of_point (sums_x g n w) (sums_y g n w) (weights g n w) i ≡ row_of_point (sums_x g n w₀) (sums_y g n w₀) (weights g n w₀) i
  same_row = rw (here g (inl refl), here (g + n) (inr (inl refl)), here (g + 2 * n) (inr (inr refl)))

  now-room : g + 3 * n ≤ length w
  now-room = omega (arith, k.means.same_length)

  pub to-more : {w' : List Float} {q : Verdict} → q ≡ Ok tt → DividedPoint g n i w w' q → To g n (i + 1) w₀ w'
  unfolding first_refused
  to-more {w'} z s =
      let r = row_of_point (sums_x g n w) (sums_y g n w) (weights g n w) i in
      let zero : r ≡ 0 = verdict-ok r i (sym s.answer ∙ z) in
      let d : w' ≡ divide_at g n i w = s.work ∙ ap (λ (b : Bool). cond b (divide_at g n i w) w) (eq-eqb r 0 zero) in
      let good : not (eqb (row_of_point (sums_x g n w₀) (sums_y g n w₀) (weights g n w₀) i) 0) ≡ false = ap not (eq-eqb _ 0 (sym same_row ∙ zero)) in
      record {
        sound = lowest-again _ i k.sound good;
        means = record {
          same_length = ap length d ∙ divide-length g n i w h now-room ∙ k.means.same_length;
          mean-x = λ p q. ap (λ (l : List Float). get_or l (g + p) nan) d ∙ at_x p q (ℕ_discrete p i);
          mean-y = λ p q. ap (λ (l : List Float). get_or l (g + n + p) nan) d ∙ at_y p q (ℕ_discrete p i);
          elsewhere = λ j q. ap (λ (l : List Float). get_or l j nan) d ∙ divide-else g n i w h now-room j (off-x j q) (off-y j q) ∙ k.means.elsewhere j (still j q);
        };
      }
    where
      at_x : (p : ℕ) → p < i + 1 → Dec (p ≡ i) → get_or (divide_at g n i w) (g + p) nan ≡ sums_x g n w₀ p ⊘ weights g n w₀ p
      at_x p q (yes f) = rw f (divide-x g n i w h now-room ∙ ap₂ ◌⊘◌ (here g (inl refl)) (here (g + 2 * n) (inr (inr refl))))
      at_x p q (no f) = divide-else g n i w h now-room (g + p) (omega arith) (omega arith) ∙ k.means.mean-x p (omega arith)

      at_y : (p : ℕ) → p < i + 1 → Dec (p ≡ i) → get_or (divide_at g n i w) (g + n + p) nan ≡ sums_y g n w₀ p ⊘ weights g n w₀ p
      at_y p q (yes f) = rw f (divide-y g n i w h now-room ∙ ap₂ ◌⊘◌ (here (g + n) (inr (inl refl))) (here (g + 2 * n) (inr (inr refl))))
      at_y p q (no f) = divide-else g n i w h now-room (g + n + p) (omega arith) (omega arith) ∙ k.means.mean-y p (omega arith)

      off-x : (j : ℕ) → (j < g) ⊎ ((g + (i + 1) ≤ j) × (j < g + n)) ⊎ (g + n + (i + 1) ≤ j) → j ≢ g + i
      off-x j (inl q) = omega arith
      off-x j (inr (inl q)) = omega arith
      off-x j (inr (inr q)) = omega arith

      off-y : (j : ℕ) → (j < g) ⊎ ((g + (i + 1) ≤ j) × (j < g + n)) ⊎ (g + n + (i + 1) ≤ j) → j ≢ g + n + i
      off-y j (inl q) = omega arith
      off-y j (inr (inl q)) = omega arith
      off-y j (inr (inr q)) = omega arith

      still : (j : ℕ) → (j < g) ⊎ ((g + (i + 1) ≤ j) × (j < g + n)) ⊎ (g + n + (i + 1) ≤ j) → (j < g) ⊎ ((g + i ≤ j) × (j < g + n)) ⊎ (g + n + i ≤ j)
      still j (inl q) = inl q
      still j (inr (inl q)) = inr (inl (omega arith, q.1))
      still j (inr (inr q)) = inr (inr (omega arith))

  pub to-found : {w' : List Float} {q f : Verdict} (x : Refusal) → q ≡ Err x → DividedPoint g n i w w' q → f ≡ Err x → Divided g n w₀ w' f
  to-found {w'} {q} {f} x z s a =
      let r = row_of_point (sums_x g n w) (sums_y g n w) (weights g n w) i in
      let at = verdict-err r i x (sym s.answer ∙ z) in
      let bad : not (eqb (row_of_point (sums_x g n w₀) (sums_y g n w₀) (weights g n w₀) i) 0) ≡ true = ap not (ne_eqb _ 0 (λ q. at.0 (same_row ∙ q))) in
      let first = found bad in
      let d : w' ≡ w = s.work ∙ ap (λ (b : Bool). cond b (divide_at g n i w) w) (ne_eqb r 0 at.0) in
      record { answer = a ∙ ap Err at.1 ∙ told first same_row; means = subst (λ (m : ℕ). DividedTo g n m w₀ w') first (subst (DividedTo g n i w₀) (sym d) k.means) }
    where
      found : not (eqb (row_of_point (sums_x g n w₀) (sums_y g n w₀) (weights g n w₀) i) 0) ≡ true → i ≡ first_refused (sums_x g n w₀) (sums_y g n w₀) (weights g n w₀) n
      found b = found_first g n i w₀ b k.sound h

      told : {r : ℕ} → i ≡ first_refused (sums_x g n w₀) (sums_y g n w₀) (weights g n w₀) n → r ≡ row_of_point (sums_x g n w₀) (sums_y g n w₀) (weights g n w₀) i
          → Err (row_at r i) ≡ check_means (sums_x g n w₀) (sums_y g n w₀) (weights g n w₀) n
      told p q = check-refused (sums_x g n w₀) (sums_y g n w₀) (weights g n w₀) n p q h

pub to-done : {g n i : ℕ} {w₀ w : List Float} → i ≡ n → To g n i w₀ w → Divided g n w₀ w (Ok tt)
to-done {g} {n} {i} {w₀} {w} e k =
    let first : n ≡ first_refused (sums_x g n w₀) (sums_y g n w₀) (weights g n w₀) n = rw e at k.sound in
    record { answer = check_sound (sums_x g n w₀) (sums_y g n w₀) (weights g n w₀) n first; means = subst (λ (m : ℕ). DividedTo g n m w₀ w) (e ∙ first) k.means }

-- ---- sums and weights that are the same below n

pub check-same : (X Y W X' Y' W' : ℕ → Float) (n : ℕ) → ((v : ℕ) → v < n → X v ≡ X' v) → ((v : ℕ) → v < n → Y v ≡ Y' v) → ((v : ℕ) → v < n → W v ≡ W' v) → check_means X Y W n ≡ check_means X' Y' W' n
unfolding check_means first_refused
check-same X Y W X' Y' W' n p q r =
    let r₁ = lowest (λ v. not (eqb (row_of_point X Y W v) 0)) n in
    go r₁ (lowest-same _ _ n (λ v h. ap (λ (k : ℕ). not (eqb k 0)) (same v h))) (ltb r₁ n) refl
  where
    same : (v : ℕ) → v < n → row_of_point X Y W v ≡ row_of_point X' Y' W' v
    same v h = rw (p v h, q v h, r v h)

    go : (k : ℕ) {k' : ℕ} → k ≡ k' → (b : Bool) → ltb k n ≡ b → ◌≡◌ {A = Verdict} (cond (ltb k n) (Err (row_at (row_of_point X Y W k) k)) (Ok tt)) (cond (ltb k' n) (Err (row_at (row_of_point X' Y' W' k') k')) (Ok tt))
    go k e true h = rw (← e, h, same k (ltb-true k n h))
    go k e false h = rw (← e, h)

pub sound-all : (X Y W : ℕ → Float) (n : ℕ) → check_means X Y W n ≡ Ok tt → first_refused X Y W n ≡ n
unfolding check_means
sound-all X Y W n h = go (ltb (first_refused X Y W n) n) refl h
  where
    most : first_refused X Y W n ≤ n
    most = unfold first_refused in lowest-most _ n

    go : (b : Bool) → ltb (first_refused X Y W n) n ≡ b → ◌≡◌ {A = Verdict} (cond b (Err (row_at (row_of_point X Y W (first_refused X Y W n)) (first_refused X Y W n))) (Ok tt)) (Ok tt) → first_refused X Y W n ≡ n
    go true e z = let y : ◌≡◌ {A = ℕ} 0 1 = cc in absurd (omega arith)
    go false e z = omega (arith, ltb-false (first_refused X Y W n) n e, most)

-- a refusal of a point is a row with its place
pub means-row : (X Y W : ℕ → Float) (n : ℕ) (x : Refusal) → check_means X Y W n ≡ Err x → x ≡ row_at x.number x.place
unfolding check_means
means-row X Y W n x h = go (ltb (first_refused X Y W n) n) _ _ h
  where
    go : (b : Bool) (r i : ℕ) → ◌≡◌ {A = Verdict} (cond b (Err (row_at r i)) (Ok tt)) (Err x) → x ≡ row_at x.number x.place
    go true r i z = let e : row_at r i ≡ x = cc in subst (λ (y : Refusal). y ≡ row_at y.number y.place) e refl
    go false r i z = absurd (cc)
