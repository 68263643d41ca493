-- The passes of a call: what the pass over the given floor asks for, and what both passes leave, from what each of them made. Assumes nothing.
use Prim.Native.Nat.{ℕ, ◌+◌, ◌/◌, ◌≤◌}
use native.Mathlib.Omega.{arith}
use mathlib.Core.Path.{◌≡◌, refl, sym, ap, ◌∙◌, subst}
use mathlib.Core.Bool.{Bool, true, false}
use mathlib.Core.List.{List}
use lib.ListN.{length}
use lib.Ieee.{Float}
use Rattle.std.specs.Prelude.{Ok, None, Err}
use Rattle.edges.specs.Numbering.{Below}
use Rattle.refusals.specs.declared.Refusal.{Refusal}
use Rattle.pass_options.specs.declared.Options.{Options}
use Rattle.pass_options.specs.Options.{guidance_of}
use Rattle.pass_options.specs.Pass.{Passed, field, faulty}
use Rattle.pass.specs.declared.Asked.{Asked}
use Rattle.pass.specs.Pass.{pass_of}
use Rattle.pass_floor.specs.Lay.{Made}
use Rattle.pass_floor.specs.First.{first_base, first_over, FirstRoom}
use Rattle.calls.specs.Checks.{is_adaptive, most_points, most_triangles}
use Rattle.calls.specs.Solve.{first_pass, in_pass}
use Rattle.solve.specs.Passes.{call_for, ReadyFor, first_in, found_after, found_of, FirstStands, SecondStands, SameLengths, SecondMade, PassesMade, Found}
use Rattle.solve.proofs.Answers.{stage-faulty, stage-field}
use Rattle.refusals.specs.Refusal.{Verdict}

-- a call has room for a pass over the floor as given, whatever its threshold
pub some-points-fit : (b : Bool) (n t : ℕ) → n ≤ most_points b n t
unfolding most_points
some-points-fit true n t = omega arith
some-points-fit false n t = omega arith

pub some-triangles-fit : (b : Bool) (t : ℕ) → t ≤ most_triangles b t
unfolding most_triangles
some-triangles-fit true t = omega arith
some-triangles-fit false t = omega arith

-- two answers of one pass
one_answer : {A : Type 0} {p : Passed} {x : Refusal} {alpha : List Float} → p ≡ faulty x → p ≡ field alpha → A
one_answer e g = let z : ◌≡◌ {A = ℕ} 0 1 = cc in absurd (omega arith)

one_truth : {A : Type 0} {b : Bool} → b ≡ true → b ≡ false → A
one_truth e g = let z : true ≡ false = sym e ∙ g in let y : ◌≡◌ {A = ℕ} 0 1 = cc in absurd (omega arith)

module _ (points : List Float) (corners : List ℕ) (sizes angles : List Float) (o : Options) (a : Asked) (w : List Float) (u : List ℕ)
    (ready : ReadyFor (call_for points corners sizes angles o a) w u) where
  pub first-room : FirstRoom a.guided (length points) (length corners) (length sizes) (length angles) (length w) (length u)
  first-room =
      let p = some-points-fit (is_adaptive o) (length points / 3) (length corners / 3) in
      let q = some-triangles-fit (is_adaptive o) (length corners / 3) in
      record {
        whole = ready.whole;
        whole-corners = ready.whole-corners;
        sized = ready.sized;
        guided-all = λ h. ready.guided-all a.weight angles (ap (λ (b : Bool). guidance_of b a.weight angles) h);
        few-points = omega (arith, ready.few-points);
        few-triangles = omega (arith, ready.few-triangles);
        reals-fit = omega (arith, ready.reals-room);
        words-fit = omega (arith, ready.words-room, ready.some-points);
      }

  pub first_below : Below (length points / 3) 0 corners (length corners)
  first_below j h = ready.corners (0 + j) (omega arith)

  module _ {w₁ : List Float} {u₁ : List ℕ} {s : Verdict}
      (made : Made (first_base (length points) (length corners)) (first_over o a points corners sizes angles) w w₁ u u₁ s) where
    same : SameLengths w w₁ u u₁
    same = record { all-reals = made.all-reals; all_words = made.all_words }

    pub passes-refused : (x : Refusal) → s ≡ Err x → {r : Found} → r ≡ Err (in_pass 1 x) → PassesMade (call_for points corners sizes angles o a) w w₁ u u₁ r
    unfolding found_of
    passes-refused x h told =
        let p : first_pass pass_of (call_for points corners sizes angles o a) ≡ faulty x = stage-faulty _ x (sym h ∙ made.answer) in
        record {
          answer = rw p told;
          first-stands = made.found;
          second-stands = λ alpha e. one_answer p e;
          lengths = same;
        }

    pub passes-once : is_adaptive o ≡ false → s ≡ Ok tt → PassesMade (call_for points corners sizes angles o a) w w₁ u u₁ (Ok None)
    unfolding found_of found_after
    passes-once low h =
        let p = stage-field (first_pass pass_of (call_for points corners sizes angles o a)) (sym h ∙ made.answer) in
        record {
          answer = rw (p.1, low) refl;
          first-stands = made.found;
          second-stands = λ alpha e beta g q. one_truth g (rw low refl);
          lengths = same;
        }

    -- the first pass was accepted
    module _ (above : is_adaptive o ≡ true) (h : s ≡ Ok tt) where
      accepted : first_pass pass_of (call_for points corners sizes angles o a) ≡ field (first_in (length points / 3) w₁)
      accepted =
          let p = stage-field (first_pass pass_of (call_for points corners sizes angles o a)) (sym h ∙ made.answer) in
          p.1 ∙ ap field (sym (made.found p.0 p.1))

      pub second-asked : ReadyFor (call_for points corners sizes angles o a) w₁ u₁ × FirstStands (call_for points corners sizes angles o a) w₁
      second-asked = (rw (made.all-reals, made.all_words) ready, record { accepted = accepted; above = above })

      pub passes-twice : {w' : List Float} {u' : List ℕ} {r : Found} → SecondMade (call_for points corners sizes angles o a) w₁ w' u₁ u' r
          → PassesMade (call_for points corners sizes angles o a) w w' u u' r
      unfolding found_of
      passes-twice {w'} {u'} {r} second = record {
        answer = rw accepted second.answer;
        first-stands = λ alpha e. second.first-stays ∙ found alpha e;
        second-stands = λ alpha e. subst (λ (x : List Float). SecondStands (call_for points corners sizes angles o a) x w') (found alpha e) second.second-stands;
        lengths = record { all-reals = second.lengths.all-reals ∙ made.all-reals; all_words = second.lengths.all_words ∙ made.all_words };
      }
        where
          found : (alpha : List Float) → first_pass pass_of (call_for points corners sizes angles o a) ≡ field alpha → first_in (length points / 3) w₁ ≡ alpha
          found alpha e = made.found alpha e
