-- A whole pass, from its two parts: set-up refuses, or the rest goes on from the floor that it leaves as it was. Assumes nothing.
use Prim.Native.Nat.{ℕ, ◌*◌}
use native.Mathlib.Omega.{arith}
use mathlib.Core.Path.{◌≡◌, sym, ap, ◌∙◌, subst}
use mathlib.Core.List.{List}
use lib.ListN.{length}
use lib.Ieee.{Float, nan}
use Rattle.std.specs.Prelude.{Ok, Err}
use Rattle.floor.specs.Floor.{Floor}
use Rattle.refusals.specs.declared.Refusal.{Refusal}
use Rattle.pass_options.specs.declared.Options.{Options}
use Rattle.edges.specs.Numbering.{Below}
use Rattle.pass_layout.specs.declared.Base.{Base}
use Rattle.pass_layout.specs.declared.Layout.{Layout}
use Rattle.pass_layout.specs.Layout.{Fits, Ordered, layout_of}
use Rattle.pass_layout.specs.Work.{floor_in, guidance_in}
use Rattle.pass_layout.proofs.Regions.{fits-ordered, floor-stays}
use Rattle.pass_setup.specs.Work.{Stands, SetUp}
use Rattle.pass_branches.specs.Work.{Finds}
use Rattle.pass.specs.declared.Asked.{Asked}
use Rattle.pass.specs.Pass.{field_over, after_setup, pass_of}
use Rattle.pass.specs.Work.{guidance_at, pass_in, field_in}
use Rattle.pass.proofs.Below.{region-below}
use Rattle.pass.proofs.Rest.{Alike, finds-from, refusal-found}
use Rattle.refusals.specs.Refusal.{Verdict}
use Rattle.pass_setup.specs.Setup.{Setup}

module _ (l : Layout) (w : List Float) (u : List ℕ) (o : Options) (a : Asked) (ok : Ordered l (length w) (length u))
    {w₁ : List Float} {u₁ : List ℕ} {r : Setup} (s : SetUp l w u w₁ u₁ r) where
  pub ordered-now : Ordered l (length w₁) (length u₁)
  ordered-now = rw (s.all-reals, s.all_words) ok

  same-floor : floor_in l w₁ u₁ ≡ floor_in l w u
  same-floor = floor-stays l ok w w₁ u u₁ s.reals-below s.words-below

  pub stands-now : (m : ℕ) → r ≡ Ok m → Stands l m (floor_in l w₁ u₁) w₁ u₁
  stands-now m e = subst (λ (f : Floor). Stands l m f w₁ u₁) (sym same-floor) (s.stands m e)

  alike : Alike l l.areas l.wound w w₁ u u₁
  alike = record {
    all-reals = s.all-reals;
    all_words = s.all_words;
    reals-below = s.reals-below;
    reals-behind = λ j h. s.reals-behind j (omega arith);
    words-below = s.words-below;
    words-behind = λ j h. s.words-behind j (omega arith);
  }

  pub pass-refused : (x : Refusal) → r ≡ Err x → {q : Verdict} → q ≡ Err x → Finds l l.areas l.wound (pass_in l o a w u) w u w₁ u₁ q
  unfolding pass_in pass_of
  pass-refused x e f = rw f (refusal-found l (omega arith) (pass_in l o a w u) x w w₁ u u₁
      (ap (λ (z : Setup). after_setup z (field_over (floor_in l w u) o (guidance_at l a w) a.iterations)) (sym s.answer ∙ e))
      alike)

  pub pass-found : (m : ℕ) → r ≡ Ok m → {w₂ : List Float} {u₂ : List ℕ} {q : Verdict} → Finds l l.mass l.table (field_in l o a w₁ u₁) w₁ u₁ w₂ u₂ q
      → Finds l l.areas l.wound (pass_in l o a w u) w u w₂ u₂ q
  pass-found m e f = finds-from l (omega arith) (omega arith) (omega arith) (field_in l o a w₁ u₁) (pass_in l o a w u) w w₁ u u₁ same-field alike f
    where
      same-guidance : guidance_in l w₁ ≡ guidance_in l w
      same-guidance = region-below nan l.areas w w₁ s.reals-below l.guidance l.points (omega arith)

      same-field : field_in l o a w₁ u₁ ≡ pass_in l o a w u
      same-field = unfold field_in pass_in pass_of in
          rw (same-floor, same-guidance) (sym (ap (λ (z : Setup). after_setup z (field_over (floor_in l w u) o (guidance_at l a w) a.iterations)) (sym s.answer ∙ e)))

-- ---- the layout that a pass makes itself is its definition

pub ordered-by : (at : Base) {l : Layout} {reals words : ℕ} → l ≡ layout_of at → Fits at reals words → Ordered l reals words
ordered-by at {l} {reals} {words} e h = subst (λ (x : Layout). Ordered x reals words) (sym e) (fits-ordered at h)

pub below_by : (at : Base) (l : Layout) (u : List ℕ) → l ≡ layout_of at → Below at.points at.words u (3 * at.triangles) → Below l.points l.given u (3 * l.triangles)
unfolding layout_of
below_by at l u e h = subst (λ (x : Layout). Below x.points x.given u (3 * x.triangles)) (sym e) h

pub found-by : (at : Base) {l : Layout} (o : Options) (a : Asked) {w w₁ : List Float} {u u₁ : List ℕ} {r : Verdict} → l ≡ layout_of at
    → Finds l l.areas l.wound (pass_in l o a w u) w u w₁ u₁ r → Finds (layout_of at) (layout_of at).areas (layout_of at).wound (pass_in (layout_of at) o a w u) w u w₁ u₁ r
found-by at {l} o a {w} {w₁} {u} {u₁} {r} e f = subst (λ (x : Layout). Finds x x.areas x.wound (pass_in x o a w u) w u w₁ u₁ r) e f
