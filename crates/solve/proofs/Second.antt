-- The second pass of a call is over the refined floor, and has the room that document 01 lends: what the calls of `second_pass` ask for, and what the
-- one that passes over the floor found. Assumes nothing.
use Prim.Native.Nat.{ℕ, ◌+◌, ◌*◌, ◌/◌, ◌^◌, ◌≤◌, ◌<◌}
use native.Mathlib.Omega.{arith}
use mathlib.Core.Path.{◌≡◌, refl, sym, ap, ◌∙◌, subst}
use mathlib.Core.Bool.{Bool, true, false, cond, ◌&&◌}
use mathlib.Core.List.{List}
use borrow.Author.Tests.{ne_eqb}
use lib.ListN.{length, get_or}
use lib.Seq.{length-sets}
use lib.Ieee.{Float, lt}
use Rattle.std.specs.Prelude.{Some, Ok, None, Err}
use Rattle.float.specs.Double.{lit}
use Rattle.mesh.specs.Mesh.{Tri, Side, All, Good, cuts, mid, refine, refined}
use Rattle.mesh.specs.Claim.{InRange}
use Rattle.mesh.proofs.Whole.{All-map, good-in-range}
use Rattle.mesh.proofs.Good.{refined-good}
use Rattle.slices.proofs.Runs.{sets-before}
use Rattle.edges.specs.declared.Table.{Table}
use Rattle.edges.specs.Table.{sides_in, end_of, cuts_in}
use Rattle.edges.specs.Numbering.{tris_from, Below}
use Rattle.edges.proofs.Tree.{length_pairs}
use Rattle.edges.proofs.Numbering.{sides-same}
use Rattle.refinement.specs.declared.Cut.{Cut}
use Rattle.refinement.specs.Flag.{flagged_tri}
use Rattle.refinement.specs.Floor.{tris_of, corners_of, refinement_of}
use Rattle.refinement.proofs.Parts.{refined-most}
use Rattle.refinement.proofs.Triangles.{tris-length}
use Rattle.refinement.specs.Guidance.{more_angles}
use Rattle.refinement.specs.Stored.{Stored}
use Rattle.pass_layout.specs.declared.Base.{Base}
use Rattle.pass_options.specs.declared.Options.{Options}
use Rattle.pass_options.specs.Options.{guided, unguided, guidance_of}
use Rattle.pass_options.specs.Pass.{stage_of}
use Rattle.pass.specs.declared.Asked.{Asked}
use Rattle.pass.specs.Pass.{pass_of}
use Rattle.pass.proofs.Facts.{pass-facts}
use Rattle.refusals.specs.declared.Refusal.{Refusal}
use Rattle.pass_floor.specs.Lay.{pass_over, pass_at, LaidRoom, Made}
use Rattle.calls.specs.Checks.{most_points, most_triangles}
use Rattle.calls.specs.Solve.{first_floor, second_pass, refined_by, refines, in_pass, extended, without_threshold}
use Rattle.mesh.proofs.Good.{both-good}
use Rattle.calls.proofs.Room.{points-in}
use Rattle.solve.specs.Passes.{call_for, again, ReadyFor, first_in, found_after, FirstStands, SecondStands, SameLengths, CutRoom, CutsBy, SecondMade, Found}
use Rattle.solve.proofs.Answers.{stage-faulty, stage-field, both_true, front-stays}
use Rattle.solve.proofs.Corners.{below-in-range, stored-tris, stored-below}
use Rattle.refusals.specs.Refusal.{Verdict}

-- the guidance of the second pass
extended-is : (given : Bool) (weight : Float) (angles : List Float) (l : List Side)
    → guidance_of (given && lt (lit 0) weight) weight (more_angles angles l) ≡ extended (guidance_of given weight angles) l
extended-is false weight angles l = refl
extended-is true weight angles l = go (lt (lit 0) weight)
  where
    go : (b : Bool) → guidance_of b weight (more_angles angles l) ≡ cond b (guided weight (more_angles angles l)) unguided
    go true = refl
    go false = refl

-- where the refined floor begins, and its cut sides
abbrev pub base_at : List Float → List ℕ → ℕ → ℕ → Base
base_at points corners m k = record { reals = length points / 3; words = length points / 3 + 12 * (length corners / 3); points = length points / 3 + m; triangles = k }

abbrev pub table_at : List Float → ℕ → Table
table_at points m = record { base = 0; buckets = length points / 3; sides = m }

module _ (points : List Float) (corners : List ℕ) (sizes angles : List Float) (o : Options) (a : Asked) (w : List Float) (u : List ℕ)
    (ready : ReadyFor (call_for points corners sizes angles o a) w u) (stands : FirstStands (call_for points corners sizes angles o a) w) where
  pub words-room : 16 * (length points / 3 + 3 * (length corners / 3)) + 32 * (4 * (length corners / 3)) ≤ length u
  unfolding most_points most_triangles
  words-room = rw stands.above at ready.words-room

  pub reals-room : 64 * (length points / 3 + 3 * (length corners / 3)) + 32 * (4 * (length corners / 3)) ≤ length w
  unfolding most_points most_triangles
  reals-room = rw stands.above at ready.reals-room

  pub cut-room : CutRoom (length corners) (length points / 3) (length w) (length u)
  cut-room = record { some = ready.some-points; few-buckets = omega (arith, ready.few-points); few = ready.few-triangles; angles-in = omega (arith, reals-room); table-in = omega (arith, words-room) }

  good : All (Good (length points / 3)) (tris_of corners)
  good =
      let inside = below-in-range corners (length points / 3) (length corners / 3) (λ j h. ready.corners j (omega (arith, ready.whole-corners))) in
      let c = call_for points corners sizes angles o a in
      both-good (length points / 3) (tris_of corners) inside
      (pass-facts.three-corners (first_floor c) o c.guidance a.iterations (first_in (length points / 3) w) (subst (λ (k : ℕ). All (InRange k) (tris_of corners)) (sym (points-in points)) inside) stands.accepted)

  module _ {u₂ : List ℕ} {cut : Cut} (found : CutsBy corners (length points / 3) o.adaptive w u u₂ cut) where
    pub refine-room : ((3 * (length corners / 3) ≤ length corners) × (length points / 3 + cut.sides < 2 ^ 32))
        × ((end_of (table_at points cut.sides) ≤ (length points / 3 + 12 * (length corners / 3))) × ((length points / 3 + 12 * (length corners / 3)) + 12 * (length corners / 3) ≤ length u₂))
    refine-room = ((omega (arith, ready.whole-corners), omega (arith, found.few, ready.few-points, ready.few-triangles)), (omega (arith, found.few), omega (arith, found.same_length, words-room)))

    abbrev new_tris : List Tri
    new_tris = refined (mid (length points / 3) (sides_in 0 (length points / 3) u₂ cut.sides)) (tris_of corners)

    same-tris : new_tris ≡ (refined_by (call_for points corners sizes angles o a) (first_in (length points / 3) w)).triangles
    unfolding refinement_of refine
    same-tris = ap (λ (l : List Side). refined (mid (length points / 3) l) (tris_of corners)) found.cut

    same-cut : sides_in 0 (length points / 3) u₂ cut.sides ≡ (refined_by (call_for points corners sizes angles o a) (first_in (length points / 3) w)).cut
    unfolding refinement_of
    same-cut = found.cut

    pub cut-count : cut.sides ≡ length (refined_by (call_for points corners sizes angles o a) (first_in (length points / 3) w)).cut
    cut-count = sym (length_pairs _ _ cut.sides) ∙ ap length same-cut

    pub flag-count : cut.flagged ≡ (refined_by (call_for points corners sizes angles o a) (first_in (length points / 3) w)).flagged
    unfolding refinement_of
    flag-count = found.flagged

    pub none-flagged : cut.flagged ≡ 0 → refines (call_for points corners sizes angles o a) (first_in (length points / 3) w) ≡ false
    none-flagged e = rw (stands.above, ← flag-count, e) refl

    pub some-flagged : ¬ (cut.flagged ≡ 0) → refines (call_for points corners sizes angles o a) (first_in (length points / 3) w) ≡ true
    some-flagged e = rw (stands.above, ← flag-count, ne_eqb cut.flagged 0 e) refl

    -- nothing is flagged: no second pass
    pub second_none : cut.flagged ≡ 0 → SecondMade (call_for points corners sizes angles o a) w w u u₂ (Ok None)
    unfolding found_after
    second_none e = record {
      answer = rw (none-flagged e) refl;
      first-stays = refl;
      second-stands = λ beta h q. let z : true ≡ false = sym h ∙ none-flagged e in let y : ◌≡◌ {A = ℕ} 0 1 = cc in absurd (omega arith);
      lengths = record { all-reals = refl; all_words = found.same_length };
    }

    most : length new_tris ≤ 4 * (length corners / 3)
    most = omega (arith, refined-most (mid (length points / 3) (sides_in 0 (length points / 3) u₂ cut.sides)) (tris_of corners), tris-length corners (length corners / 3))

    new-in-range : All (InRange (length points / 3 + cut.sides)) new_tris
    unfolding refine
    new-in-range =
        let f = flagged_tri o.adaptive (first_in (length points / 3) w) in
        let e : length (cuts f (tris_of corners)) ≡ cut.sides = sym (ap length found.cut) ∙ length_pairs _ _ cut.sides in
        let g = All-map (Good (length points / 3 + length (cuts f (tris_of corners)))) (InRange (length points / 3 + length (cuts f (tris_of corners)))) (good-in-range _) (refine (length points / 3) f (tris_of corners)) (refined-good (length points / 3) f (tris_of corners) good) in
        rw (found.cut, ← e) g

    module _ {u₃ : List ℕ} {k : ℕ} (stored : Stored new_tris u₂ (length points / 3 + 12 * (length corners / 3)) 0 u₃ k) where
      many : k ≡ length new_tris
      many = omega (arith, stored.counted)

      room : (length points / 3 + 12 * (length corners / 3)) + 3 * length new_tris ≤ length u₂
      room = omega (arith, most, found.same_length, words-room)

      pub long : length u₃ ≡ length u
      long = ap length stored.stands ∙ length-sets u₂ (length points / 3 + 12 * (length corners / 3)) (corners_of new_tris) ∙ found.same_length

      tris-there : tris_from (length points / 3 + 12 * (length corners / 3)) u₃ k ≡ new_tris
      tris-there = rw many (stored-tris u₂ (length points / 3 + 12 * (length corners / 3)) new_tris room stored.stands)

      pub corners-below : Below (length points / 3 + cut.sides) (length points / 3 + 12 * (length corners / 3)) u₃ (3 * k)
      corners-below = rw many (stored-below u₂ (length points / 3 + 12 * (length corners / 3)) new_tris room stored.stands (length points / 3 + cut.sides) new-in-range)

      cuts-there : cuts_in (table_at points cut.sides) u₃ ≡ sides_in 0 (length points / 3) u₂ cut.sides
      cuts-there = sides-same 0 (length points / 3) u₂ u₃ cut.sides (λ j _ h. ap (λ (x : List ℕ). get_or x j 0) stored.stands ∙ sets-before u₂ (length points / 3 + 12 * (length corners / 3)) (corners_of new_tris) j 0 (omega (arith, found.few)))

      pub laid-room : {a' : Asked} → a' ≡ again a → LaidRoom (base_at points corners cut.sides k) a'.guided (length points) (length sizes) (length angles) (table_at points cut.sides) (length w) (length u₃)
      laid-room e = rw e (record {
        whole = ready.whole;
        sized = ready.sized;
        guided-all = λ h. ready.guided-all a.weight angles (ap (λ (b : Bool). guidance_of b a.weight angles) (both_true a.guided (lt (lit 0) a.weight) h));
        table-in = omega (arith, found.few, long, words-room);
        all-points = refl;
        fits = record {
          small = record {
            reals-small = omega (arith, ready.few-points);
            words_small = omega (arith, ready.few-points, ready.few-triangles);
            points-small = omega (arith, ready.few-points, ready.few-triangles, found.few);
            triangles-small = omega (arith, ready.few-triangles, most, many);
          };
          reals-fit = omega (arith, most, many, found.few, reals-room);
          words-fit = omega (arith, most, many, found.few, long, words-room, ready.some-points);
        };
      })

      second-as : pass_at (base_at points corners cut.sides k) (without_threshold o) (again a) (table_at points cut.sides) points sizes angles u₃
          ≡ second_pass pass_of (call_for points corners sizes angles o a) (first_in (length points / 3) w)
      unfolding pass_over refinement_of refine
      second-as =
          rw (cuts-there, tris-there, found.cut, extended-is a.guided a.weight angles (cuts (flagged_tri o.adaptive (first_in (length points / 3) w)) (tris_of corners))) refl

      second_is : {o' : Options} {a' : Asked} → o' ≡ without_threshold o → a' ≡ again a
          → pass_at (base_at points corners cut.sides k) o' a' (table_at points cut.sides) points sizes angles u₃ ≡ second_pass pass_of (call_for points corners sizes angles o a) (first_in (length points / 3) w)
      second_is e g = rw (e, g) second-as

      -- the pass over the refined floor was made
      module _ (some : ¬ (cut.flagged ≡ 0)) {o' : Options} {a' : Asked} (e : o' ≡ without_threshold o) (g : a' ≡ again a) {w' : List Float} {u' : List ℕ} {s : Verdict}
          (made : Made (base_at points corners cut.sides k) (pass_at (base_at points corners cut.sides k) o' a' (table_at points cut.sides) points sizes angles u₃) w w' u₃ u' s) where
        answered : s ≡ stage_of (second_pass pass_of (call_for points corners sizes angles o a) (first_in (length points / 3) w))
        answered = made.answer ∙ ap stage_of (second_is e g)

        stays : first_in (length points / 3) w' ≡ first_in (length points / 3) w
        stays = front-stays (length points / 3) w w' made.reals-below

        second-stands : SecondStands (call_for points corners sizes angles o a) (first_in (length points / 3) w) w'
        second-stands beta h q = rw (← cut-count) (made.found beta (second_is e g ∙ q))

        lengths : SameLengths w w' u u'
        lengths = record { all-reals = made.all-reals; all_words = made.all_words ∙ long }

        pub second-refused : (x : Refusal) → s ≡ Err x → {r : Found} → r ≡ Err (in_pass 2 x) → SecondMade (call_for points corners sizes angles o a) w w' u u' r
        unfolding found_after
        second-refused x h told = record {
          answer = rw (some-flagged some, stage-faulty (second_pass pass_of (call_for points corners sizes angles o a) (first_in (length points / 3) w)) x (sym h ∙ answered)) told;
          first-stays = stays;
          second-stands = second-stands;
          lengths = lengths;
        }

        pub second-twice : s ≡ Ok tt → SecondMade (call_for points corners sizes angles o a) w w' u u' (Ok (Some (record { flagged = cut.flagged; cut = cut.sides })))
        unfolding found_after
        second-twice h = record {
          answer = rw (some-flagged some, (stage-field (second_pass pass_of (call_for points corners sizes angles o a) (first_in (length points / 3) w)) (sym h ∙ answered)).1, flag-count, cut-count) refl;
          first-stays = stays;
          second-stands = second-stands;
          lengths = lengths;
        }
