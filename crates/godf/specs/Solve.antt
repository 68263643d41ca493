-- What C gives a solve beside its slices, and what it is told of one: options and reports as lists of seven numbers, lengths by row 18, the part that is
-- the answer. Definitions only.
use Rattle.std.specs.Prelude.{ℕ, ◌+◌, ◌*◌, ◌≡◌, Bool, not, cond, ◌||◌, List, [], ◌∷◌, eqb, ltb, length, get_or, take, Float, Ok, Err}
use Rattle.std.specs.Float.{nan}
use Rattle.std.specs.Float.Ieee.{eq, ne, lt}
use Rattle.float.specs.Double.{lit}
use Rattle.floor.specs.Checks.{MOST-POINTS, MOST-TRIANGLES}
use Rattle.pass_options.specs.declared.Options.{Options}
use Rattle.pass_options.specs.declared.BoundaryMode.{BoundaryMode}
use Rattle.pass_options.specs.declared.BoundaryMode.TheVariants.{None, Tangent, Weak}
use Rattle.pass.specs.declared.Asked.{Asked}
use Rattle.calls.specs.Checks.{most_points, most_triangles, Outcome}
use Rattle.calls.specs.Solve.{Ended, answer_part, number_of}
use Rattle.godf.specs.declared.solve_call.Most.{Most}

-- ---- what is given

-- the boundary mode of a number: 0 none, 1 tangent, 2 weak with its weight. Any other is weak with weight -1, which row 13 refuses
unfoldable pub boundary_of : Float → Float → BoundaryMode
boundary_of mode weight =
    cond (eq mode (lit 0)) None
    (cond (eq mode (lit 0x3ff0_0000_0000_0000)) Tangent
    (cond (eq mode (lit 0x4000_0000_0000_0000)) (Weak weight) (Weak (lit 0xbff0_0000_0000_0000))))

-- the numbers of a godf_options, in its order: accurate (not 0: true), holomorphic, anisotropy, its angle, boundary, its weight, threshold
unfoldable pub options_of : List Float → Options
options_of o = record {
  accurate = ne (get_or o 0 nan) (lit 0);
  holomorphic = get_or o 1 nan;
  anisotropy = get_or o 2 nan;
  anisotropy_angle = get_or o 3 nan;
  boundary = boundary_of (get_or o 4 nan) (get_or o 5 nan);
  adaptive = get_or o 6 nan;
}

-- guidance is given where its flag is not 0
abbrev pub asked_of : ℕ → Float → ℕ → Asked
asked_of guided weight iterations = record { guided = not (eqb guided 0); weight = weight; iterations = iterations }

-- ---- what is told

-- the numbers of a godf_report, in its order: number, place, other place, pass, reason, flagged triangles, cut sides; each 0 where there is none
abbrev pub report_of : Outcome → List ℕ
report_of (Ok c) = 0 ∷ 0 ∷ 0 ∷ 0 ∷ 0 ∷ c.flagged ∷ c.cut ∷ []
report_of (Err x) = x.number ∷ x.place ∷ x.other ∷ x.pass ∷ x.reason ∷ 0 ∷ 0 ∷ []

-- the solve as C sees it: the number that it returns, the four slices and the report
pub record SolveTold (e : Ended) (number : ℕ) (coarse fine work : List Float) (words report : List ℕ) : Type 0 where
  pub told : number ≡ number_of e.outcome
  pub coarse-left : coarse ≡ e.lent.coarse
  pub fine-left : fine ≡ e.lent.fine
  pub work-left : work ≡ e.lent.work
  pub words_left : words ≡ e.lent.words
  pub reported : report ≡ report_of e.outcome

-- ---- how long the lent slices have to be, by row 18

-- row 1's limits, of n points and t triangles
abbrev pub over_limits : ℕ → ℕ → Bool
over_limits n t = ltb MOST-POINTS n || ltb MOST-TRIANGLES t

-- n' and t'; 0 and 0 where row 1 refuses, so that no length would do
unfoldable pub most_of : ℕ → ℕ → Float → Most
most_of n t threshold =
    cond (over_limits n t) (record { points = 0; triangles = 0 })
    (record { points = most_points (lt (lit 0) threshold) n t; triangles = most_triangles (lt (lit 0) threshold) t })

abbrev pub fine_count : ℕ → ℕ → Float → ℕ
fine_count n t threshold = cond (lt (lit 0) threshold) (most_of n t threshold).points 0

abbrev pub work_reals : ℕ → ℕ → Float → ℕ
work_reals n t threshold = 64 * (most_of n t threshold).points + 32 * (most_of n t threshold).triangles

abbrev pub work_words : ℕ → ℕ → Float → ℕ
work_words n t threshold = 16 * (most_of n t threshold).points + 32 * (most_of n t threshold).triangles

-- ---- the answer

-- the first `count` angles of the coarse slice, or of the fine slice where the code is 1, are the answer
pub record AnswerTold (n flagged : ℕ) (coarse fine : List Float) (code count : ℕ) : Type 0 where
  pub slice : code ≡ cond (eqb flagged 0) 0 1
  pub counted : count ≡ length (answer_part n flagged coarse fine)
  pub part : take count (cond (eqb flagged 0) coarse fine) ≡ answer_part n flagged coarse fine
