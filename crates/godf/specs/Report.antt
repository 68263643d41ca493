-- What C is told of a refinement: a row's number or 0, and four numbers. Definitions only.
use Rattle.std.specs.Prelude.{ℕ, List, [], ◌∷◌, ◌≡◌, length, Float, Ok, Err}
use Rattle.std.proofs.lemmas.List.Edits.{sets}
use Rattle.refinement.specs.Floor.{refinement_of, tris_of}
use Rattle.refine_call.specs.Call.{Answer, check_call, answer_of, CalledOn}

-- 0 where the floor is refined, or the row of document 01's table
abbrev pub code_of : Answer → ℕ
code_of (Ok c) = 0
code_of (Err x) = x.number

-- the counts of points, triangles, flagged triangles and cut sides; or the place of a refusal, and three zeros
abbrev pub numbers_of : Answer → List ℕ
numbers_of (Ok c) = c.points ∷ c.triangles ∷ c.flagged ∷ c.cut ∷ []
numbers_of (Err x) = x.place ∷ 0 ∷ 0 ∷ 0 ∷ []

-- what the refinement call answers: its points, triangles, sizes, angles and threshold, and the four result slices
abbrev pub answer_to : List Float → List ℕ → List Float → List Float → Float → List Float → List Float → List ℕ → List ℕ → Answer
answer_to points triangles sizes angles threshold op os ot oe =
    answer_of (check_call points triangles sizes (length angles) threshold (length op) (length os) (length ot) (length oe)) (refinement_of threshold angles points sizes (tris_of triangles))

-- the call as C sees it: the four result slices, the code and the report
pub record ToldOn (points : List Float) (triangles : List ℕ) (sizes angles : List Float) (threshold : Float) (op os : List Float) (ot oe report : List ℕ)
    (code : ℕ) (op' os' : List Float) (ot' oe' report' : List ℕ) : Type 0 where
  pub called : CalledOn points triangles sizes angles threshold op os ot oe (answer_to points triangles sizes angles threshold op os ot oe) op' os' ot' oe'
  pub told : code ≡ code_of (answer_to points triangles sizes angles threshold op os ot oe)
  pub numbers : report' ≡ sets report 0 (numbers_of (answer_to points triangles sizes angles threshold op os ot oe))
