-- The lines of triangles and sides: one more of them, how long they are, and that the slices of the refinement call hold them. Assumes nothing.
use Prim.Native.Nat.{ℕ, zero, suc, ◌+◌, ◌*◌}
use native.Mathlib.Omega.{arith}
use native.Mathlib.Numerals.{add-one}
use mathlib.Core.Path.{◌≡◌, refl, sym, ap, ◌∙◌}
use mathlib.Core.List.{List, [], ◌∷◌, ◌++◌, append_assoc, append-nil}
use lib.ListN.{length, length-append, get_or}
use lib.Seq.{sets}
use Rattle.mesh.specs.Mesh.{Tri, tri, Side, side}
use Rattle.refinement.specs.Floor.{tris, tri_at, ends_of}
use Rattle.refinement.proofs.Triangles.{tris-length}
use Rattle.refine_call.specs.declared.Counts.{Counts}
use Rattle.text_columns.specs.Columns.{line_of}
use Rattle.text_columns.proofs.Columns.{line-length}
use Rattle.slices.proofs.Runs.{sets-next}
use Rattle.text_answer.specs.Lines.{triangle_lines, side_lines, lines_of, sides_up_to}
use Rattle.text_answer.specs.Lines.{line_at, side_at}

-- ---- triangles

pub triangles-long : (ts : List Tri) → length (triangle_lines ts) ≡ 19 * length ts
unfolding triangle_lines
triangles-long [] = refl
triangles-long (tri a b c ∷ ts) = length-append (line_of (a ∷ b ∷ c ∷ [])) (triangle_lines ts) ∙ omega (arith, line-length (a ∷ b ∷ c ∷ []), triangles-long ts)

triangles-append : (s t : List Tri) → triangle_lines (s ++ t) ≡ triangle_lines s ++ triangle_lines t
unfolding triangle_lines
triangles-append [] t = refl
triangles-append (tri a b c ∷ s) t = ap (λ (l : List ℕ). line_of (a ∷ b ∷ c ∷ []) ++ l) (triangles-append s t) ∙ sym (append_assoc (line_of (a ∷ b ∷ c ∷ [])) (triangle_lines s) (triangle_lines t))

one-triangle : (a b c : ℕ) → triangle_lines (tri a b c ∷ []) ≡ line_of (a ∷ b ∷ c ∷ [])
unfolding triangle_lines
one-triangle a b c = append-nil (line_of (a ∷ b ∷ c ∷ []))

pub triangles-none : (l out : List ℕ) (at : ℕ) → out ≡ sets out at (triangle_lines (tris l 0))
unfolding tris triangle_lines
triangles-none l out at = refl

pub triangles-again : (l out₀ : List ℕ) {out out' : List ℕ} (at i : ℕ) → out ≡ sets out₀ at (triangle_lines (tris l i)) → out' ≡ sets out (at + 19 * i) (line_at l i) → out' ≡ sets out₀ at (triangle_lines (tris l (i + 1)))
unfolding tris
triangles-again l out₀ at i h e =
    let p : at + 19 * i ≡ at + length (triangle_lines (tris l i)) = omega (arith, triangles-long (tris l i), tris-length l i) in
    rw (add-one i) (e ∙ rw h (sets-next out₀ at (at + 19 * i) (triangle_lines (tris l i)) (line_at l i) p)
    ∙ ap (sets out₀ at) (sym (triangles-append (tris l i) (tri_at l i ∷ []) ∙ ap (λ (s : List ℕ). triangle_lines (tris l i) ++ s) (one-triangle (get_or l (3 * i) 0) (get_or l (3 * i + 1) 0) (get_or l (3 * i + 2) 0)))))

-- ---- sides

pub sides-long : (l : List Side) → length (side_lines l) ≡ 13 * length l
unfolding side_lines
sides-long [] = refl
sides-long (side a b ∷ l) = length-append (line_of (a ∷ b ∷ [])) (side_lines l) ∙ omega (arith, line-length (a ∷ b ∷ []), sides-long l)

sides-append : (s t : List Side) → side_lines (s ++ t) ≡ side_lines s ++ side_lines t
unfolding side_lines
sides-append [] t = refl
sides-append (side a b ∷ s) t = ap (λ (l : List ℕ). line_of (a ∷ b ∷ []) ++ l) (sides-append s t) ∙ sym (append_assoc (line_of (a ∷ b ∷ [])) (side_lines s) (side_lines t))

one_side : (a b : ℕ) → side_lines (side a b ∷ []) ≡ line_of (a ∷ b ∷ [])
unfolding side_lines
one_side a b = append-nil (line_of (a ∷ b ∷ []))

pub sides-length : (l : List ℕ) (i : ℕ) → length (sides_up_to l i) ≡ i
unfolding sides_up_to
sides-length l zero = refl
sides-length l (suc i) = length-append (sides_up_to l i) _ ∙ omega (arith, sides-length l i)

pub sides-none : (l out : List ℕ) (at : ℕ) → out ≡ sets out at (side_lines (sides_up_to l 0))
unfolding sides_up_to side_lines
sides-none l out at = refl

pub sides-again : (l out₀ : List ℕ) {out out' : List ℕ} (at i : ℕ) → out ≡ sets out₀ at (side_lines (sides_up_to l i)) → out' ≡ sets out (at + 13 * i) (side_at l i) → out' ≡ sets out₀ at (side_lines (sides_up_to l (i + 1)))
unfolding sides_up_to
sides-again l out₀ at i h e =
    let p : at + 13 * i ≡ at + length (side_lines (sides_up_to l i)) = omega (arith, sides-long (sides_up_to l i), sides-length l i) in
    let s = side (get_or l (2 * i) 0) (get_or l (2 * i + 1) 0) ∷ [] in
    rw (add-one i) (e ∙ rw h (sets-next out₀ at (at + 13 * i) (side_lines (sides_up_to l i)) (side_at l i) p)
    ∙ ap (sets out₀ at) (sym (sides-append (sides_up_to l i) s ∙ ap (λ (x : List ℕ). side_lines (sides_up_to l i) ++ x) (one_side (get_or l (2 * i) 0) (get_or l (2 * i + 1) 0)))))

sides-shift : (a b : ℕ) (l : List ℕ) (i : ℕ) → sides_up_to (a ∷ b ∷ l) (suc i) ≡ side a b ∷ sides_up_to l i
unfolding sides_up_to
sides-shift a b l zero = refl
sides-shift a b l (suc i) =
    let e₁ : 2 * suc i + 1 ≡ suc (suc (2 * i + 1)) = omega arith in
    let e₀ : 2 * suc i ≡ suc (suc (2 * i)) = omega arith in
    rw (sides-shift a b l i, e₁, e₀) refl

no_sides : (l : List ℕ) → sides_up_to l 0 ≡ []
unfolding sides_up_to
no_sides l = refl

pub sides-of : (l : List Side) (rest : List ℕ) → sides_up_to (ends_of l ++ rest) (length l) ≡ l
unfolding ends_of
sides-of [] rest = no_sides rest
sides-of (side a b ∷ l) rest = sides-shift a b (ends_of l ++ rest) (length l) ∙ ap (λ (s : List Side). side a b ∷ s) (sides-of l rest)

-- ---- all lines

pub lines_long : (k : Counts) (ts : List Tri) (l : List Side) → length (lines_of k ts l) ≡ 25 + 19 * length ts + 13 * length l
unfolding lines_of
lines_long k ts l =
    let head = k.points ∷ k.triangles ∷ k.flagged ∷ k.cut ∷ [] in
    length-append (line_of head) (triangle_lines ts ++ side_lines l) ∙ omega (arith, line-length head, length-append (triangle_lines ts) (side_lines l), triangles-long ts, sides-long l)

pub lines-put : {a b c : List ℕ} (k : Counts) (corners ends out : List ℕ) → a ≡ sets out 0 (line_of (k.points ∷ k.triangles ∷ k.flagged ∷ k.cut ∷ []))
    → b ≡ sets a 25 (triangle_lines (tris corners k.triangles)) → c ≡ sets b (25 + 19 * k.triangles) (side_lines (sides_up_to ends k.cut))
    → (c ≡ sets out 0 (lines_of k (tris corners k.triangles) (sides_up_to ends k.cut))) × (25 + 19 * k.triangles + 13 * k.cut ≡ length (lines_of k (tris corners k.triangles) (sides_up_to ends k.cut)))
unfolding lines_of
lines-put k corners ends out e₁ e₂ e₃ =
    let head = k.points ∷ k.triangles ∷ k.flagged ∷ k.cut ∷ [] in
    let ts = tris corners k.triangles in
    let l = sides_up_to ends k.cut in
    let n₁ = line-length head in
    let n₂ = triangles-long ts in
    let n₃ = tris-length corners k.triangles in (
      e₃ ∙ rw (e₂, e₁) (ap (λ (x : List ℕ). sets x (25 + 19 * k.triangles) (side_lines l)) (sets-next out 0 25 (line_of head) (triangle_lines ts) (omega (arith, n₁)))
          ∙ sets-next out 0 (25 + 19 * k.triangles) (line_of head ++ triangle_lines ts) (side_lines l) (omega (arith, length-append (line_of head) (triangle_lines ts), n₁, n₂, n₃))
          ∙ ap (sets out 0) (append_assoc (line_of head) (triangle_lines ts) (side_lines l))),
      sym (lines_long k ts l ∙ omega (arith, n₃, sides-length ends k.cut)),
    )
