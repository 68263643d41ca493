-- Twice the area of a triangle on whole coordinates, exactly. Definitions only.
use Rattle.std.specs.Prelude.{ℕ, ◌*◌, ◌%◌, ◌≡◌, Bool, false, ◌&&◌, List, [], ◌∷◌, eqb, leb, ℤ, pos, negsuc, nat_abs, ◌+ℤ◌, ◌-ℤ◌, ◌*ℤ◌, Float}
use Rattle.std.proofs.Math.Option.{Option, none, some}
use Rattle.std.specs.Float.{nan, inf, fin}
use Rattle.std.specs.Float.Ieee.{up, down, to_signed}
use Rattle.float.specs.Double.{HALF, ◌⊕◌, ◌⊗◌}
use Rattle.mesh.specs.Mesh.{Tri, tri, pieces}

-- an even whole number of size at most 1,048,576: m * 2 ^ e, with no remainder by 2. A zero of either sign is one
unfoldable pub even_whole : Float → Bool
even_whole nan = false
even_whole (inf s) = false
even_whole (fin s m e) = eqb (m * up e % (down e * 2)) 0 && leb (m * up e) (1048576 * down e)

-- a whole number of size at most 1,048,576
unfoldable pub is_whole : Float → Bool
is_whole nan = false
is_whole (inf s) = false
is_whole (fin s m e) = eqb (m * up e % down e) 0 && leb (m * up e) (1048576 * down e)

-- the whole number that a float is, as Rust's `x as i64` has it
unfoldable pub coord : Float → ℤ
coord x = to_signed 63 x

-- refine_once's midpoint of two coordinates
unfoldable pub halfway : Float → Float → Float
halfway x y = HALF ⊗ (x ⊕ y)

-- twice the signed area of the triangle (ax, ay) (bx, by) (cx, cy)
abbrev pub cross : ℤ → ℤ → ℤ → ℤ → ℤ → ℤ → ℤ
cross ax ay bx by cx cy = (bx -ℤ ax) *ℤ (cy -ℤ ay) -ℤ (by -ℤ ay) *ℤ (cx -ℤ ax)

-- of three points of a floor, whose points have the whole coordinates X and Y
unfoldable pub signed : (ℕ → ℤ) → (ℕ → ℤ) → Tri → ℤ
signed X Y (tri a b c) = cross (X a) (Y a) (X b) (Y b) (X c) (Y c)

unfoldable pub twice : (ℕ → ℤ) → (ℕ → ℤ) → Tri → ℕ
twice X Y t = nat_abs (signed X Y t)

-- the point p, of the coordinates X' and Y', is the middle of a and b, of the coordinates X and Y
abbrev pub Middle : (ℕ → ℤ) → (ℕ → ℤ) → (ℕ → ℤ) → (ℕ → ℤ) → ℕ → ℕ → ℕ → Type 0
Middle X Y X' Y' p a b = (X' p +ℤ X' p ≡ X a +ℤ X b) × (Y' p +ℤ Y' p ≡ Y a +ℤ Y b)

-- the signed areas of a triangle's pieces, in quarters of its own, for each of the eight patterns. Two of them turn the winding round
abbrev pub shares : Option ℕ → Option ℕ → Option ℕ → List ℤ
shares none none none = pos 4 ∷ []
shares (some p) none none = pos 2 ∷ pos 2 ∷ []
shares none (some q) none = pos 2 ∷ pos 2 ∷ []
shares none none (some r) = pos 2 ∷ pos 2 ∷ []
shares (some p) (some q) none = negsuc 0 ∷ negsuc 1 ∷ negsuc 0 ∷ []
shares none (some q) (some r) = negsuc 0 ∷ negsuc 1 ∷ negsuc 0 ∷ []
shares (some p) none (some r) = pos 1 ∷ pos 2 ∷ pos 1 ∷ []
shares (some p) (some q) (some r) = pos 1 ∷ pos 1 ∷ pos 1 ∷ pos 1 ∷ []

-- four times each piece's signed area is its share of the signed area s
abbrev pub Shared : (ℕ → ℤ) → (ℕ → ℤ) → ℤ → List Tri → List ℤ → Type 0
Shared X Y s [] [] = Unit {0}
Shared X Y s [] (k ∷ ks) = ⊥
Shared X Y s (t ∷ ts) [] = ⊥
Shared X Y s (t ∷ ts) (k ∷ ks) = (pos 4 *ℤ signed X Y t ≡ k *ℤ s) × Shared X Y s ts ks

-- of a triangle on the coordinates X and Y, and its pieces on X' and Y'
abbrev pub SharedOf : (ℕ → ℤ) → (ℕ → ℤ) → (ℕ → ℤ) → (ℕ → ℤ) → (ℕ → ℕ → Option ℕ) → Tri → Type 0
SharedOf X Y X' Y' m (tri a b c) = Shared X' Y' (signed X Y (tri a b c)) (pieces m (tri a b c)) (shares (m a b) (m b c) (m c a))
