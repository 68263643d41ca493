-- Two slices compared one place at a time: what is left to compare after i places says the same as the whole. Assumes nothing.
use Rattle.std.proofs.Common.{◌≡◌, ℕ, suc, ◌+◌, ◌<◌, ◌≤◌, Bool, true, false, cond, ◌&&◌, eqb, List, [], ◌∷◌, length, get_or, drop, sym, refl, ap, ◌∙◌, add-one, drop_of_length-le, drop-cons}
use Rattle.std.specs.Cmp.Lexicographic.{pointwise}
use Rattle.replay.specs.Rows.{same_all}

either : (t : Bool) {s : Bool} → false ≡ s → false ≡ cond t s false
either true e = e
either false e = refl

module _ {A : Type 0} (f : A → A → Bool) where
  pub same-unlike : (a b : List A) → (length a ≡ length b → ⊥) → false ≡ same_all f a b
  unfolding same_all
  same-unlike [] [] h = absurd (h refl)
  same-unlike [] (y ∷ b) h = refl
  same-unlike (x ∷ a) [] h = refl
  same-unlike (x ∷ a) (y ∷ b) h = either (f x y) (same-unlike a b (λ e. h (ap suc e)))

  module _ (a b : List A) (d : A) (i : ℕ) (la : i < length a) (lb : i < length b) where
    next-two : same_all f (drop i a) (drop i b) ≡ cond (f (get_or a i d) (get_or b i d)) (same_all f (drop (i + 1) a) (drop (i + 1) b)) false
    unfolding same_all
    next-two = rw (drop-cons a i d la, drop-cons b i d lb, add-one i)

    pub same_more : same_all f a b ≡ same_all f (drop i a) (drop i b) → f (get_or a i d) (get_or b i d) ≡ true → same_all f a b ≡ same_all f (drop (i + 1) a) (drop (i + 1) b)
    same_more h t = h ∙ next-two ∙ rw t

    pub same_differs : same_all f a b ≡ same_all f (drop i a) (drop i b) → f (get_or a i d) (get_or b i d) ≡ false → false ≡ same_all f a b
    same_differs h t = sym (h ∙ next-two ∙ rw t)

  pub same_none : (a b : List A) → same_all f a b ≡ same_all f (drop 0 a) (drop 0 b)
  same_none a b = refl

  pub same-done : (a b : List A) (i : ℕ) → length a ≤ i → length b ≤ i → same_all f a b ≡ same_all f (drop i a) (drop i b) → true ≡ same_all f a b
  unfolding same_all
  same-done a b i la lb h = sym (h ∙ rw (drop_of_length-le a la, drop_of_length-le b lb))

-- `==` of two slices of numbers
pub same_eq : (a b : List ℕ) → pointwise eqb a b ≡ same_all eqb a b
unfolding same_all
same_eq [] [] = refl
same_eq [] (y ∷ b) = refl
same_eq (x ∷ a) [] = refl
same_eq (x ∷ a) (y ∷ b) = go (eqb x y) (same_eq a b)
  where
    go : (t : Bool) → pointwise eqb a b ≡ same_all eqb a b → (t && pointwise eqb a b) ≡ cond t (same_all eqb a b) false
    go true e = e
    go false e = refl
