-- Something compared with what is recorded, where the rest is compared only if it is the same: what each arm says of the whole. Assumes nothing.
use Rattle.std.proofs.Common.{◌≡◌, ℕ, Bool, true, false, cond, eqb, List, sym, ◌∙◌, eq-eqb, ne_eqb}
use Rattle.replay.specs.Rows.{same_all}

-- a and b, which stand for v and w, are the same, and the rest decides
pub told : {a b v w : ℕ} {q r : Bool} → a ≡ b → a ≡ v → b ≡ w → r ≡ q → r ≡ cond (eqb v w) q false
told e ea eb h = rw (eq-eqb _ _ (sym ea ∙ e ∙ eb)) h

-- they are not
pub untold : {a b v w : ℕ} (q : Bool) → (a ≡ b → ⊥) → a ≡ v → b ≡ w → false ≡ cond (eqb v w) q false
untold q e ea eb = rw (ne_eqb _ _ (λ f. e (ea ∙ f ∙ sym eb)))

-- the last test: b stands for w
pub last : (a : ℕ) {b w : ℕ} → b ≡ w → eqb a b ≡ eqb a w
last a e = rw e

-- the same of a test p that stands for s
pub held : {p s q r : Bool} → p ≡ true → p ≡ s → r ≡ q → r ≡ cond s q false
held e es h = rw (sym es ∙ e) h

pub unheld : {p s : Bool} (q : Bool) → p ≡ false → p ≡ s → false ≡ cond s q false
unheld q e es = rw (sym es ∙ e)

-- a slice compared with b, which is b'
pub compared : {A : Type 0} (f : A → A → Bool) (a : List A) {b b' : List A} {p : Bool} → b ≡ b' → p ≡ same_all f a b → p ≡ same_all f a b'
compared f a e h = rw e at h
