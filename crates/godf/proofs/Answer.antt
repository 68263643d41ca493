-- The answer is the front of a slice. Assumes nothing.
use Prim.Native.Nat.{ℕ}
use mathlib.Core.Path.{◌≡◌, refl}
use mathlib.Core.Bool.{Bool, true, false, cond}
use mathlib.Core.List.{List, []}
use lib.Dec.{eqb, ltb}
use borrow.Author.Tests.{ltb-false}
use lib.ListN.{length, take}
use lib.Seq.{length-take-le}
use lib.Ieee.{Float}
use Rattle.calls.specs.Solve.{first_angles, answer_part}

pub front : (n : ℕ) (s : List Float) → take (length (first_angles n s)) s ≡ first_angles n s
front n s = go (ltb (length s) n) refl
  where
    go : (b : Bool) → ltb (length s) n ≡ b → take (length (cond b [] (take n s))) s ≡ cond b [] (take n s)
    go true e = refl
    go false e = rw (length-take-le n s (ltb-false _ _ e))

pub answer-front : (n flagged : ℕ) (coarse fine : List Float) →
    take (length (answer_part n flagged coarse fine)) (cond (eqb flagged 0) coarse fine) ≡ answer_part n flagged coarse fine
unfolding answer_part
answer-front n flagged coarse fine = front n (cond (eqb flagged 0) coarse fine)
