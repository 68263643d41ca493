-- `float::from_whole` meets its contract: a number below 2^53 keeps its value as a signed one. Assumes nothing.
use Rattle.std.proofs.Common.{◌≡◌, ℕ, ◌^◌, ◌<◌, ◌≤◌, T, pos, sym, ap, ◌∙◌, subst, arith, w64, to_z, lt-ltb, le-leb}
use lib.Ieee.{binary64, of_int, in_float}
use Rattle.float.proofs.from_whole.Goals as goal

stays : (n : ℕ) → n < 0x20_0000_0000_0000 → to_z w64 n ≡ pos n
stays n h = let g : n < 2 ^ 63 = omega arith in simp (lt-ltb n (2 ^ 63) g)

held : (n : ℕ) → n < 0x20_0000_0000_0000 → T (in_float binary64 (to_z w64 n))
unfolding in_float
held n h = let g : n ≤ 2 ^ 53 = omega arith in subst T (sym (ap (in_float binary64) (stays n h) ∙ le-leb n (2 ^ 53) g)) tt

pub int_to_float-result : goal.int_to_float-result
int_to_float-result c = held c.args.n c.if-n-lt9007199254740992.true

pub returns-then-n-lt9007199254740992 : goal.returns-then-n-lt9007199254740992
returns-then-n-lt9007199254740992 c = ap (of_int binary64) (stays c.args.n c.if-n-lt9007199254740992.true)
