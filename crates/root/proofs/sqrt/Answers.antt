-- `root::sqrt` meets its contract: the arms of `root_of`, which is the nearest double. Assumes nothing.
use Rattle.std.proofs.Common.{◌≡◌, true, T, sym, subst, le-leb}
use lib.Ieee.{Float, binary64, fits}
use Rattle.root.proofs.Small.{not-zero}
use Rattle.root.proofs.Positive.{rooted}
use Rattle.float.proofs.Facts.{zero_by_zero}
use Rattle.float.specs.Double.{lit, ◌⊘◌}
use Rattle.root.specs.Root.{root_of}
use borrow.Author.Tests.{lt-leb}
use Rattle.root.proofs.sqrt.Goals as goal

held : (x : Float) → fits binary64 x ≡ true → T (fits binary64 x)
held x e = subst T (sym e) tt

pub returns-then-x : goal.returns-then-x
unfolding root_of
returns-then-x c = let all = rooted c.args.x c.args.x (held _ c.well_formed.0.1) (simp c.if-x.true) in record { value = all.0; nearest = all.1 }

pub returns-then-x-2 : goal.returns-then-x-2
unfolding root_of
returns-then-x-2 c = let all = rooted c.args.x c.args.x (held _ c.well_formed.0.1) (simp (c.if-x.false, c.if-x-2.true)) in record { value = all.0; nearest = all.1 }

pub returns-then-x-3 : goal.returns-then-x-3
unfolding root_of
returns-then-x-3 c = let all = rooted c.args.x (lit 0 ⊘ lit 0) (held _ c.well_formed.0.1) (simp (c.if-x.false, c.if-x-2.false, c.if-x-3.true, zero_by_zero)) in record { value = all.0; nearest = all.1 }

pub returns-then-b-ge9218868437227405312 : goal.returns-then-b-ge9218868437227405312
unfolding root_of
returns-then-b-ge9218868437227405312 c = let all = rooted c.args.x c.args.x (held _ c.well_formed.0.1) (simp (c.if-x.false, c.if-x-2.false, c.if-x-3.false, ← c.bits-b.ensures, le-leb _ _ c.if-b-ge9218868437227405312.true)) in record { value = all.0; nearest = all.1 }

pub root_bits-requires : goal.root_bits-requires
root_bits-requires c =
    rw c.bits-b.ensures (not-zero c.args.x (held _ c.well_formed.0.1) c.if-x-2.false)

pub returns : goal.returns
unfolding root_of
returns c = let all = rooted c.args.x c.from_bits.result (held _ c.well_formed.0.1)
    (simp (
      c.if-x.false,
      c.if-x-2.false,
      c.if-x-3.false,
      ← c.bits-b.ensures,
      lt-leb _ _ c.if-b-ge9218868437227405312.false,
      c.root_bits.ensures,
      c.from_bits.ensures,
    )) in record { value = all.0; nearest = all.1 }
