-- `linear_adjacency::outside` meets its contract: the part that is returned is a region.
use mathlib.Core.Path.{◌≡◌}
use Prim.Native.Nat.{◌+◌, ◌-◌}
use native.Mathlib.Omega.{arith}
use borrow.Author.Tests.{lt-leb, le-leb}
use Rattle.linear_cells.proofs.Changes.{part-region}
use Rattle.linear_adjacency.specs.Build.{outside}
use Rattle.linear_adjacency.proofs.outside.Goals as goal

pub returns-then-begin-end : goal.returns-then-begin-end
unfolding outside
returns-then-begin-end c =
    let size : c.args.begin + c.args.m - c.args.begin ≡ c.args.m = omega arith in
    rw (size, lt-leb c.args.end c.args.begin c.if-begin-end.true) (part-region 0 c.args.before.now c.args.begin c.args.m (omega arith))

pub returns : goal.returns
unfolding outside
returns c =
    let at = c.args.begin - c.args.end in
    let size : at + c.args.m - at ≡ c.args.m = omega arith in
    rw (size, le-leb c.args.end c.args.begin c.if-begin-end.false) (part-region 0 c.args.behind.now at c.args.m (c.requires.behind c.if-begin-end.false))
