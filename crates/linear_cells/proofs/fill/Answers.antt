-- `linear_cells::fill` meets its contract: the law of a written part is in proofs/Parts.
use mathlib.Core.Path.{◌≡◌, ◌∙◌, ap}
use Prim.Native.Nat.{◌+◌, ◌-◌}
use native.Mathlib.Omega.{arith}
use lib.ListN.{length, take, drop, replicate, length-replicate, length-take, length-drop}
use Rattle.linear_cells.proofs.Parts.{part-put}
use Rattle.linear_cells.proofs.fill.Goals as goal

pub returns : goal.returns
returns c =
    let b = c.args.base in
    let n = c.args.n in
    let size : length (take (b + n - b) (drop b c.args.work.now)) ≡ n = simp (length-take, length-drop) (omega arith) in
    let all : c.fill.new.self ≡ replicate n c.args.value = c.fill.ensures.after (λ y e. e) ∙ ap (λ k. replicate k c.args.value) size in
    rw all (part-put c.args.work.now (replicate n c.args.value) b (b + n) (omega (arith, length-replicate n c.args.value)) c.requires)
