-- `root::root_digits` meets its contract: the invariant `Digits` says what q, r and d are after i binary digits. Assumes nothing.
use Rattle.root.proofs.Laws.{start, finish, step-up, step-even}
use Rattle.root.proofs.root_digits.Goals as goal
use Rattle.root.proofs.root_digits.Goals.{then-s-t, else-s-t}

pub loop-i-init : goal.loop-i-init
loop-i-init c = start c.args.d0 c.ranges.d0.fits

pub loop-i-preserved : goal.loop-i-preserved
loop-i-preserved c =
    let d0 = c.args.d0 in
    let now = c.loop-i in
    let test = c.loop-i-test.true in
    elim c.if-s-t.branch [
      | then-s-t w ↦ rw (w.q-is, w.r-is) (step-up d0 now.q now.r now.d now._i now.invariant test w.if-s-t.true)
      | else-s-t w ↦ rw (w.q-is, w.r-is) (step-even d0 now.q now.r now.d now._i now.invariant test w.if-s-t.false)
    ]

pub returns : goal.returns
returns c = finish c.args.d0 c.loop-i.q c.loop-i.r c.loop-i.d c.loop-i._i c.ranges.d0.fits c.loop-i.invariant c.loop-i-test.false
