-- The part is n places long, and each is stored.
use Rattle.std.proofs.Common.{◌≡◌, ◌+◌, ◌-◌, ◌∙◌, ap, length, take, drop, replicate, arith}
use Rattle.std.proofs.lemmas.List.{length-replicate, length-drop, length-take-le}
use Rattle.std.proofs.lemmas.List.Edits.{sets}
use Rattle.slices.proofs.Parts.{put_mid-sets}
use Rattle.slices.proofs.Runs.{fill-next, sets-all}
use Rattle.slices.proofs.fill.Goals as goal

pub loop-place-preserved : goal.loop-place-preserved
loop-place-preserved g c = rw c.loop-place.invariant (fill-next _ c.loop-place.place-index c.args.value)

pub returns : goal.returns
returns g c =
    let v = c.args.value in
    let part = drop c.args.at c.args.to.now in
    let room : c.args.at + c.args.n - c.args.at ≡ c.args.n = omega arith in
    let len : length (take (c.args.at + c.args.n - c.args.at) part) ≡ c.args.n =
    rw room (length-take-le c.args.n part (omega (arith, length-drop c.args.at c.args.to.now))) in
    let end : c.loop-place.place-index ≡ c.args.n = omega arith in
    let all : c.loop-place.place-items ≡ replicate c.args.n v =
    c.loop-place.invariant ∙ sets-all v _ _ (length-replicate _ v ∙ omega arith) ∙ ap (λ k. replicate k v) end in
    put_mid-sets _ _ _ _ (omega (arith, ap length all, length-replicate c.args.n v)) c.requires ∙ ap (sets c.args.to.now c.args.at) all
