-- What was read is the front of the input, as long as the array or to the input's end, and what is printed is the answer to it. Assumes nothing.
use Rattle.std.proofs.Common.{◌≡◌, ℕ, ◌<◌, ◌≤◌, Bool, true, false, List, [], ◌++◌, length, take, ltb, IfSome, None, Some, subst, sym, ap, ◌∙◌, refl, arith, append-nil, take_all, take_at}
use borrow.Author.Tests.{ltb-true, ltb-false}
use lib.ListN.{length-replicate}
use lib.Seq.{length-take-le}
use Rattle.std.specs.declared.option.Option.{Option}
use Rattle.std.specs.Io.KnownBytes.{Appends, Consumes, IsAtEnd}
use Rattle.std.proofs.lemmas.Result.{on_ok_weaker}
use Rattle.text_answer.specs.Printed.{printed}
use Rattle.refine.proofs.answer.Goals as goal

front : (xs ys buf : List ℕ) (n : ℕ) → n ≤ length buf → xs ≡ take n buf ++ ys → (n < length buf → ys ≡ []) → take n buf ≡ take (length buf) xs
front xs ys buf n h p e = go (ltb n (length buf)) refl
  where
    go : (b : Bool) → ltb n (length buf) ≡ b → take n buf ≡ take (length buf) xs
    go true t =
        let all : xs ≡ take n buf = p ∙ ap (take n buf ++◌) (e (ltb-true n (length buf) t)) ∙ append-nil (take n buf) in
        let short : length xs ≤ length buf = omega (arith, ap length all, length-take-le n buf h) in
        sym (take_all (length buf) xs short ∙ all)
    go false t =
        let whole : take n buf ≡ buf = take_all n buf (ltb-false n (length buf) t) in
        whole ∙ sym (ap (take (length buf)) (p ∙ ap (λ l. l ++ ys) whole) ∙ take_at buf ys (length buf) refl)

told : (a b old new : Option (List ℕ)) (buf : List ℕ) (n size : ℕ) → length buf ≡ size → n ≤ length buf → Consumes a b (take n buf) → (n < size → IsAtEnd b)
    → Appends old new (printed (take n buf)) → IfSome a (λ text. Appends old new (printed (take size text)))
told None b old new buf n size s h p e w = tt
told (Some xs) None old new buf n size s h p e w = absurd p
told (Some xs) (Some ys) old new buf n size s h p e w =
    subst (λ (k : ℕ). Appends old new (printed (take k xs))) s
    (subst (λ (l : List ℕ). Appends old new (printed l)) (front xs ys buf n h p (λ k. e (subst (λ (m : ℕ). n < m) s k))) w)

pub returns : goal.returns
returns g c =
    on_ok_weaker _
    (told _ _ _ _ c.read_full.new.buf c.in_ok-n.n 9748 (omega (arith, length-replicate {A = ℕ} 9748 0)) c.in_ok-n.ensures.count.0 c.in_ok-n.ensures.bytes
    (λ k. c.in_ok-n.ensures.ended (omega (arith, length-replicate {A = ℕ} 9748 0))))
    c.print.ensures
