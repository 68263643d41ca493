-- Six writes, each behind the one before it.
use Rattle.std.proofs.Common.{ℕ, List, ◌++◌, OnOk, Result}
use Rattle.std.specs.declared.option.Option.{Option}
use Rattle.std.specs.Fmt.{decimal}
use Rattle.std.specs.Io.KnownBytes.{Appends}
use Rattle.std.proofs.lemmas.Result.{on_ok_weaker}
use Rattle.std.proofs.KnownBytes.{Appends-trans}
use lib.Chars.{codes}
use Rattle.replay.proofs.report.Goals as goal

six : {T E : Type 0} (r : Result T E) (a b c d e f h : Option (List ℕ)) (s t u v w x : List ℕ) → Appends a b s → Appends b c t → Appends c d u → Appends d e v
    → Appends e f w → OnOk r (Appends f h x) → OnOk r (Appends a h (s ++ (t ++ (u ++ (v ++ (w ++ x))))))
six r a b c d e f h s t u v w x i j k l m n =
    on_ok_weaker r
    (λ (o : Appends f h x). Appends-trans a b h s (t ++ (u ++ (v ++ (w ++ x)))) i (Appends-trans b c h t (u ++ (v ++ (w ++ x))) j
    (Appends-trans c d h u (v ++ (w ++ x)) k (Appends-trans d e h v (w ++ x) l (Appends-trans e f h w x m o)))))
    n

pub returns : goal.returns
returns g c =
    six c.print-4.result (g.W.Write.contents c.args.out.now) (g.W.Write.contents c.print.new.out) (g.W.Write.contents c.print-2.new.out)
    (g.W.Write.contents c.put_decimal.new.out) (g.W.Write.contents c.print-3.new.out) (g.W.Write.contents c.put_decimal-2.new.out) (g.W.Write.contents c.print-4.new.out)
    c.args.name.now (codes " ") (decimal c.args.at.recorded) (codes " recorded, ") (decimal c.args.at.differ) (codes " differ\n") c.in_ok-print.ensures
    c.in_ok-print-2.ensures c.in_ok-put_decimal.ensures c.in_ok-print-3.ensures c.in_ok-put_decimal-2.ensures c.print-4.ensures
