use Rattle.std.proofs.Common.{take, get_or, ap, arith}
use Rattle.std.proofs.lemmas.Bool.{eq-eqb, ne_eqb}
use Rattle.std.proofs.lemmas.List.{take_more}
use Rattle.dex_cancel.specs.Counting.{count_among}
use Rattle.dex_cancel.proofs.ListedLaws.{count_among-more, count_among-other}
use Rattle.dex_cancel.proofs.counting.count_before.Goals as goal
use Rattle.dex_cancel.proofs.counting.count_before.Goals.{then-ids-earlier, else-ids-earlier}

pub loop-earlier-preserved : goal.loop-earlier-preserved
loop-earlier-preserved c =
    let ids = c.args.ids.now in
    let earlier = c.loop-earlier.earlier in
    let next = ap (count_among c.args.client) (take_more ids earlier 0 (omega (arith, c.told-ids, c.requires, c.loop-earlier-test.true))) in
    let held = c.loop-earlier.invariant in elim c.if-ids-earlier.branch [
      | then-ids-earlier w ↦ record {
        count = omega (arith, w.count-is, held.count, next, count_among-more c.args.client (take earlier ids) (get_or ids earlier 0) (eq-eqb _ _ w.if-ids-earlier.true));
        most = omega (arith, w.count-is, held.most);
      }
      | else-ids-earlier w ↦ record {
        count = omega (arith, w.count-is, held.count, next, count_among-other c.args.client (take earlier ids) (get_or ids earlier 0) (ne_eqb _ _ w.if-ids-earlier.false));
        most = omega (arith, w.count-is, held.most);
      }
    ]
