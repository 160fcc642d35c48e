use Rattle.std.proofs.Common.{◌<◌, take, get_or, ap, arith, not, ◌&&◌, eqb, ltb}
use Rattle.std.proofs.lemmas.List.{take-take}
use Rattle.dex_types.specs.Cancel.{all_orders_of}
use Rattle.dex_cancel.specs.Counting.{count_among, count_of_client}
use Rattle.dex_cancel.proofs.ListedLaws.{next-id, length-next, length-taken_by, one_if}
use Rattle.dex_cancel.proofs.OwnLaws.{all-apart}
use Rattle.dex_cancel_slots.proofs.counting.count_listed.Goals as goal
use Rattle.dex_cancel_slots.proofs.counting.count_listed.Goals.{then-takes_one, else-takes_one}

pub loop-place-preserved : goal.loop-place-preserved
loop-place-preserved g c =
    let bids = g.B.SideRead.orders c.args.own.now.bids.now in
    let asks = g.A.SideRead.orders c.args.own.now.asks.now in
    let all = all_orders_of c.args.own.now.account bids asks in
    let bids_held = g.met.B.SideRead.is_book_side c.args.own.now.bids.now c.requires.own.bids in
    let asks_held = g.met.A.SideRead.is_book_side c.args.own.now.asks.now c.requires.own.asks in
    let ids = c.args.ids.now.ids in
    let place = c.loop-place.place in
    let clients = take c.args.ids.now.count ids in
    let client = get_or ids place 0 in
    let most = c.args.ids.now.at_most_eight in
    let within : place < c.args.ids.now.count = omega (arith, c.loop-place-test.true, c.from-place-end.ensures) in
    let more = length-next clients place client all (next-id ids c.args.ids.now.count place within (omega (arith, most))) in
    let one = length-taken_by client (take place clients) all (all-apart c.args.own.now.account _ _ bids asks bids_held.in_order asks_held.in_order) in
    let test = ap (λ cs. one_if (not (eqb client 0) && ltb (count_among client cs) (count_of_client client all))) (take-take place c.args.ids.now.count ids (omega (arith, within))) in
    let is = ap one_if c.takes_one.ensures in
    let held = c.loop-place.invariant in elim c.if-takes_one.branch [
      | then-takes_one w ↦ record {
        count = omega (arith, w.count-is, held.count, more, one, test, is, ap one_if w.if-takes_one.true);
        most = omega (arith, w.count-is, held.most);
      }
      | else-takes_one w ↦ record {
        count = omega (arith, w.count-is, held.count, more, one, test, is, ap one_if w.if-takes_one.false);
        most = omega (arith, w.count-is, held.most);
      }
    ]
