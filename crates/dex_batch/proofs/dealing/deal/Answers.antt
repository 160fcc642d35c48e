use Rattle.std.proofs.Common.{rules, ◌<◌, [], ◌∷◌, arith, get_or, length, ap, ◌∙◌, sym}
use Rattle.std.proofs.lemmas.List.{get_or_default, length-append, length-set}
use Rattle.dex_world.proofs.Common.{YieldsList-from_vec, YieldsList-turn}
use Rattle.dex_batch.proofs.DealLaws.{dealt-more}
use Rattle.dex_batch.proofs.dealing.deal.Goals as goal

pub loop-item-preserved : goal.loop-item-preserved
loop-item-preserved g c =
    let numbers = c.args.numbers.now in
    let place = c.loop-item.place in
    let yielded = c.loop-item.yielded in
    let item = c.in-Some.item in
    let here = YieldsList-turn (YieldsList-from_vec c.args.items.items c.into_iter-item-iterator.ensures.into_iter_gives.0 (search rules)) yielded c.loop-item.item-iterator c.loop-item.yielded_by c.next.result c.next.new.self item c.in-Some.is c.next.ensures.steps in
    let inside : place < length numbers = omega (arith, here.0, c.loop-item.invariant.place, c.requires.beside) in
    let number = get_or numbers place 0 in
    record {
      place = omega (arith, c.loop-item.invariant.place, length-append yielded (item ∷ []));
      count = ap length (c.in_ok-put_on.ensures []) ∙ length-set c.loop-item.piles.items number _ ∙ c.loop-item.invariant.count;
      dealt = dealt-more c.args.count place number numbers yielded item c.loop-item.piles.items c.put_on.new.piles.items inside (get_or_default numbers place 0 number inside)
          (sym c.loop-item.invariant.place) c.loop-item.invariant.count (c.requires.within place 0 inside) c.loop-item.invariant.dealt c.in_ok-put_on.ensures;
    }
