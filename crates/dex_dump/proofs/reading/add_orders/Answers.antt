use Rattle.std.proofs.Common.{refl, ◌∙◌, sym, get_or, arith}
use Rattle.dex_dump.proofs.ReadingLaws.{added}
use Rattle.dex_dump.proofs.reading.add_orders.Goals as goal

pub returns-then-is_same : goal.returns-then-is_same
returns-then-is_same c =
    let markets = c.loop-place.markets in
    let place = c.loop-place.place in
    added c.args.address c.args.account markets c.args.markets.now place c.index-markets-place.result c.index-markets-place-then-is_same.result
    (record (get_or markets place c.index-markets-place-then-is_same.result) { orders = c.push.new.self })
    c.loop-place.invariant.same (omega arith) (sym c.is_same.ensures ∙ c.if-is_same.true) refl c.in_ok-push.ensures.items
    c.loop-place.invariant.none
