use Rattle.std.proofs.Common.{◌≤◌, length, refl, arith}
use Rattle.dex_ring.specs.Ring.{events_of}
use Rattle.dex_crank.specs.PaidBytes.{CrankBytes, crank_of}
use Rattle.dex_crank.proofs.CountLaws.{consumable-le}
use Rattle.dex_crank.proofs.PartLaws.{cranked-now, kept-now, market-of}
use Rattle.dex_crank.proofs.crank.consume_with_pending.Goals as goal

pub consume_from-requires : goal.consume_from-requires
consume_from-requires g c = market-of (crank_of c.args.ring.now.bytes.now (g.A.OrdersAccounts.held c.args.accounts.now)) c.requires

pub returns-clause-ring : goal.returns-clause-ring
returns-clause-ring g c =
    let before : CrankBytes = crank_of c.args.ring.now.bytes.now (g.A.OrdersAccounts.held c.args.accounts.now) in
    let after : CrankBytes = crank_of c.consume_from.new.queue (g.A.OrdersAccounts.held c.consume_from.new.accounts) in
    let found = market-of before c.requires in
    let within : c.consume_from.result.count ≤ length (events_of c.args.ring.now.bytes.now) =
    omega (arith, c.consume_from.ensures.count, consumable-le c.args.limit c.args.named.now (events_of c.args.ring.now.bytes.now)) in
    record { place = refl; accepted = (cranked-now before after found.0 c.consume_from.result.count found.1 c.consume_from.ensures.does within).queue }

pub returns-clause-kept : goal.returns-clause-kept
returns-clause-kept g c =
    let before : CrankBytes = crank_of c.args.ring.now.bytes.now (g.A.OrdersAccounts.held c.args.accounts.now) in
    let after : CrankBytes = crank_of c.consume_from.new.queue (g.A.OrdersAccounts.held c.consume_from.new.accounts) in
    let found = market-of before c.requires in
    let within : c.consume_from.result.count ≤ length (events_of c.args.ring.now.bytes.now) =
    omega (arith, c.consume_from.ensures.count, consumable-le c.args.limit c.args.named.now (events_of c.args.ring.now.bytes.now)) in
    kept-now before after found.0 c.consume_from.result.count found.1 c.consume_from.ensures.does within
