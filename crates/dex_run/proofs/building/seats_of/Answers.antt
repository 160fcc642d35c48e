use Rattle.std.proofs.Common.{◌≡◌, ◌∙◌, arith}
use Rattle.dex_run.proofs.Common.{BankState}
use Rattle.dex_run.proofs.Openings.{firsts-gates, given-are, kept-are}
use Rattle.dex_run.proofs.Seating.{market_from, passes-are, passes-first, passes-some, seat-is, seats-all, seats-more, wallet_from}
use Rattle.dex_run.proofs.building.seats_of.Goals as goal

pub split_all-requires-clause-gates : goal.split_all-requires-clause-gates
split_all-requires-clause-gates c = firsts-gates c.loop-lane.lane c.args.markets.now c.loop-lane.market_passes.items c.loop-lane.invariant.markets

pub split_all-requires-clause-some : goal.split_all-requires-clause-some
split_all-requires-clause-some c =
    passes-some c.args.outline.now.lanes (market_from c.args.outline.now) c.args.outline.now.start.markets c.args.markets.now c.loop-lane.market_passes.items c.requires.markets c.loop-lane.lane c.loop-lane.invariant.markets
    (omega (arith, c.loop-lane-test.true, c.lanes-lane-end.ensures.lanes))

pub split_all-requires-in-loop-lane-clause-gates : goal.split_all-requires-in-loop-lane-clause-gates
split_all-requires-in-loop-lane-clause-gates c = firsts-gates c.loop-lane.lane c.args.wallets.now c.loop-lane.wallet_passes.items c.loop-lane.invariant.wallets

pub split_all-requires-in-loop-lane-clause-some : goal.split_all-requires-in-loop-lane-clause-some
split_all-requires-in-loop-lane-clause-some c =
    passes-some c.args.outline.now.lanes (wallet_from c.args.outline.now) c.args.outline.now.start.wallets c.args.wallets.now c.loop-lane.wallet_passes.items c.requires.wallets c.loop-lane.lane c.loop-lane.invariant.wallets
    (omega (arith, c.loop-lane-test.true, c.lanes-lane-end.ensures.lanes))

pub open-requires-clause-markets : goal.open-requires-clause-markets
open-requires-clause-markets c =
    passes-are c.args.outline.now.lanes (market_from c.args.outline.now) c.args.outline.now.start.markets c.args.markets.now c.in_ok-of_markets.of_markets.items c.requires.markets c.loop-lane.lane
    (given-are c.loop-lane.lane c.args.markets.now c.loop-lane.market_passes.items c.in_ok-of_markets.of_markets.items c.loop-lane.invariant.markets c.in_ok-of_markets.ensures.given)

pub open-requires-clause-wallets : goal.open-requires-clause-wallets
open-requires-clause-wallets c =
    passes-are c.args.outline.now.lanes (wallet_from c.args.outline.now) c.args.outline.now.start.wallets c.args.wallets.now c.in_ok-of_wallets.of_wallets.items c.requires.wallets c.loop-lane.lane
    (given-are c.loop-lane.lane c.args.wallets.now c.loop-lane.wallet_passes.items c.in_ok-of_wallets.of_wallets.items c.loop-lane.invariant.wallets c.in_ok-of_wallets.ensures.given)

pub loop-lane-preserved : goal.loop-lane-preserved
loop-lane-preserved c =
    let bank : BankState = record { script = c.args.outline.now; markets = c.args.markets.now; wallets = c.args.wallets.now } in
    let markets = given-are c.loop-lane.lane c.args.markets.now c.loop-lane.market_passes.items c.in_ok-of_markets.of_markets.items c.loop-lane.invariant.markets c.in_ok-of_markets.ensures.given in
    let wallets = given-are c.loop-lane.lane c.args.wallets.now c.loop-lane.wallet_passes.items c.in_ok-of_wallets.of_wallets.items c.loop-lane.invariant.wallets c.in_ok-of_wallets.ensures.given in record {
      some = omega (arith, c.loop-lane.invariant.some);
      markets = kept-are c.loop-lane.lane c.args.markets.now c.loop-lane.market_passes.items c.split_all.new.firsts.items c.loop-lane.invariant.markets c.in_ok-of_markets.ensures.kept;
      wallets = kept-are c.loop-lane.lane c.args.wallets.now c.loop-lane.wallet_passes.items c.split_all-in-loop-lane.new.firsts.items c.loop-lane.invariant.wallets c.in_ok-of_wallets.ensures.kept;
      seats = seats-more bank c.loop-lane.lane c.loop-lane.seats.items c.add.new.items.items c.in_ok-seat.seat c.loop-lane.invariant.some c.loop-lane.invariant.seats
          (seat-is bank c.loop-lane.lane c.in_ok-seat.seat c.in_ok-of_markets.of_markets.items c.in_ok-of_wallets.of_wallets.items c.in_ok-seat.ensures markets wallets)
          c.in_ok-add.ensures;
    }

pub open-requires-2-clause-markets : goal.open-requires-2-clause-markets
open-requires-2-clause-markets c =
    passes-are c.args.outline.now.lanes (market_from c.args.outline.now) c.args.outline.now.start.markets c.args.markets.now c.loop-lane.market_passes.items c.requires.markets 0
    (passes-first c.args.outline.now.lanes (market_from c.args.outline.now) c.args.outline.now.start.markets c.args.markets.now c.loop-lane.market_passes.items c.requires.markets c.loop-lane.lane c.loop-lane.invariant.markets
    (omega (arith, c.loop-lane-test.false, c.loop-lane.auto.lane-end, c.loop-lane.auto.lane, c.lanes-lane-end.ensures.lanes, c.lanes-lane-end.ensures.some)))

pub open-requires-2-clause-wallets : goal.open-requires-2-clause-wallets
open-requires-2-clause-wallets c =
    passes-are c.args.outline.now.lanes (wallet_from c.args.outline.now) c.args.outline.now.start.wallets c.args.wallets.now c.loop-lane.wallet_passes.items c.requires.wallets 0
    (passes-first c.args.outline.now.lanes (wallet_from c.args.outline.now) c.args.outline.now.start.wallets c.args.wallets.now c.loop-lane.wallet_passes.items c.requires.wallets c.loop-lane.lane c.loop-lane.invariant.wallets
    (omega (arith, c.loop-lane-test.false, c.loop-lane.auto.lane-end, c.loop-lane.auto.lane, c.lanes-lane-end.ensures.lanes, c.lanes-lane-end.ensures.some)))

pub returns-in-Ok : goal.returns-in-Ok
returns-in-Ok c =
    let bank : BankState = record { script = c.args.outline.now; markets = c.args.markets.now; wallets = c.args.wallets.now } in
    let done : c.loop-lane.lane ≡ c.args.outline.now.lanes =
    omega (arith, c.loop-lane-test.false, c.loop-lane.auto.lane-end, c.loop-lane.auto.lane, c.lanes-lane-end.ensures.lanes, c.lanes-lane-end.ensures.some) in
    let markets = passes-first c.args.outline.now.lanes (market_from c.args.outline.now) c.args.outline.now.start.markets c.args.markets.now c.loop-lane.market_passes.items c.requires.markets c.loop-lane.lane c.loop-lane.invariant.markets done in
    let wallets = passes-first c.args.outline.now.lanes (wallet_from c.args.outline.now) c.args.outline.now.start.wallets c.args.wallets.now c.loop-lane.wallet_passes.items c.requires.wallets c.loop-lane.lane c.loop-lane.invariant.wallets done in
    c.in-Ok.ensures.items
    ∙ seats-all bank c.loop-lane.lane c.args.outline.now.lanes c.loop-lane.seats.items c.in_ok-first.first
    (omega (arith, c.lanes-lane-end.ensures.lanes, c.lanes-lane-end.ensures.some)) done c.loop-lane.invariant.seats
    (seat-is bank 0 c.in_ok-first.first c.loop-lane.market_passes.items c.loop-lane.wallet_passes.items c.in_ok-first.ensures markets wallets)
