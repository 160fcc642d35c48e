use Rattle.std.proofs.Common.{List, get_or, set, Some, sym, ap, ◌∙◌, subst, arith}
use Rattle.dex_turns.proofs.Common.{market_calls}
use Rattle.std.proofs.lemmas.List.{get_or-set_other}
use Rattle.dex_turns.specs.Turns.{IsMarketOut}
use Rattle.dex_turns.specs.Seats.{MarketPass}
use Rattle.dex_turns.proofs.Exchanging.{idle-below, taken-below}
use Rattle.dex_turns.proofs.two_turns.take_rising.Goals as goal

pub take_at-market-requires-clause-rising : goal.take_at-market-requires-clause-rising
take_at-market-requires-clause-rising g c =
    idle-below c.args.lower.gate.now c.args.passes.now.items c.requires.idle

pub take_at-market_next-requires-clause-rising : goal.take_at-market_next-requires-clause-rising
take_at-market_next-requires-clause-rising g c =
    taken-below c.args.lower.gate.now c.args.higher.gate.now c.args.lower.place c.args.passes.now.items c.take_at-market.new.passes.items c.take_at-market.result.0
    c.requires.order c.requires.idle c.requires.home c.take_at-market.ensures.out

pub returns : goal.returns
returns g c =
    let one = c.take_at-market.ensures.out in
    let two = c.take_at-market_next.ensures.out in
    let passes : List MarketPass = c.args.passes.now.items in
    record {
      out = record {
        out = one.out;
        out_next = two.out;
        are = two.is ∙ ap (λ (l : List MarketPass). set l c.args.higher.place two.out) one.is;
        taken = one.taken;
        taken_next = λ pass.
            subst (λ (p : MarketPass). IsMarketOut c.args.higher.gate.now p two.out c.take_at-market_next.result.0)
            (ap (λ (l : List MarketPass). get_or l c.args.higher.place pass) one.is ∙ get_or-set_other passes c.args.lower.place c.args.higher.place one.out pass (λ same. c.requires.apart (sym same)))
            (two.taken pass);
      };
      away = c.take_at-market.ensures.away;
      away_next = λ pass.
          c.take_at-market_next.ensures.away pass
          ∙ ap (λ (p : MarketPass). record { gate = Some c.args.higher.gate.now; number = p.number; start = market_calls c.take_at-market_next.result.0 })
          (ap (λ (l : List MarketPass). get_or l c.args.higher.place pass) one.is ∙ get_or-set_other passes c.args.lower.place c.args.higher.place one.out pass (λ same. c.requires.apart (sym same)));
      market = omega (arith, c.take_at-market.ensures.market, c.take_at-market_next.ensures.stamp);
      market_next = c.take_at-market_next.ensures.market;
      stamp = omega (arith, c.take_at-market.ensures.stamp, c.take_at-market_next.ensures.stamp);
    }
