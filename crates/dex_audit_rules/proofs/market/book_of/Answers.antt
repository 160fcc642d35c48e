use Rattle.std.proofs.Common.{length, map, subst, sym, ap, ◌∙◌, arith}
use Rattle.std.proofs.lemmas.List.{length-map}
use Rattle.dex_types.specs.declared.terms.Side.TheVariants.{Bid, Ask}
use Rattle.dex_types.specs.QueuedEvent.{decoded_event}
use Rattle.dex_accounts.specs.Decoded.{market_in}
use Rattle.dex_market.specs.MarketAccount.{market_words, sizes_of}
use Rattle.dex_audit_rules.specs.Books.{PlainGathered}
use Rattle.dex_totals.specs.Reading.{AreOrders, traders}
use Rattle.dex_audit_rules.proofs.BookLaws.{events-few, orders-accepted, side-few, sizes-by}
use Rattle.dex_audit_rules.proofs.market.book_of.Goals as goal

pub returns-clause-book : goal.returns-clause-book
returns-clause-book c =
    let market = c.args.market.now in
    record {
      accounts = subst AreOrders (sym c.deref-4.ensures.value) (orders-accepted market.orders.items c.requires.accepted.orders);
      events =
          omega (
            arith,
            ap length c.deref-3.ensures.value,
            length-map c.args.gathered.now.events.items decoded_event,
            ap (λ (g : PlainGathered). length g.events) c.requires.gathered,
            events-few market.events.items c.requires.accepted.events,
          );
      bids =
          omega
          (arith, ap length c.deref.ensures.value, ap (λ (g : PlainGathered). length g.bids) c.requires.gathered, side-few Bid market.bids.items c.requires.accepted.bids.slab);
      asks =
          omega
          (arith, ap length c.deref-2.ensures.value, ap (λ (g : PlainGathered). length g.asks) c.requires.gathered, side-few Ask market.asks.items c.requires.accepted.asks.slab);
    }

pub returns-clause-of : goal.returns-clause-of
unfolding market_in
returns-clause-of c =
    let words = market_words c.args.market.now.market.items in
    record {
      bids = c.deref.ensures.value ∙ ap (λ (g : PlainGathered). g.bids) c.requires.gathered;
      asks = c.deref-2.ensures.value ∙ ap (λ (g : PlainGathered). g.asks) c.requires.gathered;
      events = ap (map decoded_event) c.deref-3.ensures.value ∙ ap (λ (g : PlainGathered). g.events) c.requires.gathered;
      traders = ap traders c.deref-4.ensures.value;
      sizes =
          sizes-by (sizes_of words) c.coin_lot_size.result c.pc_lot_size.result
          (c.coin_lot_size.ensures ∙ ap (λ b. (market_words b).terms.coin_lot_size) c.words_of-words.ensures)
          (c.pc_lot_size.ensures ∙ ap (λ b. (market_words b).terms.pc_lot_size) c.words_of-words.ensures);
    }
