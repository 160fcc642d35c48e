use Rattle.std.proofs.Common.{ℕ, ◌≡◌, ◌∙◌, ◌+◌, ◌-◌, ◌^◌, map, refl, sym, ap, arith}
use Rattle.dex_types.specs.declared.orders.Order.{Order}
use Rattle.dex_types.specs.Fees.{taker_fee}
use Rattle.dex_types.specs.Meeting.{Demand, Meeting, meet}
use Rattle.dex_types.specs.NewOrder.{fee_of, rested, resting}
use Rattle.dex_types.specs.Posting.{post}
use Rattle.dex_sound.specs.Exchange.{taker_gets, taker_pays}
use Rattle.dex_eager.specs.Eager.{Worths, with_change, with_fills}
use Rattle.dex_eager.specs.Slots.{maker_fills}
use Rattle.dex_eager.specs.Worth.{Worth, net}
use Rattle.dex_match.specs.OrderTerms.{meeting_with, order_of}
use Rattle.dex_match.proofs.RoomLaws.{tier_number-lt}
use Rattle.dex_fills.specs.Taker.{demand, taking}
use Rattle.dex_eager_market.specs.Accounts.{entry_of, worth_of}
use Rattle.dex_eager_market.proofs.Changes.{all-more, small-more}
use Rattle.dex_eager_market.proofs.Trades.{book-posted, order-left, rested-is, resting-fills, same-foreseen, same-met, taker-worth}
use Rattle.dex_eager_market.proofs.trading.settle_order.Goals as goal
use Rattle.dex_eager_market.proofs.trading.settle_order.Goals.{After-resting_order-order, After-want_of-want}

-- what the code's terms meet is what the order meets
met-is : (c : After-want_of-want) → meet c.args.taker.id_side (taking c.terms_of-terms.result) (demand c.want_of-want.result) c.args.opposing.now.orders.items
    ≡ meeting_with c.args.sizes c.args.taker c.args.opposing.now.orders.items
met-is c = same-met c.args.taker.id_side c.terms_of-terms.ensures.keeps c.want_of-want.ensures refl

pub meet_book-requires : goal.meet_book-requires
meet_book-requires c = record {
  modest = rw c.terms_of-terms.ensures.sizes rw c.want_of-want.ensures c.requires.trade.modest;
  book = rw c.terms_of-terms.ensures.sizes c.requires.opposing;
  accounts = all-more (2 ^ 124) (2 ^ 125) c.args.till.now.accounts.items (omega arith) c.requires.till.accounts;
  foreseen = same-foreseen (sym c.terms_of-terms.ensures.sizes) (sym c.terms_of-terms.ensures.limit) refl (sym (met-is (goal.at.meet_book-requires c).After-want_of-want)) c.requires.trade.reached;
}

pub add-requires-clause-accounts : goal.add-requires-clause-accounts
add-requires-clause-accounts c = all-more (2 ^ 124 + 2 ^ 81) (2 ^ 126) _ (omega arith) (c.meet_book.ensures.within (2 ^ 124) c.requires.till.accounts)

pub add-requires-clause-change : goal.add-requires-clause-change
add-requires-clause-change c = small-more (2 ^ 81) (2 ^ 126) c.taker_change-change.result (omega arith) c.taker_change-change.ensures.small

-- the fee, and the order that rests
fee-is : (c : After-resting_order-order) → c.taker_fee-fee.result ≡ fee_of (order_of c.args.taker) (meeting_with c.args.sizes c.args.taker c.args.opposing.now.orders.items)
fee-is c = c.taker_fee-fee.ensures.value ∙ ap (taker_fee c.args.taker.program c.args.taker.tier) (c.narrow-pc.ensures ∙ c.requires.trade.reached.pc)

order-is : (c : After-resting_order-order)
    → let n = order_of c.args.taker in
    c.resting_order-order.result ≡ resting c.args.taker.id_side c.args.till.now.next_sequence 0 n
    (rested c.args.taker.id_side c.args.sizes n (meeting_with c.args.sizes c.args.taker c.args.opposing.now.orders.items))
order-is c =
    let n = order_of c.args.taker in
    let reached = c.requires.trade.reached in
    c.resting_order-order.ensures
    ∙ ap (resting c.args.taker.id_side c.args.till.now.next_sequence 0 n)
    (c.rested_of-rested.ensures
    ∙ rested-is c.args.taker.id_side c.args.sizes n (meeting_with c.args.sizes c.args.taker c.args.opposing.now.orders.items) c.args.foreseen.now.crosses c.args.foreseen.now.want.lots
    c.narrow-pc.result c.taker_fee-fee.result reached.crosses (ap (λ (d : Demand). d.lots) reached.demand_is) (c.narrow-pc.ensures ∙ reached.pc) (fee-is c))

pub returns : goal.returns
returns c =
    let side = c.args.taker.id_side in
    let sizes = c.args.sizes in
    let n = order_of c.args.taker in
    let met : Meeting = meeting_with sizes c.args.taker c.args.opposing.now.orders.items in
    let reached = c.requires.trade.reached in
    let met_is = met-is (goal.at.returns c).After-want_of-want in
    let fee_is = fee-is (goal.at.returns c).After-resting_order-order in
    let paid : Worths = with_fills (maker_fills met.events) (map entry_of c.args.till.now.accounts.items) in
    let own_is = c.post.ensures.orders
    ∙ ap (λ (o : Order). (post side c.args.own.now.room o c.args.own.now.orders.items).side) (order-is (goal.at.returns c).After-resting_order-order) in
    record {
      market = order-left side sizes n met c.args.own.now c.args.opposing.now (record c.args.own.now { orders = c.post.new.orders }) c.meet_book.new.opposing c.args.till.now
          (record { next_sequence = c.args.till.now.next_sequence + 1; accounts = c.add.new.accounts; takings = c.charge.new.takings })
          (record {
            own_room = refl;
            opposing_room = c.meet_book.ensures.room;
            own_is = own_is;
            opposing_is = c.meet_book.ensures.left ∙ ap (λ (m : Meeting). m.left) met_is;
            next = refl;
            worths = c.add.ensures.worths
                ∙ ap (with_change c.args.taker.account (worth_of c.taker_change-change.result))
                (c.meet_book.ensures.worths ∙ ap (λ (m : Meeting). with_fills (maker_fills m.events) (map entry_of c.args.till.now.accounts.items)) met_is)
                ∙ ap (λ (v : Worth). with_change c.args.taker.account v paid)
                (ap worth_of c.taker_change-change.ensures.value
                ∙ taker-worth side sizes met c.taker_fee-fee.result c.args.foreseen.now.sums.base c.narrow-pc.result reached.base (c.narrow-pc.ensures ∙ reached.pc)
                ∙ ap (λ (f : ℕ). net (taker_gets side sizes met f) (taker_pays side sizes met f)) fee_is);
            takings_are = c.charge.ensures
                ∙ ap (λ (f : ℕ). c.args.till.now.takings + (f - c.args.foreseen.now.sums.rebates)) fee_is
                ∙ ap (λ (r : ℕ). c.args.till.now.takings + (fee_of n met - r)) reached.rebates;
          });
      own = (
        book-posted side sizes c.args.own.now (record c.args.own.now { orders = c.post.new.orders }) (resting side c.args.till.now.next_sequence 0 n (rested side sizes n met)) c.requires.own
            (resting-fills side sizes n c.args.till.now.next_sequence c.args.opposing.now.orders.items (omega (arith, c.requires.next)) c.requires.trade.lock (tier_number-lt n.tier)) refl
            c.post.ensures.reserved c.post.ensures.within own_is,
        refl,
      );
      opposing = (rw c.terms_of-terms.ensures.sizes at c.meet_book.ensures.book, c.meet_book.ensures.room);
      till = λ bound is. record {
        accounts = all-more (bound + 2 ^ 81 + 2 ^ 81) (bound + 2 ^ 82) _ (omega arith)
            (c.add.ensures.within (bound + 2 ^ 81) (2 ^ 81) (c.meet_book.ensures.within bound is.accounts) c.taker_change-change.ensures.small);
        takings = omega (arith, is.takings, c.charge.ensures, c.taker_fee-fee.ensures.at_most_all, c.narrow-pc.ensures, c.requires.trade.pc);
      };
    }
