use Rattle.std.proofs.Common.{ℕ, ◌≡◌, ◌∙◌, ◌+◌, ◌-◌, ◌^◌, map, refl, sym, ap, arith}
use Rattle.dex_types.specs.Fees.{taker_fee}
use Rattle.dex_types.specs.Meeting.{Meeting, meet}
use Rattle.dex_types.specs.Take.{take_fee}
use Rattle.dex_eager.specs.Eager.{with_fills}
use Rattle.dex_eager.specs.Slots.{maker_fills}
use Rattle.dex_fills.specs.Taker.{demand, taking}
use Rattle.dex_take.specs.TakeTerms.{meeting_with, take_of}
use Rattle.dex_eager_market.specs.Accounts.{entry_of}
use Rattle.dex_eager_market.proofs.Changes.{all-more}
use Rattle.dex_eager_market.proofs.Trades.{same-foreseen, same-met, take-demand, take-left}
use Rattle.dex_eager_market.proofs.trading.settle_take.Goals as goal
use Rattle.dex_eager_market.proofs.trading.settle_take.Goals.{After-want_of-want}

-- what the code's terms meet is what the take meets
met-is : (c : After-want_of-want) → meet c.args.taker.id_side (taking c.take_terms-terms.result) (demand c.want_of-want.result) c.args.opposing.now.orders.items
    ≡ meeting_with c.args.sizes c.args.taker c.args.opposing.now.orders.items
met-is c =
    same-met c.args.taker.id_side c.take_terms-terms.ensures.keeps (c.want_of-want.ensures ∙ sym (take-demand c.args.taker.id_side c.args.sizes c.args.taker)) refl

pub meet_book-requires : goal.meet_book-requires
meet_book-requires c = record {
  modest = rw c.take_terms-terms.ensures.sizes rw c.want_of-want.ensures c.requires.trade.modest;
  book = rw c.take_terms-terms.ensures.sizes c.requires.opposing;
  accounts = all-more (2 ^ 124) (2 ^ 125) c.args.till.now.accounts.items (omega arith) c.requires.till.accounts;
  foreseen = same-foreseen (sym c.take_terms-terms.ensures.sizes) (sym c.take_terms-terms.ensures.limit) refl (sym (met-is (goal.at.meet_book-requires c).After-want_of-want)) c.requires.trade.reached;
}

pub returns : goal.returns
returns c = record {
  market = λ own.
      let t = take_of c.args.taker 0 0 in
      let met : Meeting = meeting_with c.args.sizes c.args.taker c.args.opposing.now.orders.items in
      let met_is = met-is (goal.at.returns c).After-want_of-want in
      let fee_is : c.taker_fee-fee.result ≡ take_fee t met =
      c.taker_fee-fee.ensures.value ∙ ap (taker_fee c.args.taker.program c.args.taker.tier) (c.narrow.ensures ∙ c.requires.trade.reached.pc) in
      take-left c.args.taker.id_side c.args.sizes (take_fee t met) met own c.args.opposing.now c.meet_book.new.opposing c.args.till.now
      (record { next_sequence = c.args.till.now.next_sequence; accounts = c.meet_book.new.accounts; takings = c.charge.new.takings })
      (record {
        room = c.meet_book.ensures.room;
        left = c.meet_book.ensures.left ∙ ap (λ (m : Meeting). m.left) met_is;
        next = refl;
        worths = c.meet_book.ensures.worths ∙ ap (λ (m : Meeting). with_fills (maker_fills m.events) (map entry_of c.args.till.now.accounts.items)) met_is;
        takings_are = c.charge.ensures
            ∙ ap (λ (f : ℕ). c.args.till.now.takings + (f - c.args.foreseen.now.sums.rebates)) fee_is
            ∙ ap (λ (r : ℕ). c.args.till.now.takings + (take_fee t met - r)) c.requires.trade.reached.rebates;
      });
  opposing = (rw c.take_terms-terms.ensures.sizes at c.meet_book.ensures.book, c.meet_book.ensures.room);
  till = λ bound is. record {
    accounts = all-more (bound + 2 ^ 81) (bound + 2 ^ 82) _ (omega arith) (c.meet_book.ensures.within bound is.accounts);
    takings = omega (arith, is.takings, c.charge.ensures, c.taker_fee-fee.ensures.at_most_all, c.narrow.ensures, c.requires.trade.pc);
  };
}
