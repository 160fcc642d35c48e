use Rattle.dex_orders.proofs.FundsLaw.{IsOpen-funded, account_of-funded, market_of-funded}
use Rattle.dex_orders.proofs.orders_view.OrdersView.set_funds.Goals as goal

pub returns-clause-market : goal.returns-clause-market
returns-clause-market c =
    market_of-funded c.args.self.now.bytes.now c.put_u64.new.bytes c.put_u64-2.new.bytes c.put_u64-3.new.bytes c.put_u64-4.new.bytes c.put_u64-5.new.bytes c.args.funds c.requires.accepted.opened.size
    c.put_u64.ensures.bytes c.put_u64.ensures.given
    c.put_u64-2.ensures.bytes c.put_u64-2.ensures.given
    c.put_u64-3.ensures.bytes c.put_u64-3.ensures.given
    c.put_u64-4.ensures.bytes c.put_u64-4.ensures.given
    c.put_u64-5.ensures.bytes c.put_u64-5.ensures.given

pub returns-clause-words : goal.returns-clause-words
returns-clause-words c =
    account_of-funded c.args.self.now.bytes.now c.put_u64.new.bytes c.put_u64-2.new.bytes c.put_u64-3.new.bytes c.put_u64-4.new.bytes c.put_u64-5.new.bytes c.args.funds c.requires.accepted.opened.size
    c.put_u64.ensures.bytes c.put_u64.ensures.given
    c.put_u64-2.ensures.bytes c.put_u64-2.ensures.given
    c.put_u64-3.ensures.bytes c.put_u64-3.ensures.given
    c.put_u64-4.ensures.bytes c.put_u64-4.ensures.given
    c.put_u64-5.ensures.bytes c.put_u64-5.ensures.given

pub returns-clause-accepted : goal.returns-clause-accepted
returns-clause-accepted c =
    IsOpen-funded c.args.self.now.bytes.now c.put_u64.new.bytes c.put_u64-2.new.bytes c.put_u64-3.new.bytes c.put_u64-4.new.bytes c.put_u64-5.new.bytes c.args.funds c.requires.accepted.opened.size
    c.put_u64.ensures.bytes c.put_u64.ensures.given
    c.put_u64-2.ensures.bytes c.put_u64-2.ensures.given
    c.put_u64-3.ensures.bytes c.put_u64-3.ensures.given
    c.put_u64-4.ensures.bytes c.put_u64-4.ensures.given
    c.put_u64-5.ensures.bytes c.put_u64-5.ensures.given
    c.requires.accepted c.requires.coin c.requires.pc
