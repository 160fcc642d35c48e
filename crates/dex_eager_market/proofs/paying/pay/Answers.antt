use Rattle.std.proofs.Common.{◌∙◌, ◌+◌, ◌^◌, map, sym, ap, arith}
use Rattle.dex_eager.specs.Eager.{with_change}
use Rattle.dex_fills.specs.Taker.{taking}
use Rattle.dex_eager_market.specs.declared.accounts.Change.{Change}
use Rattle.dex_eager_market.specs.Accounts.{entry_of, worth_of}
use Rattle.dex_eager_market.specs.Trading.{maker_change}
use Rattle.dex_eager_market.proofs.Changes.{all-more, small-more}
use Rattle.dex_eager_market.proofs.Pays.{pays-other, pays-own}
use Rattle.dex_eager_market.proofs.paying.pay.Goals as goal

pub returns-then-is_own-clause-worths : goal.returns-then-is_own-clause-worths
returns-then-is_own-clause-worths c =
    sym (pays-own c.args.side (taking c.args.taker) c.args.order c.args.lots (map entry_of c.args.accounts.now.items) (sym c.is_own.ensures ∙ c.if-is_own.true))

pub returns-then-is_own-clause-within : goal.returns-then-is_own-clause-within
returns-then-is_own-clause-within c = λ bound all. all-more bound (bound + 2 ^ 65) c.args.accounts.now.items (omega arith) all

pub add-requires-clause-change : goal.add-requires-clause-change
add-requires-clause-change c = small-more (2 ^ 65) (2 ^ 126) c.maker_change.result (omega arith) c.maker_change.ensures.small

pub returns-clause-worths : goal.returns-clause-worths
returns-clause-worths c =
    c.add.ensures.worths
    ∙ ap (λ (change : Change). with_change c.args.order.owner (worth_of change) (map entry_of c.args.accounts.now.items))
    (c.maker_change.ensures.value ∙ ap (maker_change c.args.side) c.fill_met-fill.ensures.fill)
    ∙ sym (pays-other c.args.side c.args.taker c.args.order c.args.lots (map entry_of c.args.accounts.now.items) (sym c.is_own.ensures ∙ c.if-is_own.false))

pub returns-clause-within : goal.returns-clause-within
returns-clause-within c = λ bound all. c.add.ensures.within bound (2 ^ 65) all c.maker_change.ensures.small
