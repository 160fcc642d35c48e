use Rattle.std.proofs.Common.{refl, ap, ◌∙◌}
use Rattle.std.proofs.lemmas.Result.{on_ok_weaker}
use Rattle.dex_types.specs.Accounts.{market_accounts_of}
use Rattle.dex_types.specs.Side.{Coin, Pc}
use Rattle.dex_accounts.specs.Decoded.{market_in}
use Rattle.dex_market.specs.MarketAccount.{market_words}
use Rattle.dex_audit_rules.specs.Funds.{deposited, deposits_off}
use Rattle.dex_audit_rules.proofs.ListLaws.{both}
use Rattle.dex_audit_rules.proofs.MarketLaws.{differs-one}
use Rattle.dex_audit_rules.proofs.market.tell_deposits.Goals as goal

pub returns : goal.returns
unfolding market_in
returns c =
    let m = market_in (market_accounts_of c.args.market.now) in
    let words = market_words c.args.market.now.market.items in
    let first =
    differs-one 8 149 (deposited Coin m) c.args.market.now.address c.args.market.now.address c.coin_deposits_total.result words.coin_deposits_total
    c.args.found.now.items c.tell_differs.new.found.items refl (c.coin_deposits_total.ensures ∙ ap (λ b. (market_words b).coin_deposits_total) c.words_of-words.ensures)
    (c.in_ok-tell_differs.ensures (deposited Coin m) (c.deposits_of-coin.ensures m c.requires.of)) in
    on_ok_weaker c.tell_differs-2.result
    (λ told.
    both c.args.found.now.items (deposits_off Coin words m) (deposits_off Pc words m) c.tell_differs.new.found.items c.tell_differs-2.new.found.items first
    (differs-one 8 197 (deposited Pc m) c.args.market.now.address c.args.market.now.address c.pc_deposits_total.result words.pc_deposits_total
    c.tell_differs.new.found.items c.tell_differs-2.new.found.items refl (c.pc_deposits_total.ensures ∙ ap (λ b. (market_words b).pc_deposits_total) c.words_of-words.ensures) told))
    (c.tell_differs-2.ensures (deposited Pc m) (c.deposits_of-pc.ensures m c.requires.of))
