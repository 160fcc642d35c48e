use Rattle.std.proofs.Common.{ap, ◌∙◌}
use Rattle.std.proofs.lemmas.Result.{on_ok_weaker}
use Rattle.dex_types.specs.Accounts.{market_accounts_of}
use Rattle.dex_accounts.specs.Decoded.{market_in}
use Rattle.dex_market.specs.MarketAccount.{market_words}
use Rattle.dex_audit_rules.proofs.MarketLaws.{homeless-both}
use Rattle.dex_audit_rules.proofs.market.tell_orders.Goals as goal

pub returns : goal.returns
unfolding market_in
returns c =
    on_ok_weaker c.tell_homeless-2.result
    (homeless-both (market_in (market_accounts_of c.args.market.now)) c.in_ok-owners.owners c.bids.result c.asks.result c.args.book.now.bids.now c.args.book.now.asks.now
    c.args.found.now.items c.tell_homeless.new.found.items c.tell_homeless-2.new.found.items (c.in_ok-owners.ensures ∙ c.requires.of.traders)
    (c.bids.ensures ∙ ap (λ b. (market_words b).terms.bids) c.words_of-words.ensures)
    (c.asks.ensures ∙ ap (λ b. (market_words b).terms.asks) c.words_of-words.ensures)
    c.requires.of.bids c.requires.of.asks c.in_ok-tell_homeless.ensures)
    c.tell_homeless-2.ensures
