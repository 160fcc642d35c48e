use Rattle.std.proofs.Common.{map, ap, ◌∙◌}
use Rattle.std.proofs.lemmas.Result.{on_ok_weaker}
use Rattle.dex_types.specs.Accounts.{market_accounts_of}
use Rattle.dex_types.specs.QueuedEvent.{decoded_event}
use Rattle.dex_accounts.specs.Decoded.{market_in}
use Rattle.dex_market.specs.MarketAccount.{market_words}
use Rattle.dex_audit_rules.proofs.MarketLaws.{astray-one}
use Rattle.dex_audit_rules.proofs.market.tell_events.Goals as goal

pub returns : goal.returns
unfolding market_in
returns c =
    on_ok_weaker c.tell_astray.result
    (astray-one (market_in (market_accounts_of c.args.market.now)) c.in_ok-owners.owners (map decoded_event c.args.book.now.events.now) c.event_q.result
    c.args.found.now.items c.tell_astray.new.found.items (c.in_ok-owners.ensures ∙ c.requires.of.traders) c.requires.of.events
    (c.event_q.ensures ∙ ap (λ b. (market_words b).terms.event_q) c.words_of-words.ensures))
    c.tell_astray.ensures
