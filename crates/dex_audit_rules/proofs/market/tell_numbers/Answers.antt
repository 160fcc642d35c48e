use Rattle.std.proofs.Common.{ap, ◌∙◌}
use Rattle.std.proofs.lemmas.Result.{on_ok_weaker}
use Rattle.dex_types.specs.Accounts.{market_accounts_of}
use Rattle.dex_accounts.specs.Decoded.{market_in}
use Rattle.dex_market.specs.RequestQueue.{next_sequence}
use Rattle.dex_totals.specs.Reading.{traders}
use Rattle.dex_audit_rules.proofs.MarketLaws.{ungiven-one}
use Rattle.dex_audit_rules.proofs.market.tell_numbers.Goals as goal

pub returns : goal.returns
unfolding market_in
returns c =
    on_ok_weaker c.tell_ungiven.result
    (ungiven-one (market_in (market_accounts_of c.args.market.now)) c.get_u64.result (traders c.args.book.now.accounts.now) c.deref-2.result.now
    c.args.found.now.items c.tell_ungiven.new.found.items (c.get_u64.ensures ∙ ap next_sequence c.deref.ensures.value) c.requires.of.traders (c.deref-2.ensures.value ∙ c.in_ok-taken.ensures))
    c.tell_ungiven.ensures
