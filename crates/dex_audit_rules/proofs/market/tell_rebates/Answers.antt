use Rattle.std.proofs.Common.{◌+◌, refl, ap, ◌∙◌}
use Rattle.std.proofs.lemmas.Result.{on_ok_weaker}
use Rattle.dex_types.specs.Accounts.{market_accounts_of}
use Rattle.dex_types.specs.Owed.{referred}
use Rattle.dex_types.specs.Solvency.{all_referrers}
use Rattle.dex_types.specs.Totals.{total}
use Rattle.dex_accounts.specs.Decoded.{market_in}
use Rattle.dex_market.specs.MarketAccount.{market_words}
use Rattle.dex_audit_rules.proofs.MarketLaws.{differs-one}
use Rattle.dex_audit_rules.proofs.market.tell_rebates.Goals as goal

pub returns : goal.returns
unfolding market_in
returns c =
    let m = market_in (market_accounts_of c.args.market.now) in
    let sum = all_referrers m.traders + total referred m.events in
    on_ok_weaker c.tell_differs.result
    (differs-one 10 373 sum c.args.market.now.address c.args.market.now.address c.referrer_rebates_accrued.result m.referrer_rebates
    c.args.found.now.items c.tell_differs.new.found.items refl (c.referrer_rebates_accrued.ensures ∙ ap (λ b. (market_words b).referrer_rebates_accrued) c.words_of-words.ensures))
    (c.tell_differs.ensures sum (c.rebates.ensures m c.requires.of))
