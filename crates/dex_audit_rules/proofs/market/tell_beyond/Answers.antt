use Rattle.std.proofs.Common.{◌≡◌, ◌+◌, ap, ◌∙◌}
use Rattle.std.proofs.lemmas.Result.{on_ok_weaker}
use Rattle.dex_types.specs.Accounts.{market_accounts_of}
use Rattle.dex_types.specs.Side.{Coin, Pc}
use Rattle.dex_types.specs.Solvency.{all_leaving, vault}
use Rattle.dex_accounts.specs.Decoded.{market_in}
use Rattle.dex_market.specs.MarketAccount.{market_words}
use Rattle.dex_token.specs.TokenAccount.{wallet_words}
use Rattle.dex_audit_rules.specs.Funds.{beyond}
use Rattle.dex_totals.specs.Sums.{capped}
use Rattle.dex_audit_rules.proofs.ListLaws.{both}
use Rattle.dex_audit_rules.proofs.MarketLaws.{exceeds-one}
use Rattle.dex_audit_rules.proofs.market.tell_beyond.Goals as goal

pub returns : goal.returns
unfolding market_in
returns c =
    let m = market_in (market_accounts_of c.args.market.now) in
    let coin_sum : c.with_pending-coin.result ≡ capped (vault Coin m + all_leaving Coin m.events) =
    c.with_pending-coin.ensures m c.requires.of
    ∙ ap (λ n. capped (n + all_leaving Coin m.events)) (c.amount.ensures ∙ ap (λ b. (wallet_words b).amount) c.deref.ensures.value) in
    let pc_sum : c.with_pending-pc.result ≡ capped (vault Pc m + all_leaving Pc m.events) =
    c.with_pending-pc.ensures m c.requires.of
    ∙ ap (λ n. capped (n + all_leaving Pc m.events)) (c.amount-2.ensures ∙ ap (λ b. (wallet_words b).amount) c.deref-2.ensures.value) in
    let first =
    exceeds-one 11 64 (vault Coin m + all_leaving Coin m.events) c.coin_vault.result m.listing.coin_vault c.args.found.now.items c.tell_exceeds.new.found.items
    (c.coin_vault.ensures ∙ ap (λ b. (market_words b).terms.coin_vault) c.words_of-words.ensures)
    (c.in_ok-tell_exceeds.ensures (vault Coin m + all_leaving Coin m.events) coin_sum) in
    on_ok_weaker c.tell_exceeds-2.result
    (λ told.
    both c.args.found.now.items (beyond Coin m) (beyond Pc m) c.tell_exceeds.new.found.items c.tell_exceeds-2.new.found.items first
    (exceeds-one 11 64 (vault Pc m + all_leaving Pc m.events) c.pc_vault.result m.listing.pc_vault c.tell_exceeds.new.found.items c.tell_exceeds-2.new.found.items
    (c.pc_vault.ensures ∙ ap (λ b. (market_words b).terms.pc_vault) c.words_of-words.ensures) told))
    (c.tell_exceeds-2.ensures (vault Pc m + all_leaving Pc m.events) pc_sum)
