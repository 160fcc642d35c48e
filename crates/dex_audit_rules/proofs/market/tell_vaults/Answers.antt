use Rattle.std.proofs.Common.{◌≡◌, ◌+◌, ap, ◌∙◌, arith}
use Rattle.std.proofs.lemmas.Result.{on_ok_weaker}
use Rattle.dex_types.specs.Accounts.{market_accounts_of}
use Rattle.dex_types.specs.Side.{Coin, Pc}
use Rattle.dex_types.specs.Solvency.{earned}
use Rattle.dex_accounts.specs.Decoded.{market_in}
use Rattle.dex_market.specs.MarketAccount.{market_words}
use Rattle.dex_token.specs.TokenAccount.{wallet_words}
use Rattle.dex_audit_rules.specs.Funds.{deposited, vault_off}
use Rattle.dex_totals.specs.Sums.{capped}
use Rattle.dex_audit_rules.proofs.ListLaws.{both}
use Rattle.dex_audit_rules.proofs.MarketLaws.{differs-one}
use Rattle.dex_audit_rules.proofs.market.tell_vaults.Goals as goal

pub returns : goal.returns
unfolding market_in
returns c =
    let m = market_in (market_accounts_of c.args.market.now) in
    let words = market_words c.args.market.now.market.items in
    let coin_sum : c.saturating_add-coin.result ≡ capped (deposited Coin m + earned Coin m) =
    omega (
      arith,
      c.saturating_add-coin.ensures,
      c.from.ensures,
      c.deposits_of.ensures m c.requires.of,
      c.coin_fees_accrued.ensures ∙ ap (λ b. (market_words b).coin_fees_accrued) c.words_of-words.ensures,
    ) in
    let pc_sum : c.saturating_add-pc.result ≡ capped (deposited Pc m + earned Pc m) =
    omega (
      arith,
      c.saturating_add-pc.ensures,
      c.from-2.ensures,
      c.from-3.ensures,
      c.deposits_of-2.ensures m c.requires.of,
      c.pc_fees_accrued.ensures ∙ ap (λ b. (market_words b).pc_fees_accrued) c.words_of-words.ensures,
      c.referrer_rebates_accrued.ensures ∙ ap (λ b. (market_words b).referrer_rebates_accrued) c.words_of-words.ensures,
    ) in
    let first =
    differs-one 9 64 (deposited Coin m + earned Coin m) c.coin_vault.result m.listing.coin_vault c.amount.result m.coin_vault
    c.args.found.now.items c.tell_differs.new.found.items
    (c.coin_vault.ensures ∙ ap (λ b. (market_words b).terms.coin_vault) c.words_of-words.ensures)
    (c.amount.ensures ∙ ap (λ b. (wallet_words b).amount) c.deref.ensures.value)
    (c.in_ok-tell_differs.ensures (deposited Coin m + earned Coin m) coin_sum) in
    on_ok_weaker c.tell_differs-2.result
    (λ told.
    both c.args.found.now.items (vault_off Coin m) (vault_off Pc m) c.tell_differs.new.found.items c.tell_differs-2.new.found.items first
    (differs-one 9 64 (deposited Pc m + earned Pc m) c.pc_vault.result m.listing.pc_vault c.amount-2.result m.pc_vault
    c.tell_differs.new.found.items c.tell_differs-2.new.found.items
    (c.pc_vault.ensures ∙ ap (λ b. (market_words b).terms.pc_vault) c.words_of-words.ensures)
    (c.amount-2.ensures ∙ ap (λ b. (wallet_words b).amount) c.deref-2.ensures.value) told))
    (c.tell_differs-2.ensures (deposited Pc m + earned Pc m) pc_sum)
