use Rattle.std.proofs.Common.{◌∙◌, List, ap, map}
use Rattle.std.proofs.lemmas.Result.{IfOk-weaker}
use Rattle.dex_types.specs.declared.account_bytes.MarketAccounts.{MarketAccounts}
use Rattle.dex_types.specs.declared.account_bytes.Named.{Named}
use Rattle.dex_types.specs.Accounts.{accounts_of, market_accounts_of, named_of}
use Rattle.dex_state.specs.Addresses.{address_of}
use Rattle.dex_script.specs.Names.{AreAt, AreNames, market_address}
use Rattle.dex_script.proofs.NameLaws.{are-names}
use Rattle.dex_desk.proofs.set_up.names_of.Goals as goal

pub returns : goal.returns
returns c =
    let accounts = accounts_of c.args.accounts.now in
    let markets = c.deref-3.result.now in
    let wallets = c.deref-4.result.now in
    IfOk-weaker c.of.result (λ names. AreAt names markets wallets) (λ names. AreNames names accounts)
    (λ names at. are-names names accounts markets wallets at
    (c.deref-3.ensures.value ∙ c.in_ok-markets.ensures ∙ ap (λ (xs : List MarketAccounts). map market_address (map market_accounts_of xs)) c.deref.ensures.value)
    (c.deref-4.ensures.value ∙ c.in_ok-wallets.ensures ∙ ap (λ (xs : List Named). map address_of (map named_of xs)) c.deref-2.ensures.value))
    c.of.ensures
