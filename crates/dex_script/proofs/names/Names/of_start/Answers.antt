use Rattle.std.proofs.Common.{◌∙◌, List, ap, map}
use Rattle.std.proofs.lemmas.Result.{IfOk-weaker}
use Rattle.dex_types.specs.declared.account_bytes.Named.{Named}
use Rattle.dex_types.specs.Accounts.{named_of}
use Rattle.dex_state.specs.Addresses.{address_of}
use Rattle.dex_script.specs.Names.{AreAt, AreNames, market_address}
use Rattle.dex_script.specs.Telling.{start_of}
use Rattle.dex_script.proofs.NameLaws.{are-names}
use Rattle.dex_script.proofs.names.Names.of_start.Goals as goal

pub returns : goal.returns
returns c =
    let start = start_of c.args.start.now in
    let markets = c.deref-3.result.now in
    let wallets = c.deref-4.result.now in
    IfOk-weaker c.of.result (λ names. AreAt names markets wallets) (λ names. AreNames names start)
    (λ names at. are-names names start markets wallets at
    (c.deref-3.ensures.value ∙ c.in_ok-markets.ensures ∙ ap (map market_address) c.deref.ensures.value)
    (c.deref-4.ensures.value ∙ c.in_ok-wallets.ensures ∙ ap (λ (xs : List Named). map address_of (map named_of xs)) c.deref-2.ensures.value))
    c.of.ensures
