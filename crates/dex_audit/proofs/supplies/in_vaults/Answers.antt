use Rattle.std.proofs.Common.{◌+◌, get_or, map, sym, ap, ◌∙◌, arith}
use Rattle.std.proofs.lemmas.List.{length-map}
use Rattle.dex_types.specs.Accounts.{PlainMarketAccounts, market_accounts_of}
use Rattle.dex_accounts.specs.Accepted.{IsAccepted}
use Rattle.dex_state.specs.Conserved.{amount_of}
use Rattle.dex_audit.proofs.SupplyLaws.{all-map, here-map}
use Rattle.dex_totals.proofs.SumLaws.{capped-exact, capped-total}
use Rattle.dex_audit.proofs.supplies.in_vaults.Goals as goal

pub in_vaults_of-more-requires : goal.in_vaults_of-more-requires
in_vaults_of-more-requires c =
    all-map market_accounts_of IsAccepted c.args.markets.now c.loop-place.place c.index-markets-place.result c.requires (omega arith) c.index-markets-place.is

pub loop-place-preserved : goal.loop-place-preserved
loop-place-preserved c =
    let markets = map market_accounts_of c.args.markets.now in
    let d : PlainMarketAccounts = market_accounts_of c.index-markets-place.result in
    let weight = λ (market : PlainMarketAccounts). amount_of c.args.mint market.coin_vault + amount_of c.args.mint market.pc_vault in
    let here = here-map market_accounts_of c.args.markets.now c.loop-place.place c.index-markets-place.result (omega arith) c.index-markets-place.is in
    capped-total weight markets c.loop-place.place d c.loop-place.sum c.saturating_add-sum.result c.in_vaults_of-more.result
    (omega (arith, length-map c.args.markets.now market_accounts_of)) c.loop-place.invariant
    (capped-exact c.in_vaults_of-more.result (weight (get_or markets c.loop-place.place d)) (c.in_vaults_of-more.ensures.value ∙ sym (ap weight here)) c.in_vaults_of-more.ensures.small)
    c.saturating_add-sum.ensures
