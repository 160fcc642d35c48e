use Rattle.std.proofs.Common.{rules, ◌∙◌, ◌≡◌, ◌∷◌, []}
use Rattle.dex_types.specs.Reasons.{missing, not_person, other_mint}
use Rattle.dex_orders.specs.OrdersAccount.{account_of}
use Rattle.dex_market.specs.MarketAccount.{market_words}
use Rattle.dex_reasons.proofs.FirstReasons.{joined, joined-first}
use Rattle.dex_settle.proofs.settle.early_reason.Goals as goal

pub returns : goal.returns
returns c =
    let seen = c.args.seen.now in
    let terms = (market_words c.args.market.now.bytes.now).terms in
    let later = missing seen.pc ∷ not_person (account_of c.args.orders.now.bytes.now).person c.args.signer ∷ other_mint terms.coin_mint seen.coin ∷ other_mint terms.pc_mint seen.pc ∷ other_mint terms.pc_mint seen.referrer ∷ [] in
    let made : c.or-5.result ≡ joined (missing seen.coin) later = search rules in
    made ∙ joined-first (missing seen.coin) later
