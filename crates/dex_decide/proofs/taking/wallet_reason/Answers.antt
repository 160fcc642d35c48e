use Rattle.std.proofs.Common.{rules, ◌∙◌, ◌≡◌, ◌∷◌, []}
use Rattle.dex_types.specs.Reasons.{disabled, missing, not_signed_by, other_discount_mint, other_mint}
use Rattle.dex_types.specs.Why.{payer}
use Rattle.dex_reasons.proofs.FirstReasons.{joined, joined-first}
use Rattle.dex_accounts.specs.Decoded.{market_in}
use Rattle.dex_decide.proofs.taking.wallet_reason.Goals as goal

pub returns : goal.returns
returns g c =
    let seen = c.args.seen.now in
    let m = market_in (g.M.ReadMarket.held c.args.accounts.now) in
    let signer = c.args.ask.now.signer in
    let later =
    missing seen.coin
    ∷ missing seen.pc
    ∷ other_mint m.listing.coin_mint seen.coin
    ∷ other_mint m.listing.pc_mint seen.pc
    ∷ other_discount_mint seen seen.discount
    ∷ not_signed_by signer (payer c.args.side seen)
    ∷ not_signed_by signer seen.discount
    ∷ [] in
    let made : c.or-7.result ≡ joined (disabled m) later = search rules in
    made ∙ joined-first (disabled m) later
