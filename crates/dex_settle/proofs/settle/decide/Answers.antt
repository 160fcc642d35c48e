use Rattle.std.proofs.Common.{◌∙◌, ◌<◌, ◌^◌, ◌+◌, is_some, sym, ap, arith}
use Rattle.dex_types.specs.Settle.{settlement, settle_transfers}
use Rattle.dex_market.specs.MarketAccount.{market_words}
use Rattle.dex_orders.specs.OrdersAccount.{account_of}
use Rattle.dex_sound.proofs.OrderSoundReasons.{NoneOf, first_of-none}
use Rattle.dex_settle.specs.PayingOut.{plan_of, transfers_by}
use Rattle.dex_types.specs.Reasons.{answered}
use Rattle.dex_settle.specs.Refusing.{early_settle_reasons, full_reasons}
use Rattle.dex_reasons.proofs.FirstReasons.{first_of-early}
use Rattle.dex_settle.proofs.WalletLaws.{brought-fits}
use Rattle.dex_settle.proofs.settle.decide.Goals as goal

pub returns-in-Some : goal.returns-in-Some
returns-in-Some c =
    let seen = c.args.seen.now in
    let account = account_of c.args.orders.now.bytes.now in
    let early = early_settle_reasons (market_words c.args.market.now.bytes.now).terms c.args.signer seen account in
    let s = settlement (is_some seen.referrer) account in
    sym (ap (λ r. answered r (plan_of s)) (first_of-early early (full_reasons seen (settle_transfers s)) c.in-Some.why (sym c.early_reason.ensures ∙ c.in-Some.is)))

pub full_reason-requires : goal.full_reason-requires
full_reason-requires c address =
    let seen = c.args.seen.now in
    let account = account_of c.args.orders.now.bytes.now in
    let terms = (market_words c.args.market.now.bytes.now).terms in
    let early = early_settle_reasons terms c.args.signer seen account in
    let each : NoneOf early = first_of-none early (sym c.early_reason.ensures ∙ c.in_default.is) in
    let both : c.plan_of-plan.result.pc + c.plan_of-plan.result.referrer < 2 ^ 64 = omega (arith, c.requires.fits, c.plan_of-plan.ensures.out.pc, c.plan_of-plan.ensures.out.referrer) in
    brought-fits terms.coin_mint terms.pc_mint seen (transfers_by c.plan_of-plan.result) address c.requires.market.terms.mints c.requires.wallets
    each.1.1.1.0 each.1.1.1.1.0 each.1.1.1.1.1.0 (omega arith) both
