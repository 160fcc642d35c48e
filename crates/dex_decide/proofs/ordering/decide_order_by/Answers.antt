use Rattle.std.proofs.Common.{◌≡◌, Option, refl, sym, subst, ap, ◌∙◌, ◌∷◌, []}
use Rattle.dex_types.specs.declared.refusals.Refusal.{Refusal}
use Rattle.std.specs.Prelude.{IsSomeAnd}
use Rattle.dex_types.specs.declared.refusals.Refusal.TheVariants.{NoAccount}
use Rattle.dex_types.specs.declared.rows.WalletSeen.{WalletSeen}
use Rattle.dex_types.specs.Reasons.{first_of}
use Rattle.dex_types.specs.Why.{order_reading, why_order_of, why_ordering}
use Rattle.dex_match.specs.declared.order_plan.Decided.{Decided}
use Rattle.dex_match.specs.OrderTerms.{order_of}
use Rattle.dex_plan.specs.declared.plan.Plan.TheVariants as plans
use Rattle.dex_plan.specs.Given.{asked_by}
use Rattle.dex_accounts.specs.Decoded.{market_in}
use Rattle.dex_decide.specs.Named.{party_by}
use Rattle.dex_plan.specs.Plans.{order_planned}
use Rattle.dex_decide.proofs.OrderLaws.{order-told, order-unpaid}
use Rattle.dex_decide.proofs.Planning.{err-planned, given-planned, ok-planned}
use Rattle.dex_decide.proofs.ordering.decide_order_by.Goals as goal

pub returns-in_default : goal.returns-in_default
returns-in_default g c =
    let request = asked_by c.args.asked.ask.now in
    let party = party_by c.args.acting.address c.args.acting.bytes.now in
    let side = c.args.taker.now.id_side in
    let n = order_of c.args.taker.now in
    let m = market_in (g.M.ReadMarket.held c.args.accounts.now) in
    given-planned (why_order_of side n request c.args.asked.seen.now m party) (order_planned side n m party.account) NoAccount
    (sym (order-unpaid (g.M.ReadMarket.held c.args.accounts.now) c.requires.sound side n request c.args.asked.seen.now party (sym c.payer_seen.ensures ∙ c.in_default.is)))

pub returns-in-Some-wallet_reason : goal.returns-in-Some-wallet_reason
returns-in-Some-wallet_reason g c =
    let request = asked_by c.args.asked.ask.now in
    let party = party_by c.args.acting.address c.args.acting.bytes.now in
    let side = c.args.taker.now.id_side in
    let n = order_of c.args.taker.now in
    let m = market_in (g.M.ReadMarket.held c.args.accounts.now) in
    let late = why_ordering side n (order_reading side n c.args.asked.seen.now m party.account) in
    given-planned (why_order_of side n request c.args.asked.seen.now m party) (order_planned side n m party.account) c.in-Some-wallet_reason.why
    (ap (λ (r : Option Refusal). first_of (r ∷ late ∷ [])) (sym c.in-Some-wallet_reason.is ∙ c.wallet_reason.ensures))

pub returns-in-Ok : goal.returns-in-Ok
returns-in-Ok g c =
    ok-planned (λ (d : Decided). plans.Order c.args.taker.now d.plan d.pending) _ _ c.in-Ok.decided
    (sym c.in-Ok.is ∙ c.decide_order_with.ensures
    ∙ order-told (g.M.ReadMarket.held c.args.accounts.now) c.requires.sound c.args.taker.now.id_side (order_of c.args.taker.now) (asked_by c.args.asked.ask.now)
    c.args.asked.seen.now c.args.acting.address c.args.acting.bytes.now c.in-Some.wallet.balance c.requires.acting c.requires.account (subst (λ (p : Option WalletSeen). IsSomeAnd p (λ (w : WalletSeen). w.balance ≡ c.in-Some.wallet.balance)) (sym (sym c.payer_seen.ensures ∙ c.in-Some.is)) refl)
    (sym c.wallet_reason.ensures ∙ c.in_default-wallet_reason.is))

pub returns-in-Err : goal.returns-in-Err
returns-in-Err g c =
    err-planned _ _ _ c.in-Err.why
    (sym c.in-Err.is ∙ c.decide_order_with.ensures
    ∙ order-told (g.M.ReadMarket.held c.args.accounts.now) c.requires.sound c.args.taker.now.id_side (order_of c.args.taker.now) (asked_by c.args.asked.ask.now)
    c.args.asked.seen.now c.args.acting.address c.args.acting.bytes.now c.in-Some.wallet.balance c.requires.acting c.requires.account (subst (λ (p : Option WalletSeen). IsSomeAnd p (λ (w : WalletSeen). w.balance ≡ c.in-Some.wallet.balance)) (sym (sym c.payer_seen.ensures ∙ c.in-Some.is)) refl)
    (sym c.wallet_reason.ensures ∙ c.in_default-wallet_reason.is))
