use Rattle.std.proofs.Common.{get_or, map, sym, subst, ap, ◌∙◌, arith}
use Rattle.std.proofs.lemmas.List.{length-map}
use Rattle.dex_types.specs.declared.account_bytes.Named.{Named}
use Rattle.dex_types.specs.Accounts.{PlainAccount, named_of}
use Rattle.dex_token.specs.TokenAccount.{IsWallet}
use Rattle.dex_state.specs.Conserved.{amount_of}
use Rattle.dex_audit.proofs.SupplyLaws.{all-map, here-map}
use Rattle.dex_totals.proofs.SumLaws.{capped-exact, capped-total}
use Rattle.dex_audit.proofs.supplies.in_wallets.Goals as goal

pub amount_of-more-requires : goal.amount_of-more-requires
amount_of-more-requires c =
    subst IsWallet (sym (c.deref.ensures.value ∙ sym (ap (λ (w : Named). w.bytes.items) c.index-wallets-place.is)))
    (all-map named_of (λ (wallet : PlainAccount). IsWallet wallet.bytes) c.args.wallets.now c.loop-place.place c.index-wallets-place.result c.requires (omega arith)
    c.index-wallets-place.is)

pub loop-place-preserved : goal.loop-place-preserved
loop-place-preserved c =
    let wallets = map named_of c.args.wallets.now in
    let d : PlainAccount = named_of c.index-wallets-place.result in
    let weight = λ (wallet : PlainAccount). amount_of c.args.mint wallet.bytes in
    let here = here-map named_of c.args.wallets.now c.loop-place.place c.index-wallets-place.result (omega arith) c.index-wallets-place.is in
    capped-total weight wallets c.loop-place.place d c.loop-place.sum c.saturating_add-sum.result c.amount_of-more.result (omega (arith, length-map c.args.wallets.now named_of))
    c.loop-place.invariant
    (capped-exact c.amount_of-more.result (weight (get_or wallets c.loop-place.place d))
    (c.amount_of-more.ensures.value ∙ ap (amount_of c.args.mint) (c.deref.ensures.value ∙ sym (ap (λ (w : Named). w.bytes.items) c.index-wallets-place.is)) ∙ sym (ap weight here)) (omega (arith, c.amount_of-more.ensures.small)))
    c.saturating_add-sum.ensures
