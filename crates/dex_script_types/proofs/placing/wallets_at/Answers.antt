use Rattle.std.proofs.Common.{◌∙◌, sym}
use Rattle.dex_script_types.proofs.FoundLaws.{found-where, not-found}
use Rattle.dex_script_types.proofs.placing.wallets_at.Goals as goal

pub returns-in_err-places-clause-none : goal.returns-in_err-places-clause-none
returns-in_err-places-clause-none g c = λ none.
    not-found (g.F.FindsWallets.place c.args.finder.now) c.args.coin c.args.pc c.args.discount c.args.referrer
    c.plan_wallets-wallets.result c.plan_wallets-wallets.ensures.wallets c.plan_wallets-wallets.ensures.none_between
    (sym c.places_by.ensures ∙ c.in_err-places.was)

pub returns-clause-found : goal.returns-clause-found
returns-clause-found g c =
    found-where (g.F.FindsWallets.place c.args.finder.now) c.args.coin c.args.pc c.args.discount c.args.referrer
    c.plan_wallets-wallets.result c.plan_wallets-wallets.ensures.wallets c.plan_wallets-wallets.ensures.none_between _
    (sym c.places_by.ensures ∙ c.in_ok-places.was)
    c.index_of.ensures c.index_of-2.ensures c.index_of-3.ensures c.index_of-4.ensures
