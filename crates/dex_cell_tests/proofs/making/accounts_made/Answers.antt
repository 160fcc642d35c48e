use Rattle.std.proofs.Common.{ap, refl}
use Rattle.dex_types.specs.Accounts.{PlainMarketAccounts, market_accounts_of}
use Rattle.dex_cell_tests.proofs.MadeLaws.{made-accepted, made-sound}
use Rattle.dex_cell_tests.proofs.SetLaws.{amy-apart}
use Rattle.dex_cell_tests.proofs.making.accounts_made.Goals as goal

pub returns-clause-sound : goal.returns-clause-sound
returns-clause-sound c =
    made-sound c.args.set.now c.labelled-amy.result c.labelled-ben.result (market_accounts_of c.in_ok-accounts.accounts) (c.in_ok-accounts.ensures.stands c.requires.trades) _ _ _
    refl (ap (λ (a : PlainMarketAccounts). a.orders) c.in_ok-accounts.ensures.bytes) c.in_ok-add_blank.ensures c.in_ok-add_blank-2.ensures c.requires.set c.requires.trades
    (amy-apart _ _ c.labelled-amy.ensures c.labelled-ben.ensures)

pub returns-clause-accepted : goal.returns-clause-accepted
returns-clause-accepted c =
    made-accepted c.args.set.now c.labelled-amy.result c.labelled-ben.result (market_accounts_of c.in_ok-accounts.accounts) (c.in_ok-accounts.ensures.stands c.requires.trades) _ _ _
    refl (ap (λ (a : PlainMarketAccounts). a.orders) c.in_ok-accounts.ensures.bytes) c.in_ok-add_blank.ensures c.in_ok-add_blank-2.ensures
