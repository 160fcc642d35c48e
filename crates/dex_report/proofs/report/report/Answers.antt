use Rattle.std.proofs.Common.{All, List, subst}
use Rattle.dex_types.specs.Accounts.{accounts_of}
use Rattle.dex_state.specs.declared.outcome.MarketJournal.{MarketJournal}
use Rattle.dex_state.specs.declared.outcome.WalletJournal.{WalletJournal}
use Rattle.dex_state.specs.Outcomes.{market_journal_of, wallet_journal_of}
use Rattle.dex_report.specs.Telling.{FitMarket, IsToldWallet}
use Rattle.dex_report.proofs.Whole.{whole-fits, whole-text}
use Rattle.dex_report.proofs.report.report.Goals as goal

pub returns-clause-fits : goal.returns-clause-fits
returns-clause-fits c =
    let outcome = c.args.outcome.now in
    let markets = λ (journals : List MarketJournal). All (λ (journal : MarketJournal). FitMarket (market_journal_of journal)) journals in
    let wallets = λ (journals : List WalletJournal). All (λ (journal : WalletJournal). IsToldWallet (wallet_journal_of journal)) journals in
    whole-fits (accounts_of outcome.accounts) outcome.markets.items outcome.wallets.items c.in_ok-append_dump.ensures.held
    (subst markets c.deref.ensures.value c.in_ok-write_each.ensures.fits) (subst wallets c.deref-2.ensures.value c.in_ok-write_each-2.ensures.fits)

pub returns-clause-text : goal.returns-clause-text
returns-clause-text c =
    let outcome = c.args.outcome.now in
    rw (
      c.in_ok-extend_from_slice.ensures.items,
      c.in_ok-append_dump.ensures.text,
      c.in_ok-write_each-2.ensures.text,
      c.in_ok-write_each.ensures.text,
      c.in_ok-write_head.ensures,
      c.in_ok-text.ensures.items,
      c.deref.ensures.value,
      c.deref-2.ensures.value,
    )
    (whole-text (accounts_of outcome.accounts) outcome.markets.items outcome.wallets.items c.args.rows)
