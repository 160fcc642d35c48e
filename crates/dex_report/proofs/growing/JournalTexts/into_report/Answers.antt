use Rattle.std.proofs.Common.{codes, refl, subst, sym}
use Rattle.dex_state.specs.Held.{HoldBytes}
use Rattle.dex_report.specs.Growing.{IsCounted, TellsMarket, TellsWallet, journal_text}
use Rattle.dex_report.specs.Report.{entry_line, market_lines, move_line, wallet_lines}
use Rattle.dex_report.specs.Telling.{FitEntry, FitMarket, FitWalletEntry, IsToldWallet}
use Rattle.dex_report.proofs.GrowLaws.{all-follow, same-lines, told-fits, told-text}
use Rattle.dex_report.proofs.growing.JournalTexts.into_report.Goals as goal

pub returns-clause-fits : goal.returns-clause-fits
returns-clause-fits c = λ outcome tells are. record {
  accounts = subst HoldBytes (sym are) c.in_ok-take_accounts.ensures.held;
  markets =
      all-follow TellsMarket IsCounted FitMarket (λ text journal counted told. told-fits FitEntry entry_line text journal.address journal.entries counted told)
      c.args.self.markets.items outcome.markets c.in_ok-add_journals.ensures.counted tells.markets;
  wallets =
      all-follow TellsWallet IsCounted IsToldWallet (λ text journal counted told. told-fits FitWalletEntry move_line text journal.address journal.entries counted told)
      c.args.self.wallets.items outcome.wallets c.in_ok-add_journals-2.ensures.counted tells.wallets;
}

pub returns-clause-text : goal.returns-clause-text
returns-clause-text c = λ outcome tells are.
    rw (
      c.in_ok-pieces.ensures,
      c.in_ok-add_end.ensures,
      c.in_ok-take_accounts.ensures.text,
      c.in_ok-make_room.ensures,
      c.in_ok-add_journals-2.ensures.text,
      c.in_ok-add_journals.ensures.text,
      c.in_ok-add_head.ensures.text,
      c.in_ok-text.ensures,
      same-lines TellsMarket (journal_text (codes "market")) market_lines
          (λ text journal told. told-text FitEntry entry_line (codes "market") text journal.address journal.entries told) c.args.self.markets.items outcome.markets tells.markets,
      same-lines TellsWallet (journal_text (codes "wallet")) wallet_lines
          (λ text journal told. told-text FitWalletEntry move_line (codes "wallet") text journal.address journal.entries told) c.args.self.wallets.items outcome.wallets
          tells.wallets,
      are,
    ) refl
