use Rattle.std.proofs.Common.{List, map, take}
use Rattle.std.specs.List.{AllZip}
use Rattle.dex_state.specs.Outcomes.{PlainWalletJournal, wallet_journal_of}
use Rattle.dex_report.specs.Growing.{TellsWallet, each_goes_on, wallet_goes_on}
use Rattle.dex_report.proofs.growing.tell_wallets.Given as goal

abbrev pub invariant-loop-place : goal.invariant-loop-place
invariant-loop-place l = (told : List PlainWalletJournal) → AllZip TellsWallet l.initial.texts told
    → AllZip TellsWallet l.texts (each_goes_on wallet_goes_on told (take l.place (map wallet_journal_of l.journals)))
