use Rattle.std.proofs.Common.{List, map, take}
use Rattle.std.specs.List.{AllZip}
use Rattle.dex_state.specs.Outcomes.{PlainMarketJournal, market_journal_of}
use Rattle.dex_report.specs.Growing.{TellsMarket, each_goes_on, market_goes_on}
use Rattle.dex_report.proofs.growing.tell_markets.Given as goal

abbrev pub invariant-loop-place : goal.invariant-loop-place
invariant-loop-place l = (told : List PlainMarketJournal) → AllZip TellsMarket l.initial.texts told
    → AllZip TellsMarket l.texts (each_goes_on market_goes_on told (take l.place (map market_journal_of l.journals)))
