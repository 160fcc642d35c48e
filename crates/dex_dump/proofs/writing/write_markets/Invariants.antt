use Rattle.std.proofs.Common.{All, ◌≡◌, ◌++◌, map, take}
use Rattle.std.specs.List.{flat_map}
use Rattle.dex_types.specs.Accounts.{market_accounts_of}
use Rattle.dex_state.specs.Held.{IsHeldMarket}
use Rattle.dex_dump.specs.DumpText.{lines_text, market_rows}
use Rattle.dex_dump.proofs.writing.write_markets.Given as goal

abbrev pub invariant-loop-market : goal.invariant-loop-market
invariant-loop-market l = record {
  text : l.text.items ≡ l.fn.text.items ++ lines_text (flat_map market_rows (map market_accounts_of (take l.market-index l.markets)));
  held : All IsHeldMarket (map market_accounts_of (take l.market-index l.markets));
}
