use Rattle.std.proofs.Common.{All, ◌≡◌, ◌++◌, map}
use Rattle.std.specs.List.{flat_map}
use Rattle.dex_types.specs.Accounts.{market_accounts_of}
use Rattle.dex_state.specs.Held.{IsHeldMarket}
use Rattle.dex_dump.specs.DumpText.{lines_text, market_rows}
use Rattle.dex_dump.specs.Pieces.{text_in}
use Rattle.dex_dump.proofs.taking.take_each_market.Given as goal

abbrev pub invariant-loop-market : goal.invariant-loop-market
invariant-loop-market l = record {
  text : text_in l.text ≡ text_in l.fn.text ++ lines_text (flat_map market_rows (map market_accounts_of l.yielded));
  held : All IsHeldMarket (map market_accounts_of l.yielded);
}
