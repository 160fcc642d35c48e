use Rattle.std.proofs.Common.{All, ◌≡◌, ◌++◌, map, take}
use Rattle.dex_types.specs.Accounts.{named_of}
use Rattle.dex_state.specs.Held.{IsHeld}
use Rattle.dex_dump.specs.DumpText.{lines_text, account_row}
use Rattle.dex_dump.proofs.writing.write_accounts.Given as goal

abbrev pub invariant-loop-account : goal.invariant-loop-account
invariant-loop-account l = record {
  text : l.text.items ≡ l.fn.text.items ++ lines_text (map (account_row l.word) (map named_of (take l.account-index l.accounts)));
  held : All IsHeld (map named_of (take l.account-index l.accounts));
}
