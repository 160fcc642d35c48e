-- What the fields of items and of starts stand for.
use Rattle.dex_types.specs.declared.movements.WalletEntry.{WalletEntry}
use Rattle.dex_types.specs.Accounts.{market_accounts_of}
use Rattle.dex_types.specs.Rows.{row_of}
use Rattle.dex_history.specs.Journal.{Call, asked_of}
use Rattle.dex_stamps.specs.Stamped.{Stamped}
use Rattle.dex_journals.specs.declared.items.StampedCall.TheInside as call
use Rattle.dex_journals.specs.declared.items.StampedEntry.TheInside as entry
use Rattle.dex_journals.specs.declared.items.MarketStart.TheInside as market
use Rattle.dex_journals.specs.declared.items.WalletStart.TheInside as wallet
use Rattle.dex_journals.specs.Journals.{MarketOrigin, WalletOrigin}

-- the call of a row, of what it saw and of its entry
abbrev pub call_inside : call.Inside → Stamped Call
call_inside inside = record {
  item = record { asked = asked_of (row_of inside.row); seen = inside.seen; entry = inside.entry };
  stamp = inside.stamp.number;
}

-- the wallet's entry with its stamp that the fields stand for
abbrev pub entry_inside : entry.Inside → Stamped WalletEntry
entry_inside inside = record { item = inside.entry; stamp = inside.stamp.number }

-- the start of a market that the fields stand for
abbrev pub market_start_inside : market.Inside → MarketOrigin
market_start_inside inside = record {
  start = market_accounts_of inside.start.value;
  script = inside.script.value;
}

-- the start of a wallet that the fields stand for
abbrev pub wallet_start_inside : wallet.Inside → WalletOrigin
wallet_start_inside inside = record {
  start = record { address = inside.address; bytes = inside.bytes.value.items };
  script = inside.script.value;
}
