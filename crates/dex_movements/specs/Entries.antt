-- The entries that a row makes: in its market's journal, and in that of each wallet that it names.
use Rattle.dex_types.specs.declared.movements.Entry.{Entry}
use Rattle.dex_types.specs.declared.movements.Movement.{Movement}
use Rattle.dex_types.specs.declared.movements.WalletEntry.{WalletEntry}
use Rattle.dex_types.specs.declared.replies.Reply.{Reply}
use Rattle.dex_types.specs.declared.rows.Seen.{Seen}
use Rattle.dex_types.specs.Rows.{PlainRow}
use Rattle.dex_types.specs.Transfers.{Transfers}
use Rattle.dex_types.specs.Wallets.{movements}
use Rattle.dex_history.specs.Journal.{places}

-- the entry of a row with this reply that moves so much
abbrev pub entry_by : PlainRow → Seen → Reply → Transfers → Entry
entry_by row seen reply t = record { lane = row.lane; row = row.number; reply = reply; moves = places (movements seen t) }

-- the wallet's entry of a movement by a row
abbrev pub wallet_entry_by : PlainRow → Movement → WalletEntry
wallet_entry_by row move = record {
  market = row.market;
  lane = row.lane;
  row = row.number;
  kind = move.kind;
  amount = move.amount;
  before = move.before;
}
