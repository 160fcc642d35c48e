-- What `replay` and `run` report.
use Rattle.std.specs.Prelude.{ℕ, List, [], ◌++◌, length, codes, Option, Some, None}
use Rattle.std.specs.Fmt.{decimal}
use Rattle.std.specs.List.{flat_map}
use Rattle.dex_types.specs.declared.addresses.Address.{Address}
use Rattle.dex_types.specs.declared.movements.Entry.{Entry}
use Rattle.dex_types.specs.declared.movements.Movement.{Movement}
use Rattle.dex_types.specs.declared.movements.WalletEntry.{WalletEntry}
use Rattle.dex_types.specs.MovementText.{kind_text, movement_text}
use Rattle.dex_types.specs.Text.{address_text, reply_text, spaced}
use Rattle.dex_dump.specs.DumpText.{dump_text}
use Rattle.dex_report.specs.Lines.{line}
use Rattle.dex_state.specs.Outcomes.{PlainMarketJournal, PlainOutcome, PlainWalletJournal}

-- a movement after a space, where one stands
abbrev pub move_text : Option Movement → List ℕ
move_text None = []
move_text (Some movement) = spaced (movement_text movement)

-- a line of a word, an address where there is one, and a number
abbrev pub head_line : List ℕ → Option Address → ℕ → List ℕ
head_line word None number = line (word ++ spaced (decimal number))
head_line word (Some address) number = line (word ++ spaced (address_text address) ++ spaced (decimal number))

-- the lane and the row of an entry of a market's journal
abbrev pub entry_front : Entry → List ℕ
entry_front entry = codes "entry" ++ spaced (decimal entry.lane) ++ spaced (decimal entry.row)

-- an entry of a market's journal: the lane, the row, the reply, and each movement
abbrev pub entry_line : Entry → List ℕ
entry_line entry = line (entry_front entry ++ spaced (reply_text entry.reply) ++ flat_map move_text entry.moves)

-- a market's journal: the market, how many entries it has, and these
abbrev pub market_lines : PlainMarketJournal → List ℕ
market_lines journal = head_line (codes "market") (Some journal.address) (length journal.entries) ++ flat_map entry_line journal.entries

-- an entry of a wallet's journal: the market, the lane, the row, and what was moved
abbrev pub move_line : WalletEntry → List ℕ
move_line entry =
    line (codes "move" ++ spaced (address_text entry.market) ++ spaced (decimal entry.lane) ++ spaced (decimal entry.row)
    ++ spaced (kind_text entry.kind) ++ spaced (decimal entry.amount) ++ spaced (decimal entry.before))

-- a wallet's journal: the wallet, how many entries it has, and these
abbrev pub wallet_lines : PlainWalletJournal → List ℕ
wallet_lines journal = head_line (codes "wallet") (Some journal.address) (length journal.entries) ++ flat_map move_line journal.entries

-- the report of an outcome of this many rows: the rows, each market's journal, each wallet's, the last accounts, and
-- the end
abbrev pub report_text : PlainOutcome → ℕ → List ℕ
report_text outcome rows =
    head_line (codes "report") None rows ++ flat_map market_lines outcome.markets ++ flat_map wallet_lines outcome.wallets
    ++ dump_text outcome.accounts ++ line (codes "end")
