-- What a run of a script may leave, in whatever order its lanes act.
use Rattle.std.specs.Prelude.{◌≡◌, ◌==◌, ◌&&◌, ℕ, Bool, not, List, [], ◌∷◌, map, All, if◌then◌else◌}
use Rattle.std.specs.List.{Any, Contains, filter, list_any}
use Rattle.dex_types.specs.declared.addresses.Address.{Address}
use Rattle.dex_types.specs.declared.movements.Entry.{Entry}
use Rattle.dex_types.specs.declared.movements.Movement.{Movement}
use Rattle.dex_types.specs.declared.movements.WalletEntry.{WalletEntry}
use Rattle.dex_types.specs.declared.replies.Reply.{Reply}
use Rattle.dex_types.specs.Accounts.{PlainAccount, PlainMarketAccounts}
use Rattle.dex_types.specs.Addresses.{is_same}
use Rattle.dex_types.specs.Rows.{PlainRow}
use Rattle.dex_types.specs.WalletJournal.{IsWalletLegal, balance_after}
use Rattle.dex_accounts.specs.Decoded.{market_in}
use Rattle.dex_accounts.specs.StandsFor.{StandsFor}
use Rattle.dex_instruction.specs.Reading.{decoded}
use Rattle.dex_history.specs.Journal.{Call, IsLegal, asked_of, front, is_done, is_refusal, is_take, market_after, wallet_entry_of}
use Rattle.dex_world.specs.Groups.{members}
use Rattle.dex_world.specs.Items.{Item, items_of, rows_of_lane}
pub use Rattle.dex_world.specs.Lists.{AllThree}
pub use Rattle.dex_world.specs.RowsOf.{rows_of_market, rows_of_wallet}
use Rattle.dex_state.specs.Outcomes.{PlainMarketJournal, PlainOutcome, PlainWalletJournal}
use Rattle.dex_script_types.specs.PlainScript.{PlainScript}
pub use Rattle.dex_script_types.specs.Sight.{IsSight, IsWalletSeen}
use Rattle.dex_token.specs.TokenAccount.{with_amount}
use Rattle.dex_wallet.specs.CellState.{balance_of}
use Rattle.dex_replay.specs.Replays.{IsOfStart}

-- ---- which rows a journal tells of

-- where a wallet's entry is from: the market, and the lane and the number of the row
pub record Origin : Type 0 where
  pub market : Address
  pub lane : ℕ
  pub row : ℕ

-- where the entries of a row are from
abbrev pub origin_of_row : PlainRow → Origin
origin_of_row row = record { market = row.market; lane = row.lane; row = row.number }

-- where a wallet's entry is from, as it tells
abbrev pub origin_of_entry : WalletEntry → Origin
origin_of_entry entry = record { market = entry.market; lane = entry.lane; row = entry.row }

-- ---- a market

-- a market's journal is that of a legal history from its first accounts, its last accounts stand for the market at the
-- end, and for each lane the calls ask what the script's rows of that lane on this market do, one for each, in their
-- order
pub record IsLawfulMarket (script : PlainScript) (first last : PlainMarketAccounts) (journal : PlainMarketJournal)
    : Type 0 where
  pub calls : List Call
  pub entries : journal.entries ≡ map (λ (call : Call). call.entry) calls
  pub legal : IsLegal (market_in first) calls
  pub stands : StandsFor last (market_after (market_in first) calls)
  pub rows : (lane : ℕ)
      → map (λ (call : Call). call.asked) (filter (λ (call : Call). call.asked.lane == lane) calls)
      ≡ map asked_of (rows_of_market lane first.address script.rows)
  pub sees : All (λ (call : Call). IsSight script call.seen) calls

-- ---- a wallet

-- a wallet's account at the end of some entries: the amount is theirs, all else as it was
abbrev pub account_after : PlainAccount → List WalletEntry → PlainAccount
account_after first entries =
    record first { bytes = with_amount first.bytes (balance_after (balance_of first.bytes) entries) }

-- a wallet's journal is legal from its first amount, its last account is that at the end, and for each lane the entries
-- are those of the script's rows of that lane that name it, one for each, in their order
pub record IsLawfulWallet (script : PlainScript) (first last : PlainAccount) (journal : PlainWalletJournal) : Type 0 where
  pub legal : IsWalletLegal (balance_of first.bytes) journal.entries
  pub account : last ≡ account_after first journal.entries
  pub rows : (lane : ℕ)
      → map origin_of_entry (filter (λ (entry : WalletEntry). entry.lane == lane) journal.entries)
      ≡ map origin_of_row (rows_of_wallet lane first.address script.rows)

-- ---- both

-- a movement of a market's entry stands in its wallet's journal, with the market, the lane and the row of the entry
abbrev pub IsTold : List PlainWalletJournal → Address → Entry → Movement → Type 0
IsTold journals market entry move = Any (λ (journal : PlainWalletJournal).
    (journal.address ≡ move.wallet) × Contains journal.entries (wallet_entry_of market entry move)) journals

-- so does each movement of each entry of a market's journal
abbrev pub AreTold : List PlainWalletJournal → PlainMarketJournal → Type 0
AreTold journals journal =
    All (λ (entry : Entry). All (IsTold journals journal.address entry) (front entry.moves)) journal.entries

-- ---- items

-- the entries of the journal of a market
abbrev pub entries_at : Address → List PlainMarketJournal → List Entry
entries_at address [] = []
entries_at address (journal ∷ journals) =
    if is_same address journal.address then journal.entries else entries_at address journals

-- a row's reply, as its market's journal has it, is such
abbrev pub is_answered : (Reply → Bool) → List PlainMarketJournal → PlainRow → Bool
is_answered test journals row =
    list_any (λ (entry : Entry). (entry.row == row.number) && test entry.reply) (entries_at row.market journals)

-- a row was held back: it asks for a take, and the reply is that nothing was to do
abbrev pub was_held : List PlainMarketJournal → PlainRow → Bool
was_held journals row = is_take (decoded row.bytes) && is_answered is_done journals row

-- of the rows of an item one is held back exactly where it is not refused and another of them is
abbrev pub IsAllOrNone : List PlainMarketJournal → Item → Type 0
IsAllOrNone journals item = All (λ (row : PlainRow). was_held journals row
    ≡ (list_any (is_answered is_refusal journals) (members item) && not (is_answered is_refusal journals row))) (members item)

-- ---- all

-- the outcome is one that the script allows: it is of the script's start; each market and each wallet has a lawful
-- journal and what stands at its end; what moved between them stands in both; and each item did all that its rows ask,
-- or nothing
pub record IsLawful (script : PlainScript) (outcome : PlainOutcome) : Type 0 where
  pub start : IsOfStart script outcome
  pub markets : AllThree (IsLawfulMarket script) script.start.markets outcome.accounts.markets outcome.markets
  pub wallets : AllThree (IsLawfulWallet script) script.start.wallets outcome.accounts.wallets outcome.wallets
  pub told : All (AreTold outcome.wallets) outcome.markets
  pub items : (lane : ℕ) → All (IsAllOrNone outcome.markets) (items_of (rows_of_lane lane script.rows))
