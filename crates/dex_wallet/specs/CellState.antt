-- What a wallet's cell keeps, and how a movement changes it.
use Rattle.std.specs.Prelude.{◌≡◌, ℕ, ◌<◌, ◌≤◌, List, [], ◌∷◌, ◌++◌, length}
use Rattle.dex_types.specs.declared.addresses.Address.{Address}
use Rattle.dex_types.specs.declared.movements.MoveKind.{MoveKind}
use Rattle.dex_types.specs.declared.movements.WalletEntry.{WalletEntry}
use Rattle.dex_types.specs.declared.rows.WalletSeen.{WalletSeen}
use Rattle.dex_types.specs.WalletJournal.{IsWalletLegal, balance_after, moved_balance}
use Rattle.dex_token.specs.TokenAccount.{IsWallet, wallet_words, with_amount}
use Rattle.dex_wallet.specs.TokenAmount.{TokenAmount, held_in}

-- a wallet's cell: its address, the token account as it was when the cell was made and as it is now, the parcel in the
-- cell, the movements since, and for how many movements altogether there is room
pub record CellState : Type 0 where
  pub address : Address
  pub start : List ℕ
  pub bytes : List ℕ
  pub share : TokenAmount
  pub entries : List WalletEntry
  pub room : ℕ

-- the balance of a token account
abbrev pub balance_of : List ℕ → ℕ
balance_of bytes = (wallet_words bytes).amount

-- what always holds of a cell
pub record IsWalletCell (cell : CellState) : Type 0 where
  pub accepted : IsWallet cell.bytes
  -- but for the amount the token account is the starting one
  pub others : cell.bytes ≡ with_amount cell.start (balance_of cell.bytes)
  -- the amount is the starting one after all movements
  pub balance : balance_of cell.bytes ≡ balance_after (balance_of cell.start) cell.entries
  pub legal : IsWalletLegal (balance_of cell.start) cell.entries
  pub share : cell.share ≡ held_in cell.bytes
  pub room : length cell.entries ≤ cell.room

-- a cell with no movement yet
abbrev pub new_cell : Address → List ℕ → ℕ → CellState
new_cell address bytes room = record { address = address; start = bytes; bytes = bytes; share = held_in bytes; entries = []; room = room }

-- what a row sees of a cell
abbrev pub seen_of : CellState → WalletSeen
seen_of cell = record {
  address = cell.address;
  mint = (wallet_words cell.bytes).mint;
  owner = (wallet_words cell.bytes).owner;
  balance = balance_of cell.bytes;
}

-- there is room for a movement more
abbrev pub HasSpare : CellState → Type 0
HasSpare cell = length cell.entries < cell.room

-- a movement of this kind and amount, by a row of this number that the lane submits to the market
abbrev pub movement : CellState → Address → ℕ → ℕ → MoveKind → ℕ → WalletEntry
movement cell market lane row kind amount = record {
  market = market;
  lane = lane;
  row = row;
  kind = kind;
  amount = amount;
  before = balance_of cell.bytes;
}

-- the cell after a movement: it stands after the others, and the token account and the parcel have the amount after it
abbrev pub with_entry : CellState → WalletEntry → CellState
with_entry cell entry = record cell {
  bytes = with_amount cell.bytes (moved_balance entry.kind entry.amount (balance_of cell.bytes));
  share = record cell.share { amount = moved_balance entry.kind entry.amount cell.share.amount };
  entries = cell.entries ++ entry ∷ [];
}

-- the cell after the movement of this kind and amount, by a row of this number that the lane submits to the market
abbrev pub moved_by : CellState → Address → ℕ → ℕ → MoveKind → ℕ → CellState
moved_by cell market lane row kind amount = with_entry cell (movement cell market lane row kind amount)
