-- What a wallet's cell keeps stands for.
use Rattle.std.specs.Prelude.{ℕ, ◌≤◌, List, vec_capacity}
use Rattle.dex_types.specs.declared.addresses.Address.{Address}
use Rattle.dex_types.specs.declared.movements.WalletEntry.{WalletEntry}
use Rattle.dex_token.specs.TokenAccount.{with_amount}
use Rattle.dex_wallet.specs.declared.wallet_cell.Kept.{Kept}
use Rattle.dex_wallet.specs.TokenAmount.{TokenAmount}
use Rattle.dex_wallet.specs.CellState.{CellState, IsWalletCell}

-- the cell of these parts: its start is the token account with the starting amount
abbrev pub cell_of : Address → ℕ → List ℕ → TokenAmount → List WalletEntry → ℕ → CellState
cell_of address starting bytes share entries room = record {
  address = address;
  start = with_amount bytes starting;
  bytes = bytes;
  share = share;
  entries = entries;
  room = room;
}

-- the cell that what it keeps stands for
abbrev pub kept_cell : Kept → CellState
kept_cell kept = cell_of kept.address kept.starting kept.bytes.items kept.share.parcel kept.entries.items kept.room

-- what always holds of a wallet's cell holds of what it keeps, and the list of movements has its room reserved
pub record IsKept (kept : Kept) : Type 0 where
  pub cell : IsWalletCell (kept_cell kept)
  pub reserved : kept.room ≤ vec_capacity kept.entries
