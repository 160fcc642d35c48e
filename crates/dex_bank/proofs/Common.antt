-- The names that many proofs of this crate and of those above it cite, passed on from one place. Declares nothing.
pub use Rattle.dex_accounts.specs.Accepted.{IsAccepted}
pub use Rattle.dex_accounts.specs.Decoded.{AreSound}
pub use Rattle.dex_act.specs.Wallets.{is_among, made_of, wallet_state_of}
pub use Rattle.dex_bank.specs.Cells.{AreCells, CanAct, CellsState, IsReply, OthersStay, is_market, market_state_of, opened_of, world_of}
pub use Rattle.dex_bank.specs.CellsInside.{cells_inside}
pub use Rattle.dex_bank.specs.Closed.{account_in, market_journal_in, wallet_journal_in}
pub use Rattle.dex_bank.specs.Opened.{market_opened, rows_naming, rows_on, wallet_opened}
pub use Rattle.dex_bank.specs.Stepping.{IsFirstAt}
pub use Rattle.dex_cell.specs.CellState.{IsMarketCell, MarketCellState}
pub use Rattle.dex_state.specs.Addresses.{address_of}
pub use Rattle.dex_state.specs.Accepted.{AreAccepted}
pub use Rattle.dex_script_types.specs.Facts.{IsStart}
pub use Rattle.dex_token.specs.TokenAccount.{IsWallet}
pub use Rattle.dex_wallet.specs.CellState.{CellState, IsWalletCell}
pub use Rattle.dex_bank.specs.Places.{ArePlacedIn, StandsAt}
pub use Rattle.dex_types.specs.declared.limits.Limits.{Limits}
pub use Rattle.dex_world.proofs.MappedLists.{item_at}
pub use Rattle.dex_world.specs.World.{market_at}
pub use Rattle.dex_world.specs.declared.places.RowPlaces.{RowPlaces}
pub use Rattle.std.specs.List.{All, position}
