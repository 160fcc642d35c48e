-- The names that many proofs of this crate and of those above it cite, passed on from one place. Declares nothing.
pub use Rattle.dex_accounts.specs.Accepted.{IsAccepted}
pub use Rattle.dex_accounts.specs.Decoded.{AreSound, market_in}
pub use Rattle.dex_accounts.specs.StandsFor.{StandsFor}
pub use Rattle.dex_act.specs.Wallets.{is_among, roles_of, wallet_state_of}
pub use Rattle.dex_bank.specs.Cells.{AreCells, CanAct, CellsState, is_market, market_state_of, opened_of, world_of}
pub use Rattle.dex_bank.specs.Closed.{account_in, closed, market_journal_in, wallet_journal_in}
pub use Rattle.dex_bank.specs.Opened.{market_opened, opened, rows_naming, rows_on, wallet_opened}
pub use Rattle.dex_cell.specs.CellState.{AreOfOneMarket, IsMarketCell, MarketCellState, entries_of}
pub use Rattle.dex_state.specs.Addresses.{address_of, addresses_of, all_of_market, times}
pub use Rattle.dex_state.specs.Accepted.{AreAccepted}
pub use Rattle.dex_market.specs.MarketAccount.{market_words}
pub use Rattle.dex_replay.specs.Lawful.{AllThree, IsAllOrNone, IsLawful, IsLawfulMarket, IsLawfulWallet, IsSight, IsWalletSeen, Origin, is_answered, origin_of_entry, origin_of_row, rows_of_market, rows_of_wallet, was_held}
pub use Rattle.dex_replay.specs.Replays.{IsLeftBy, IsReplayOf, market_state, start_world, wallet_state, with_amounts, world_after}
pub use Rattle.dex_replay.specs.Runs.{IsOneOrder, IsRunOf, KeepsLanes}
pub use Rattle.dex_state.specs.Outcomes.{PlainMarketJournal, PlainOutcome, PlainWalletJournal, outcome_of}
pub use Rattle.dex_script_types.specs.PlainScript.{PlainScript}
pub use Rattle.dex_script_types.specs.Facts.{AreLegs, AreRows, HasNoSwap, HasNoThree, IsLeg, IsRowOf, IsScript, IsStart, lanes_of}
pub use Rattle.dex_script_types.specs.Firsts.{first_of}
pub use Rattle.dex_script_types.specs.Known.{has_account, has_market, is_known_role}
pub use Rattle.dex_history.specs.Journal.{front}
pub use Rattle.dex_token.proofs.AmountWrites.{wallet_words-with_amount}
pub use Rattle.dex_token.specs.TokenAccount.{IsWallet, WalletWords, wallet_words, with_amount}
pub use Rattle.dex_wallet.specs.CellState.{CellState, IsWalletCell, balance_of}
pub use Rattle.dex_world.specs.Items.{Item, held_in, items_of}
pub use Rattle.dex_world.specs.World.{market_at}
pub use Rattle.dex_world.specs.declared.places.RowPlaces.{RowPlaces}
pub use Rattle.std.specs.List.{All, Any, count_by}
