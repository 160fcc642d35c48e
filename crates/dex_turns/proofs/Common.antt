-- The names that many proofs of this crate and of those above it cite, passed on from one place. Declares nothing.
pub use Rattle.dex_accounts.specs.Decoded.{market_in}
pub use Rattle.dex_act.specs.Wallets.{made_of, wallet_state_of}
pub use Rattle.dex_cell.specs.CellState.{MarketCellState}
pub use Rattle.dex_world.proofs.MappedLists.{All-unmap, filter-swap}
pub use Rattle.dex_world.specs.Lists.{AllThree}
pub use Rattle.dex_world.specs.RowsOf.{rows_of_market, rows_of_wallet}
pub use Rattle.dex_gate.specs.AwayView.{AwayView}
pub use Rattle.dex_gate.specs.GateView.{GateView}
pub use Rattle.dex_gate.specs.History.{AddsOne, Extends, added, of_lane}
pub use Rattle.dex_gate.specs.PassView.{PassView}
pub use Rattle.dex_gate.specs.TurnView.{TurnView}
pub use Rattle.dex_gate.specs.declared.stage.Stage.TheVariants.{Idle}
pub use Rattle.dex_journals.proofs.StampedLists.{items_of-stamped}
pub use Rattle.dex_journals.specs.Journals.{BankMarketState, BankWalletState, IsBankWallet, MarketOrigin, TrailState, WalletOrigin, entries_by, left_by, market_calls, wallet_entries}
pub use Rattle.dex_journals.specs.Lanes.{AreAllOrNone, IsAsOthers, IsLane, MovesEach, number_in}
pub use Rattle.dex_journals.specs.StampedCalls.{calls_on, entries_in, entries_on, entry_made}
pub use Rattle.dex_script_types.specs.PlainScript.{PlainScript}
pub use Rattle.dex_script_types.specs.Facts.{IsRowOf, IsScript}
pub use Rattle.dex_script_types.specs.Places.{IsPlace, market_addresses, wallet_addresses}
pub use Rattle.dex_script_types.specs.Sight.{IsSight, IsWalletSeen}
pub use Rattle.dex_turns.specs.Outline.{terms_of, world_with}
pub use Rattle.dex_stamps.specs.Stamped.{Stamped, stamped}
pub use Rattle.dex_token.proofs.AmountWrites.{wallet_words-with_amount}
pub use Rattle.dex_token.specs.TokenAccount.{WalletWords, wallet_words}
pub use Rattle.dex_turns.specs.Bank.{BankState, IsBank, IsMarketGate, IsWalletGate}
pub use Rattle.dex_turns.specs.Inside.{call_made}
pub use Rattle.dex_turns.specs.Seats.{IsMarketPass, IsPass, IsSeat, IsSeatOf, IsWalletPass, SeatState}
pub use Rattle.dex_turns.specs.Submitted.{AreNext, HasCalled, HasSubmitted, HaveSubmitted, IsNext, Where}
pub use Rattle.dex_turns.specs.Turns.{AreInHand, AreReady, HasCall, HasEntry, HasLeft, HaveGrown, IsReady, MayDraw, MayEnter, MayLeave, OneGrows}
pub use Rattle.dex_wallet.specs.CellState.{CellState, IsWalletCell, balance_of}
