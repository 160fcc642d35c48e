-- The names that many proofs of this crate and of those above it cite, passed on from one place. Declares nothing.
pub use Rattle.dex_gate.specs.GateView.{GateView}
pub use Rattle.dex_gate.specs.History.{added}
pub use Rattle.dex_gate.specs.PassView.{PassView, next_pass}
pub use Rattle.dex_gate.specs.declared.stage.Stage.TheVariants.{Idle}
pub use Rattle.dex_run.specs.Closing.{AreMarketsClosed, AreWalletsClosed, IsMarketClosed, IsMarketPassAt, IsWalletClosed, IsWalletPassAt, MarketColumns, WalletColumns}
pub use Rattle.dex_run.specs.Columns.{AreLonger, CanClose, IsClosed, IsLonger}
pub use Rattle.dex_run.specs.Opened.{first_passes, fresh_pass, passes_of, seat_in, split_once}
pub use Rattle.dex_run.specs.LaneItems.{Begins, IsAlone, IsIndex, IsItemOf, IsRest, IsRestAt, IsSwapAt, rows_before}
pub use Rattle.dex_run.specs.Running.{AreRowsOf, CanRun, HasRun, IsJobOf}
pub use Rattle.dex_run.specs.declared.lane.LaneJob.{LaneJob}
pub use Rattle.dex_run.specs.declared.lane.Lanes.{Lanes}
pub use Rattle.dex_turns.specs.Bank.{BankState, IsBank, IsMarketGate, IsWalletGate}
pub use Rattle.dex_turns.specs.Seats.{IsDone, IsMarketPass, IsPass, IsSeat, IsSeatOf, IsWalletPass, SeatState}
pub use Rattle.dex_turns.specs.Submitted.{AreNext, IsNext}
