-- What a meeting with a side of the book comes to, before anything is changed.
use Rattle.std.specs.Prelude.{ℕ, ◌≡◌, ◌+◌, ◌*◌, ◌^◌, ◌<◌, length}
use Rattle.dex_fills.specs.declared.met.Met.{Met}
use Rattle.dex_fills.specs.declared.side_walk.Prospect.{Prospect}
use Rattle.dex_fills.specs.Taker.{demand}
use Rattle.dex_types.specs.declared.terms.Lots.{Lots}
use Rattle.dex_types.specs.declared.terms.Side.{Side}
use Rattle.dex_types.specs.declared.terms.Side.TheVariants.{Bid}
use Rattle.dex_types.specs.Meeting.{Meeting}
use Rattle.dex_types.specs.Posting.{still_crosses}

-- the sums of a meeting fit 64 bits: its lots, their native base, the native quote, and the rebates, which asks that
-- are met get on top of the quote
pub record FitsSums (side : Side) (sizes : Lots) (met : Meeting) : Type 0 where
  pub lots : met.lots < 2 ^ 64
  pub base : met.lots * sizes.coin < 2 ^ 64
  pub pc : met.pc < 2 ^ 64
  pub rebates : met.rebates < 2 ^ 64
  pub received : side ≡ Bid → met.pc + met.rebates < 2 ^ 64

-- what the taker still wants and the sums of its fills are the meeting's
pub record IsMet (meeting : Meeting) (met : Met) : Type 0 where
  pub demand : demand met.want ≡ meeting.demand
  pub lots : met.sums.lots ≡ meeting.lots
  pub pc : met.sums.pc ≡ meeting.pc
  pub rebates : met.sums.rebates ≡ meeting.rebates

-- what was foreseen of a meeting: what it leaves of the taker, how many events it has, whether the best order left
-- still crosses the limit price, and the own order at which the taker has to abort
pub record IsForeseen (side : Side) (limit : ℕ) (meeting : Meeting) (prospect : Prospect) : Type 0 where
  pub met : IsMet meeting prospect.met
  pub events : prospect.events ≡ length meeting.events
  pub crosses : prospect.crosses ≡ still_crosses side limit meeting.left
  pub aborts : prospect.aborts ≡ meeting.aborts
