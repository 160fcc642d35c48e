-- The turns of two markets when both are taken.
use Rattle.std.specs.Prelude.{ℕ, ◌≤◌, List}
use Rattle.dex_journals.specs.Journals.{market_calls}
use Rattle.dex_turns.specs.declared.two_turns.TwoTurns.{TwoTurns}
use Rattle.dex_turns.specs.Bank.{MarketGate}
use Rattle.dex_turns.specs.Seats.{MarketPass}
use Rattle.dex_turns.specs.Turns.{AreOutAt, IsAwayFor}

-- the turns of the markets at two places are out, and no stamp of theirs, nor this one, is above the one that is given
pub record HaveTaken (one two : MarketGate) (place next : ℕ)
    (before after : List MarketPass) (last : ℕ) (turns : TwoTurns) : Type 0 where
  pub out : AreOutAt one two place next before after turns.markets.first turns.markets.second
  pub away : IsAwayFor one place before (market_calls turns.markets.first) turns.first
  pub away_next : IsAwayFor two next before (market_calls turns.markets.second) turns.second
  pub market : turns.markets.first.last ≤ turns.stamp.number
  pub market_next : turns.markets.second.last ≤ turns.stamp.number
  pub stamp : last ≤ turns.stamp.number
