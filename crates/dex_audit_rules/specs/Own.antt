-- Of which market a book is, with accounts, orders and events by their owners.
use Rattle.std.specs.Prelude.{◌≡◌}
use Rattle.dex_types.specs.Market.{Market}
use Rattle.dex_totals.specs.Owned.{AreOwnEvents, AreOwnOrders}
use Rattle.dex_audit_rules.specs.declared.own.Own.{Own}
use Rattle.dex_audit_rules.specs.Books.{IsOf}

-- they are those of this market
pub record IsOwnOf (own : Own) (m : Market) : Type 0 where
  pub of : IsOf own.book m
  pub traders : own.owners ≡ m.traders
  pub bids : AreOwnOrders own.bids m.bids
  pub asks : AreOwnOrders own.asks m.asks
  pub events : AreOwnEvents own.events m.events
