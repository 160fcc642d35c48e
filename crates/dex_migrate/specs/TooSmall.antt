-- What of a market would not fit.
use Rattle.std.specs.Prelude.{ℕ, ◌≤◌, List, [], ◌∷◌, Option, None, Some, length, nat_lt, if◌then◌else◌}
use Rattle.std.specs.Option.{option_or}
use Rattle.dex_migrate.specs.declared.faults.MigrateFault.{MigrateFault}
use Rattle.dex_migrate.specs.declared.faults.MigrateWhat.{MigrateWhat}
use Rattle.dex_migrate.specs.declared.faults.MigrateWhat.TheVariants.{Bids, Asks, Events}
use Rattle.dex_ring.specs.Ring.{events_of}
use Rattle.dex_slab.specs.Nodes.{room_of}
use Rattle.dex_slab.specs.Slab.{resting}
use Rattle.dex_types.specs.declared.addresses.Address.{Address}
use Rattle.dex_types.specs.declared.terms.Side.TheVariants.{Bid, Ask}
use Rattle.dex_types.specs.Accounts.{PlainMarketAccounts}

-- so many are more than so many fit
abbrev pub more_than : Address → MigrateWhat → ℕ → ℕ → Option MigrateFault
more_than market what needed given =
    if nat_lt given needed then Some (record { market = market; what = what; needed = needed; given = given }) else None

-- what of a market would not fit: its bids before its asks before its events
abbrev pub market_fault : ℕ → ℕ → PlainMarketAccounts → Option MigrateFault
market_fault nodes events market =
    option_or (option_or
    (more_than market.address Bids (length (resting Bid market.bids)) (room_of nodes))
    (more_than market.address Asks (length (resting Ask market.asks)) (room_of nodes)))
    (more_than market.address Events (length (events_of market.events)) events)

-- the first market of which something would not fit
abbrev pub first_fault : ℕ → ℕ → List PlainMarketAccounts → Option MigrateFault
first_fault nodes events [] = None
first_fault nodes events (market ∷ others) = option_or (market_fault nodes events market) (first_fault nodes events others)

-- all of a market fits
pub record Fits (nodes events : ℕ) (market : PlainMarketAccounts) : Type 0 where
  pub bids : length (resting Bid market.bids) ≤ room_of nodes
  pub asks : length (resting Ask market.asks) ≤ room_of nodes
  pub pending : length (events_of market.events) ≤ events
