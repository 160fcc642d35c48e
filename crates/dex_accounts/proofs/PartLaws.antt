-- What the parts of a market tell of it, and of which market parts are in which something was put.
use Rattle.std.proofs.Common.{◌≡◌, ℕ, Bool, true, false, List, [], ◌∷◌, Some, refl, sym, ap, ◌∙◌, subst, ⊎_elim}
use Rattle.std.proofs.lemmas.Bool.{cases_Bool, cond-true, cond-false, eq-eqb}
use Rattle.dex_types.specs.declared.addresses.Address.{Address}
use Rattle.dex_types.specs.declared.orders.Order.{Order}
use Rattle.dex_types.specs.declared.terms.Side.{Side}
use Rattle.dex_types.specs.declared.terms.Side.TheVariants.{Bid, Ask}
use Rattle.dex_types.specs.Accounts.{PlainAccount, PlainMarketAccounts}
use Rattle.dex_types.specs.Addresses.{is_same}
use Rattle.dex_types.specs.Market.{Market, capacity, orders}
use Rattle.dex_types.specs.QueuedEvent.{QueuedEvent}
use Rattle.dex_types.specs.Reasons.{event_room}
use Rattle.dex_types.specs.Side.{Coin, Pc, by_side}
use Rattle.dex_types.specs.Trader.{Open, Trader, Traders, put_trader, trader_at}
use Rattle.dex_market.specs.MarketAccount.{market_words, sizes_of}
use Rattle.dex_market.specs.RequestQueue.{IsRequestQueue, next_sequence}
use Rattle.dex_market.specs.StandsFor.{StandsForMarket}
use Rattle.dex_orders.specs.OrdersAccount.{IsOpen, account_of}
use Rattle.dex_orders.specs.StandsFor.{StandForTraders, StandsForTrader, trader_of, traders_of}
use Rattle.dex_ring.specs.Ring.{IsEventQueue, Ring, events_of, ring_of, room_of}
use Rattle.dex_ring.specs.StandsFor.{ring_of_market}
use Rattle.dex_slab.specs.StandsFor.{IsSideAccount}
use Rattle.dex_token.specs.StandsFor.{StandsForVault}
use Rattle.dex_accounts.specs.Owners.{bytes_at, changed_at}
use Rattle.dex_accounts.specs.Parts.{AreOf, HasOpen, MarketParts, parts_of, side_orders, side_room, with_account, with_amounts, with_side}
use Rattle.dex_accounts.specs.StandsFor.{StandsFor}
use Rattle.dex_accounts.proofs.OwnerLaws.{All-bytes_at, All-changed_at, traders_of-changed_at}

-- ---- one owner's account

-- open bytes stand for an open trader
pub trader_of-open : (bytes : List ℕ) → IsOpen bytes → trader_of bytes ≡ Open (account_of bytes)
trader_of-open bytes accepted = cond-true _ _ _ (eq-eqb _ _ accepted.flags)

-- the trader of an address is that of its account's bytes
pub trader_at-bytes_at : (address : Address) (accounts : List PlainAccount) (bytes : List ℕ) → bytes_at address accounts ≡ Some bytes
    → trader_at address (traders_of accounts) ≡ Some (trader_of bytes)
trader_at-bytes_at address [] bytes found = absurd (cc)
trader_at-bytes_at address (first ∷ others) bytes found =
    ⊎_elim
    (λ (same : is_same address first.address ≡ true).
    let at : bytes_at address (first ∷ others) ≡ Some first.bytes = cond-true _ _ _ same in
    let is : Some first.bytes ≡ Some bytes = sym at ∙ found in
    let e : first.bytes ≡ bytes = cc in
    let here : trader_at address (traders_of (first ∷ others)) ≡ Some (trader_of first.bytes) = cond-true _ _ _ same in
    here ∙ ap (λ (b : List ℕ). Some (trader_of b)) e)
    (λ (apart : is_same address first.address ≡ false).
    let past : bytes_at address (first ∷ others) ≡ bytes_at address others = cond-false _ _ _ apart in
    let there : trader_at address (traders_of (first ∷ others)) ≡ trader_at address (traders_of others) = cond-false _ _ _ apart in
    there ∙ trader_at-bytes_at address others bytes (sym past ∙ found))
    (cases_Bool (is_same address first.address))

-- where one owner's account is replaced by one that stands for a trader, the accounts stand for the traders with that
-- one
pub StandForTraders-changed_at : (owner : Address) (change : List ℕ → List ℕ) (trader : Trader) (accounts : List PlainAccount) (market : Address) (traders : Traders) (old : List ℕ)
    → StandForTraders accounts market traders → bytes_at owner accounts ≡ Some old → StandsForTrader (change old) market trader
    → StandForTraders (changed_at owner change accounts) market (put_trader owner trader traders)
StandForTraders-changed_at owner change trader accounts market traders old stand found stands =
    let OnMarket : List ℕ → Type 0 = λ bytes. StandsForTrader bytes market (trader_of bytes) in
    record {
      each =
          All-changed_at OnMarket owner change accounts stand.each (λ bytes at.
          let is : Some old ≡ Some bytes = sym found ∙ at in
          let e : old ≡ bytes = cc in
          let here : OnMarket (change old) = record { accepted = stands.accepted; stands = refl; on_market = stands.on_market } in
          subst (λ (b : List ℕ). OnMarket (change b)) e here);
      stand =
          traders_of-changed_at owner change accounts old found
          ∙ ap (λ (t : Trader). put_trader owner t (traders_of accounts)) stands.stands
          ∙ ap (put_trader owner trader) stand.stand;
    }

-- ---- what the parts of a market tell of it

module _ (parts : MarketParts) (m : Market) (are : AreOf parts m) where
  pub sizes_in-parts : sizes_of (market_words parts.market) ≡ m.listing.sizes
  sizes_in-parts = ap sizes_of are.market.words

  pub ring_in-parts : ring_of parts.events ≡ ring_of_market m
  ring_in-parts = are.events.ring

  pub events_in-parts : events_of parts.events ≡ m.events
  events_in-parts = ap (λ (r : Ring). r.events) are.events.ring

  pub event_room-parts : room_of (ring_of parts.events) ≡ event_room m
  event_room-parts = ap room_of are.events.ring

  pub side_orders-parts : (side : Side) → side_orders side parts ≡ orders side m
  side_orders-parts Bid = are.bids
  side_orders-parts Ask = are.asks

  pub side_room-parts : (side : Side) → side_room side parts ≡ capacity side m
  side_room-parts Bid = are.bid_room
  side_room-parts Ask = are.ask_room

  pub traders_in-parts : traders_of parts.accounts ≡ m.traders
  traders_in-parts = are.traders.stand

  -- the owner of an account that is open
  module _ (owner : Address) (bytes : List ℕ) (has : HasOpen owner bytes parts) where
    pub trader_at-open : trader_at owner m.traders ≡ Some (Open (account_of bytes))
    trader_at-open =
        ap (trader_at owner) (sym are.traders.stand)
        ∙ trader_at-bytes_at owner parts.accounts bytes has.found
        ∙ ap (λ (t : Trader). Some t) (trader_of-open bytes has.accepted)

    pub StandsForTrader-open : StandsForTrader bytes m.listing.address (Open (account_of bytes))
    StandsForTrader-open =
        let OnMarket : List ℕ → Type 0 = λ b. StandsForTrader b m.listing.address (trader_of b) in
        let here : OnMarket bytes = All-bytes_at OnMarket owner parts.accounts bytes are.traders.each has.found in
        record { accepted = here.accepted; stands = trader_of-open bytes has.accepted; on_market = here.on_market }

  -- ---- parts in which something was put

  pub AreOf-market : (bytes : List ℕ) (coin_vault pc_vault coin_fees pc_fees referrer_rebates : ℕ) (is_disabled : Bool)
      → StandsForMarket bytes (with_amounts coin_vault pc_vault coin_fees pc_fees referrer_rebates is_disabled m)
      → AreOf (record parts { market = bytes }) (with_amounts coin_vault pc_vault coin_fees pc_fees referrer_rebates is_disabled m)
  AreOf-market bytes coin_vault pc_vault coin_fees pc_fees referrer_rebates is_disabled stands = record {
    market = stands;
    requests = record { accepted = are.requests.accepted; next = are.requests.next };
    events = record { accepted = are.events.accepted; ring = are.events.ring };
    bids = are.bids;
    bid_room = are.bid_room;
    asks = are.asks;
    ask_room = are.ask_room;
    traders = are.traders;
  }

  pub AreOf-requests : (bytes : List ℕ) (next : ℕ) → IsRequestQueue bytes → next_sequence bytes ≡ next
      → AreOf (record parts { requests = bytes }) (record m { next_sequence = next })
  AreOf-requests bytes next accepted is = record {
    market = record { accepted = are.market.accepted; words = are.market.words };
    requests = record { accepted = accepted; next = is };
    events = record { accepted = are.events.accepted; ring = are.events.ring };
    bids = are.bids;
    bid_room = are.bid_room;
    asks = are.asks;
    ask_room = are.ask_room;
    traders = are.traders;
  }

  pub AreOf-events : (bytes : List ℕ) (events : List QueuedEvent) (appended : ℕ) → IsEventQueue bytes
      → ring_of bytes ≡ record (ring_of_market m) { events = events; seq_num = appended }
      → AreOf (record parts { events = bytes }) (record m { events = events; events_appended = appended })
  AreOf-events bytes events appended accepted ring = record {
    market = record { accepted = are.market.accepted; words = are.market.words };
    requests = record { accepted = are.requests.accepted; next = are.requests.next };
    events = record { accepted = accepted; ring = ring };
    bids = are.bids;
    bid_room = are.bid_room;
    asks = are.asks;
    ask_room = are.ask_room;
    traders = are.traders;
  }

  pub AreOf-side : (side : Side) (resting : List Order)
      → AreOf (with_side side resting parts) (record m { bids = by_side side resting m.bids; asks = by_side side m.asks resting })
  AreOf-side side resting = record {
    market = record { accepted = are.market.accepted; words = are.market.words };
    requests = record { accepted = are.requests.accepted; next = are.requests.next };
    events = record { accepted = are.events.accepted; ring = are.events.ring };
    bids = ap (by_side side resting) are.bids;
    bid_room = are.bid_room;
    asks = ap (λ (l : List Order). by_side side l resting) are.asks;
    ask_room = are.ask_room;
    traders = are.traders;
  }

  pub AreOf-accounts : (accounts : List PlainAccount) (traders : Traders) → StandForTraders accounts m.listing.address traders
      → AreOf (record parts { accounts = accounts }) (record m { traders = traders })
  AreOf-accounts accounts traders stand = record {
    market = record { accepted = are.market.accepted; words = are.market.words };
    requests = record { accepted = are.requests.accepted; next = are.requests.next };
    events = record { accepted = are.events.accepted; ring = are.events.ring };
    bids = are.bids;
    bid_room = are.bid_room;
    asks = are.asks;
    ask_room = are.ask_room;
    traders = stand;
  }

  pub AreOf-account : (owner : Address) (old bytes : List ℕ) (trader : Trader) → bytes_at owner parts.accounts ≡ Some old → StandsForTrader bytes m.listing.address trader
      → AreOf (with_account owner bytes parts) (record m { traders = put_trader owner trader m.traders })
  AreOf-account owner old bytes trader found stands =
      AreOf-accounts (changed_at owner (λ was. bytes) parts.accounts) (put_trader owner trader m.traders)
      (StandForTraders-changed_at owner (λ was. bytes) trader parts.accounts m.listing.address m.traders old are.traders found stands)

-- ---- and back again

-- accounts whose parts are a market's, with its addresses, its vaults and accepted sides, stand for it
pub StandsFor-parts : (accounts : PlainMarketAccounts) (m : Market) → AreOf (parts_of accounts) m
    → accounts.address ≡ m.listing.address → accounts.authority ≡ m.listing.authority
    → StandsForVault accounts.coin_vault Coin m → StandsForVault accounts.pc_vault Pc m
    → IsSideAccount Bid accounts.bids → IsSideAccount Ask accounts.asks → StandsFor accounts m
StandsFor-parts accounts m are address authority coin_vault pc_vault bids asks = record {
  address = address;
  authority = authority;
  terms = are.market;
  coin_vault = coin_vault;
  pc_vault = pc_vault;
  requests = are.requests;
  events = are.events;
  bids = record { accepted = bids; orders = are.bids; room = are.bid_room };
  asks = record { accepted = asks; orders = are.asks; room = are.ask_room };
  traders = are.traders;
}
