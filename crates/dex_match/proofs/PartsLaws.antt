-- what is given of a market is read as the market is
use Rattle.std.proofs.Common.{subst, refl, ◌≡◌, ℕ, ◌+◌, ◌≤◌, List, Option, Some, sym, ap, ◌∙◌, arith}
use Rattle.dex_types.specs.declared.addresses.Address.{Address}
use Rattle.dex_types.specs.declared.orders.Order.{Order}
use Rattle.dex_types.specs.declared.rows.Seen.{Seen}
use Rattle.dex_types.specs.declared.rows.WalletSeen.{WalletSeen}
use Rattle.dex_types.specs.declared.terms.Side.{Side}
use Rattle.dex_types.specs.declared.terms.Side.TheVariants.{Bid, Ask}
use Rattle.dex_types.specs.Market.{Market, capacity, orders}
use Rattle.dex_types.specs.NewOrder.{NewOrder, Ordering, after_order, order_on}
use Rattle.dex_types.specs.Reasons.{balance_of, event_room}
use Rattle.dex_types.specs.Side.{Token, Coin, Pc, opposite}
use Rattle.dex_types.specs.Solvency.{vault, all_leaving}
use Rattle.dex_types.specs.Soundness.{IsSound}
use Rattle.dex_types.specs.Trader.{Account}
use Rattle.dex_types.specs.Why.{OrderReading, order_reading, payer, why_ordering}
use Rattle.dex_market.specs.MarketAccount.{MarketWords}
use Rattle.dex_market.specs.RequestQueue.{next_sequence}
use Rattle.dex_market.specs.StandsFor.{words_of}
use Rattle.dex_orders.specs.OrdersAccount.{account_of}
use Rattle.dex_ring.specs.Ring.{Ring, ring_of}
use Rattle.dex_ring.specs.StandsFor.{ring_of_market}
use Rattle.dex_match.specs.OrderParts.{IsGiven, OrderGiven, OrderParts, given_by, order_given, parts_of}
use Rattle.dex_accounts.specs.Parts.{AreOf, HasOpen, MarketParts}
use Rattle.dex_accounts.proofs.PartLaws.{StandsForTrader-open, side_orders-parts, side_room-parts, trader_at-open}
use Rattle.dex_market.specs.StandsFor.{StandsForMarket, StandsForRequests}
use Rattle.dex_orders.specs.OrdersAccount.{IsOpen}
use Rattle.dex_orders.specs.StandsFor.{StandsForTrader}
use Rattle.dex_ring.specs.StandsFor.{StandsForEvents}
use Rattle.dex_types.specs.Trader.{Open, trader_at}
use Rattle.dex_match.specs.Ordering.{order_reason, ordering_in, reading_in, vault_after}

-- what is handed is of this market, for an order of this side and owner
pub record GivenOf (side : Side) (owner : Address) (given : OrderGiven) (m : Market) : Type 0 where
  pub market : StandsForMarket given.market m
  pub requests : StandsForRequests given.requests m
  pub events : StandsForEvents given.events m
  pub account : StandsForTrader given.account m.listing.address (Open (account_of given.account))
  pub known : trader_at owner m.traders ≡ Some (Open (account_of given.account))
  pub opened : IsOpen given.account
  pub own : orders side m ≡ given.own
  pub own_room : capacity side m ≡ given.own_room
  pub opposing : orders (opposite side) m ≡ given.opposing

-- of a sound one
pub record SoundGiven (side : Side) (owner : Address) (given : OrderGiven) : Type 0 where
  pub market : Market
  pub sound : IsSound market
  pub parts : GivenOf side owner given market

pub given-of : (side : Side) (owner : Address) (bytes : List ℕ) (parts : MarketParts) (m : Market) → AreOf parts m → HasOpen owner bytes parts
    → GivenOf side owner (order_given side bytes parts) m
given-of side owner bytes parts m are has = record {
  market = are.market;
  requests = are.requests;
  events = are.events;
  account = StandsForTrader-open parts m are owner bytes has;
  known = trader_at-open parts m are owner bytes has;
  opened = has.accepted;
  own = sym (side_orders-parts parts m are side);
  own_room = sym (side_room-parts parts m are side);
  opposing = sym (side_orders-parts parts m are (opposite side));
}

pub sound-given : (side : Side) (owner : Address) (given : OrderGiven) → IsGiven side owner given → SoundGiven side owner given
sound-given side owner given is = record {
  market = is.sound.market;
  sound = is.sound.sound;
  parts = subst (λ (g : OrderGiven). GivenOf side owner g is.sound.market) is.is (given-of side owner given.account is.whole is.sound.market is.sound.are is.has);
}

-- two that are the same part by part
pub same-given : (market market' requests requests' events events' account account' : List ℕ) (own own' : List Order) (room room' : ℕ) (opposing opposing' : List Order)
    → market ≡ market' → requests ≡ requests' → events ≡ events' → account ≡ account' → own ≡ own' → room ≡ room' → opposing ≡ opposing'
    → given_by market requests events account own room opposing ≡ given_by market' requests' events' account' own' room' opposing'
same-given market market' requests requests' events events' account account' own own' room room' opposing opposing' a b c d e f g = rw (a, b, c, d, e, f, g) refl

abbrev pub parts_by : MarketWords → ℕ → Ring → Account → List Order → ℕ → List Order → OrderParts
parts_by words next ring account own room opposing =
    record { words = words; next_sequence = next; ring = ring; account = account; own = own; own_room = room; opposing = opposing }

-- what a new order of the account reads of a market
abbrev pub parts_in : Side → Market → Account → OrderParts
parts_in side m account =
    parts_by (words_of m) m.next_sequence (ring_of_market m) account (orders side m) (capacity side m) (orders (opposite side) m)

pub parts-are : (side : Side) (owner : Address) (given : OrderGiven) (m : Market) → GivenOf side owner given m
    → parts_of given ≡ parts_in side m (account_of given.account)
parts-are side owner given m are =
    let account = account_of given.account in
    ap (λ (w : MarketWords). parts_by w (next_sequence given.requests) (ring_of given.events) account given.own given.own_room given.opposing) are.market.words
    ∙ ap (λ s. parts_by (words_of m) s (ring_of given.events) account given.own given.own_room given.opposing) are.requests.next
    ∙ ap (λ (r : Ring). parts_by (words_of m) m.next_sequence r account given.own given.own_room given.opposing) are.events.ring
    ∙ ap (λ o. parts_by (words_of m) m.next_sequence (ring_of_market m) account o given.own_room given.opposing) (sym are.own)
    ∙ ap (λ r. parts_by (words_of m) m.next_sequence (ring_of_market m) account (orders side m) r given.opposing) (sym are.own_room)
    ∙ ap (λ o. parts_by (words_of m) m.next_sequence (ring_of_market m) account (orders side m) (capacity side m) o) (sym are.opposing)

-- what is decided over what is given is what is decided on the market
pub ordering-is : (side : Side) (n : NewOrder) (given : OrderGiven) (m : Market) → GivenOf side n.owner given m
    → ordering_in side n (parts_of given) ≡ order_on side m (account_of given.account) n
ordering-is side n given m are = ap (ordering_in side n) (parts-are side n.owner given m are)

-- a vault is what the words say, where it covers fees and rebates
vault-is : (token : Token) (side : Side) (m : Market) (account : Account) (n : NewOrder) (o : Ordering) → m.coin_fees ≤ m.coin_vault → m.pc_fees + m.referrer_rebates ≤ m.pc_vault
    → vault_after token side (parts_in side m account) o ≡ vault token (after_order side account n o m)
vault-is Coin Bid m account n o coin pc = omega arith
vault-is Coin Ask m account n o coin pc = omega arith
vault-is Pc Bid m account n o coin pc = omega arith
vault-is Pc Ask m account n o coin pc = omega arith

-- what the reasons read of the parts is what they read of the market
reading-is : (side : Side) (n : NewOrder) (m : Market) (account : Account) (balance : ℕ) (seen : Seen) (wallet : WalletSeen) → m.coin_fees ≤ m.coin_vault
    → m.pc_fees + m.referrer_rebates ≤ m.pc_vault → payer side seen ≡ Some wallet → wallet.balance ≡ balance
    → reading_in side n (parts_in side m account) balance ≡ order_reading side n seen m account
reading-is side n m account balance seen wallet coin pc pays has =
    let o : Ordering = order_on side m account n in
    let after : Market = after_order side account n o m in
    let reading : Option ℕ → ℕ → ℕ → OrderReading = λ balance coin_vault pc_vault. record {
      sizes = m.listing.sizes;
      next_sequence = m.next_sequence;
      account = account;
      ordering = o;
      limits = record {
        room = event_room m;
        balance = balance;
        coin = record { vault = coin_vault; leaving = all_leaving Coin after.events };
        pc = record { vault = pc_vault; leaving = all_leaving Pc after.events };
      };
    } in
    let first : ℕ = vault_after Coin side (parts_in side m account) o in
    let second : ℕ = vault_after Pc side (parts_in side m account) o in
    ap (λ b. reading b first second) (ap Some (sym has) ∙ ap balance_of (sym pays))
    ∙ ap (λ v. reading (balance_of (payer side seen)) v second) (vault-is Coin side m account n o coin pc)
    ∙ ap (λ v. reading (balance_of (payer side seen)) (vault Coin after) v) (vault-is Pc side m account n o coin pc)

-- why an order is refused over what is given is why the market refuses it
pub reason-is : (side : Side) (n : NewOrder) (given : OrderGiven) (m : Market) (balance : ℕ) (seen : Seen) (wallet : WalletSeen) → IsSound m → GivenOf side n.owner given m
    → payer side seen ≡ Some wallet → wallet.balance ≡ balance
    → order_reason side n (parts_of given) balance ≡ why_ordering side n (order_reading side n seen m (account_of given.account))
reason-is side n given m balance seen wallet sound are pays has =
    let coin : m.coin_fees ≤ m.coin_vault = omega (arith, sound.funds.solvent.vaults Coin) in
    let pc : m.pc_fees + m.referrer_rebates ≤ m.pc_vault = omega (arith, sound.funds.solvent.vaults Pc) in
    ap (λ (p : OrderParts). order_reason side n p balance) (parts-are side n.owner given m are)
    ∙ ap (why_ordering side n) (reading-is side n m (account_of given.account) balance seen wallet coin pc pays has)
