-- a new order leaves vaults, accounts and referrer parts that add up
use Rattle.std.proofs.Common.{ℕ, ◌+◌, ◌*◌, ◌^◌, ◌≤◌, ◌<◌, ◌≡◌, List, ◌++◌, Some, refl, ap, subst, arith}
use Rattle.std.proofs.Math.Nat.{min-le_left}
use Rattle.std.proofs.lemmas.Bool.{cond-true, cond-false}
use Rattle.dex_types.specs.declared.addresses.Address.{Address}
use Rattle.dex_types.specs.declared.terms.Lots.{Lots}
use Rattle.dex_types.specs.declared.terms.Side.{Side}
use Rattle.dex_types.specs.declared.terms.Side.TheVariants.{Bid, Ask}
use Rattle.dex_types.specs.Addresses.{is_same}
use Rattle.dex_types.specs.Market.{Market, orders, capacity}
use Rattle.dex_types.specs.NewOrder.{NewOrder, Ordering, order_on, after_order, account_after, terms_of, demand_of, taker_events, last_events, fee_of}
use Rattle.dex_types.specs.Owed.{owed, kept, referred, order_lock, is_order_of, is_event_of}
use Rattle.dex_types.specs.QueuedEvent.{QueuedEvent}
use Rattle.dex_types.specs.Side.{Token, Coin, Pc, opposite, lock}
use Rattle.dex_types.specs.Solvency.{IsSolvent, IsBounded, AddsUp, vault, all_free, all_referrers, all_locked, all_owed, earned, own_locked, own_kept}
use Rattle.dex_types.specs.Soundness.{FundsAgree}
use Rattle.dex_types.specs.Totals.{total, weighed_where}
use Rattle.dex_types.specs.Trader.{Account, Open, balance, trader_at}
use Rattle.dex_laws.proofs.IdLaws.{price_of-id_of}
use Rattle.dex_laws.proofs.MovedLaws.{IsTestOfOrder-owner}
use Rattle.dex_laws.proofs.SpendLaws.{rested-paid, fee_of-covers}
use Rattle.dex_laws.proofs.TotalLaws.{total-append}
use Rattle.dex_laws.proofs.TraderLaws.{is_same-refl}
use Rattle.dex_sound.proofs.FillLaws.{order-balanced}
use Rattle.dex_sound.proofs.MeetSums.{balanced-owed, met-locked, met-own, met-locked_all, met-own_all, met-referred, posted-locked, posted-locked_all, last-other, last-other_all, last-owed, last-referred, taker-owed, taker-kept, taker-referred}
use Rattle.dex_sound.proofs.TraderSums.{all_free-put, all_referrers-put, AddsUp-put}

-- the market that a new order leaves
abbrev pub ordered_market : Side → Market → Account → NewOrder → Market
ordered_market side m account n = after_order side account n (order_on side m account n) m

-- the total of a weight over the events of a new order
pub total-ordered : (weight : QueuedEvent → ℕ) (side : Side) (m : Market) (account : Account) (n : NewOrder)
    → total weight (ordered_market side m account n).events
    ≡ total weight m.events + (total weight (order_on side m account n).met.events
    + (total weight (taker_events side m.listing.sizes n (order_on side m account n).met (order_on side m account n).order)
    + total weight (last_events side m.listing.sizes (order_on side m account n).order (order_on side m account n).posting.booted)))
total-ordered weight side m account n =
    let o : Ordering = order_on side m account n in
    let taker : List QueuedEvent = taker_events side m.listing.sizes n o.met o.order in
    let last : List QueuedEvent = last_events side m.listing.sizes o.order o.posting.booted in
    omega (
      arith,
      total-append weight m.events (o.met.events ++ taker ++ last),
      total-append weight (o.met.events ++ taker) last,
      total-append weight o.met.events taker,
    )

-- what rests of a new order is locked at its price
pub rested-lock : (side : Side) (m : Market) (account : Account) (n : NewOrder) → m.next_sequence < 2 ^ 64
    → order_lock side m.listing.sizes (order_on side m account n).order ≡ lock side m.listing.sizes n.price (order_on side m account n).order.lots
rested-lock side m account n small =
    ap (λ price. lock side m.listing.sizes price (order_on side m account n).order.lots) (price_of-id_of side n.price m.next_sequence small)

-- vaults hold what they have to
order-vaults : (side : Side) (m : Market) (account : Account) (n : NewOrder) → trader_at n.owner m.traders ≡ Some (Open account) → m.next_sequence < 2 ^ 64
    → ((each : Side) → 1 ≤ capacity each m) → IsSolvent m → (token : Token)
    → vault token (ordered_market side m account n)
    ≡ all_free token (ordered_market side m account n).traders + all_locked token (ordered_market side m account n)
    + all_owed token (ordered_market side m account n).events + earned token (ordered_market side m account n)
order-vaults Bid m account n found small room solvent Coin =
    let o : Ordering = order_on Bid m account n in
    let sizes : Lots = m.listing.sizes in
    omega (
      arith,
      solvent.vaults Coin,
      total-ordered (owed Coin) Bid m account n,
      all_free-put Coin n.owner (Open account) (Open (account_after Bid sizes n o account)) m.traders found,
      balanced-owed Bid sizes o.met (fee_of n o.met) Coin (order-balanced Bid sizes n m.asks Coin),
      met-locked_all Bid (terms_of sizes n) (demand_of Bid sizes n) m.asks,
      taker-owed Coin Bid sizes n o.met o.order,
      last-owed Coin Bid sizes o.order o.posting.booted,
      last-other_all Bid sizes o.order o.posting.booted,
    )
order-vaults Bid m account n found small room solvent Pc =
    let o : Ordering = order_on Bid m account n in
    let sizes : Lots = m.listing.sizes in
    omega (
      arith,
      solvent.vaults Pc,
      total-ordered (owed Pc) Bid m account n,
      all_free-put Pc n.owner (Open account) (Open (account_after Bid sizes n o account)) m.traders found,
      balanced-owed Bid sizes o.met (fee_of n o.met) Pc (order-balanced Bid sizes n m.asks Pc),
      met-own_all Bid (terms_of sizes n) (demand_of Bid sizes n) m.asks,
      taker-owed Pc Bid sizes n o.met o.order,
      last-owed Pc Bid sizes o.order o.posting.booted,
      posted-locked_all Bid sizes m.listing.bid_capacity o.order m.bids (room Bid),
      rested-lock Bid m account n small,
      rested-paid Bid sizes n m.asks,
      fee_of-covers Bid sizes n m.asks,
      min-le_left account.pc.free n.max_pc,
    )
order-vaults Ask m account n found small room solvent Coin =
    let o : Ordering = order_on Ask m account n in
    let sizes : Lots = m.listing.sizes in
    omega (
      arith,
      solvent.vaults Coin,
      total-ordered (owed Coin) Ask m account n,
      all_free-put Coin n.owner (Open account) (Open (account_after Ask sizes n o account)) m.traders found,
      balanced-owed Ask sizes o.met (fee_of n o.met) Coin (order-balanced Ask sizes n m.bids Coin),
      met-own_all Ask (terms_of sizes n) (demand_of Ask sizes n) m.bids,
      taker-owed Coin Ask sizes n o.met o.order,
      last-owed Coin Ask sizes o.order o.posting.booted,
      posted-locked_all Ask sizes m.listing.ask_capacity o.order m.asks (room Ask),
      rested-lock Ask m account n small,
      rested-paid Ask sizes n m.bids,
      min-le_left account.coin.free (n.lots * sizes.coin),
    )
order-vaults Ask m account n found small room solvent Pc =
    let o : Ordering = order_on Ask m account n in
    let sizes : Lots = m.listing.sizes in
    omega (
      arith,
      solvent.vaults Pc,
      total-ordered (owed Pc) Ask m account n,
      all_free-put Pc n.owner (Open account) (Open (account_after Ask sizes n o account)) m.traders found,
      balanced-owed Ask sizes o.met (fee_of n o.met) Pc (order-balanced Ask sizes n m.bids Pc),
      met-locked_all Ask (terms_of sizes n) (demand_of Ask sizes n) m.bids,
      taker-owed Pc Ask sizes n o.met o.order,
      last-owed Pc Ask sizes o.order o.posting.booted,
      last-other_all Ask sizes o.order o.posting.booted,
      fee_of-covers Ask sizes n m.bids,
    )

-- the referrer parts are those of accounts and of pending fills
order-referrers : (side : Side) (m : Market) (account : Account) (n : NewOrder) → trader_at n.owner m.traders ≡ Some (Open account) → IsSolvent m
    → (ordered_market side m account n).referrer_rebates ≡ all_referrers (ordered_market side m account n).traders + total referred (ordered_market side m account n).events
order-referrers side m account n found solvent =
    let o : Ordering = order_on side m account n in
    let sizes : Lots = m.listing.sizes in
    omega (
      arith,
      solvent.referrers,
      total-ordered referred side m account n,
      all_referrers-put n.owner (Open account) (Open (account_after side sizes n o account)) m.traders found,
      met-referred side (terms_of sizes n) (demand_of side sizes n) (orders (opposite side) m),
      taker-referred side sizes n o.met o.order,
      last-referred side sizes o.order o.posting.booted,
    )

-- what a new order adds to the locks of a token
abbrev added : Side → Token → ℕ → ℕ
added Bid Pc amount = amount
added Ask Coin amount = amount
added _ _ amount = 0

-- of each owner: what its orders lock and its events keep stays, and of the order's owner what rests is added
order-own : (side : Side) (m : Market) (account : Account) (n : NewOrder) → ((each : Side) → 1 ≤ capacity each m) → (token : Token) (owner : Address)
    → own_locked token owner (ordered_market side m account n) + own_kept token owner (ordered_market side m account n).events
    ≡ own_locked token owner m + own_kept token owner m.events
    + added side token (weighed_where (is_order_of owner) (order_lock side m.listing.sizes) (order_on side m account n).order)
order-own Bid m account n room Coin owner =
    let o : Ordering = order_on Bid m account n in
    let sizes : Lots = m.listing.sizes in
    omega (
      arith,
      total-ordered (weighed_where (is_event_of owner) (kept Coin)) Bid m account n,
      met-locked (is_order_of owner) (is_event_of owner) (IsTestOfOrder-owner owner) Bid (terms_of sizes n) (demand_of Bid sizes n) m.asks,
      taker-kept (is_event_of owner) Coin Bid sizes n o.met o.order,
      last-other (is_event_of owner) Bid sizes o.order o.posting.booted,
    )
order-own Bid m account n room Pc owner =
    let o : Ordering = order_on Bid m account n in
    let sizes : Lots = m.listing.sizes in
    omega (
      arith,
      total-ordered (weighed_where (is_event_of owner) (kept Pc)) Bid m account n,
      met-own (is_event_of owner) Bid (terms_of sizes n) (demand_of Bid sizes n) m.asks,
      taker-kept (is_event_of owner) Pc Bid sizes n o.met o.order,
      posted-locked (is_order_of owner) (is_event_of owner) (IsTestOfOrder-owner owner) Bid sizes m.listing.bid_capacity o.order m.bids (room Bid),
    )
order-own Ask m account n room Coin owner =
    let o : Ordering = order_on Ask m account n in
    let sizes : Lots = m.listing.sizes in
    omega (
      arith,
      total-ordered (weighed_where (is_event_of owner) (kept Coin)) Ask m account n,
      met-own (is_event_of owner) Ask (terms_of sizes n) (demand_of Ask sizes n) m.bids,
      taker-kept (is_event_of owner) Coin Ask sizes n o.met o.order,
      posted-locked (is_order_of owner) (is_event_of owner) (IsTestOfOrder-owner owner) Ask sizes m.listing.ask_capacity o.order m.asks (room Ask),
    )
order-own Ask m account n room Pc owner =
    let o : Ordering = order_on Ask m account n in
    let sizes : Lots = m.listing.sizes in
    omega (
      arith,
      total-ordered (weighed_where (is_event_of owner) (kept Pc)) Ask m account n,
      met-locked (is_order_of owner) (is_event_of owner) (IsTestOfOrder-owner owner) Ask (terms_of sizes n) (demand_of Ask sizes n) m.bids,
      taker-kept (is_event_of owner) Pc Ask sizes n o.met o.order,
      last-other (is_event_of owner) Ask sizes o.order o.posting.booted,
    )

added-none : (side : Side) (token : Token) (amount : ℕ) → amount ≡ 0 → added side token amount ≡ 0
added-none Bid Coin amount none = refl
added-none Bid Pc amount none = none
added-none Ask Coin amount none = none
added-none Ask Pc amount none = refl

-- the order's owner adds up
order-total : (side : Side) (m : Market) (account : Account) (n : NewOrder) → m.next_sequence < 2 ^ 64 → (token : Token) (locks : ℕ)
    → (balance token account).total ≡ (balance token account).free + locks
    → (balance token (account_after side m.listing.sizes n (order_on side m account n) account)).total
    ≡ (balance token (account_after side m.listing.sizes n (order_on side m account n) account)).free
    + (locks + added side token (order_lock side m.listing.sizes (order_on side m account n).order))
order-total Bid m account n small Coin locks adds = omega (arith, adds)
order-total Bid m account n small Pc locks adds =
    omega (arith, adds, rested-lock Bid m account n small, rested-paid Bid m.listing.sizes n m.asks, min-le_left account.pc.free n.max_pc)
order-total Ask m account n small Coin locks adds =
    omega (arith, adds, rested-lock Ask m account n small, rested-paid Ask m.listing.sizes n m.bids, min-le_left account.coin.free (n.lots * m.listing.sizes.coin))
order-total Ask m account n small Pc locks adds = omega (arith, adds)

-- all accounts add up
order-adds_up : (side : Side) (m : Market) (account : Account) (n : NewOrder) → trader_at n.owner m.traders ≡ Some (Open account) → m.next_sequence < 2 ^ 64
    → ((each : Side) → 1 ≤ capacity each m) → AddsUp m → AddsUp (ordered_market side m account n)
order-adds_up side m account n found small room adds =
    let o : Ordering = order_on side m account n in
    let sizes : Lots = m.listing.sizes in
    let after : Account = account_after side sizes n o account in
    AddsUp-put m (ordered_market side m account n) n.owner (Open account) (Open after) found refl
    (λ owner apart token.
    let nothing : weighed_where (is_order_of owner) (order_lock side sizes) o.order ≡ 0 = cond-false (is_same owner n.owner) _ _ apart in
    omega (arith, order-own side m account n room token owner, added-none side token _ nothing))
    (λ opened is token.
    let same : after ≡ opened = cc in
    let locks : weighed_where (is_order_of n.owner) (order_lock side sizes) o.order ≡ order_lock side sizes o.order =
    cond-true (is_same n.owner n.owner) _ _ (is_same-refl n.owner) in
    let own = order-own side m account n room token n.owner in
    let total_is = order-total side m account n small token (own_locked token n.owner m + own_kept token n.owner m.events) (omega (arith, adds n.owner account found token)) in
    subst (λ a. (balance token a).total ≡ (balance token a).free + own_locked token n.owner (ordered_market side m account n) + own_kept token n.owner (ordered_market side m account n).events)
    same (omega (arith, total_is, own, ap (added side token) locks)))
    adds

-- the funds of a market after a new order that leaves it within the bound
pub order-funds : (side : Side) (m : Market) (account : Account) (n : NewOrder) → trader_at n.owner m.traders ≡ Some (Open account) → m.next_sequence < 2 ^ 64
    → ((each : Side) → 1 ≤ capacity each m) → FundsAgree m → IsBounded (ordered_market side m account n) → FundsAgree (ordered_market side m account n)
order-funds side m account n found small room funds bounded = record {
  solvent = record {
    vaults = order-vaults side m account n found small room funds.solvent;
    referrers = order-referrers side m account n found funds.solvent;
  };
  adds_up = order-adds_up side m account n found small room funds.adds_up;
  bounded = bounded;
}
