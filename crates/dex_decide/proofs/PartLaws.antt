-- What each call is given of a sound market's accounts.
use Rattle.std.proofs.Common.{◌≡◌, ℕ, Bool, true, false, List, [], ◌∷◌, Option, Some, None, Result, refl, sym, ap, ◌∙◌}
use Rattle.std.specs.List.{All}
use Rattle.std.specs.Prelude.{◌==◌, if◌then◌else◌}
use Rattle.std.proofs.lemmas.List.Elements.{All-head, All-tail, All-nil, All-cons}
use Rattle.dex_types.specs.declared.addresses.Address.{Address}
use Rattle.dex_types.specs.declared.orders.Order.{Order}
use Rattle.dex_types.specs.declared.refusals.Refusal.{Refusal}
use Rattle.dex_types.specs.declared.rows.Seen.{Seen}
use Rattle.dex_types.specs.declared.rows.WalletSeen.{WalletSeen}
use Rattle.dex_types.specs.declared.terms.Side.TheVariants.{Bid, Ask}
use Rattle.dex_types.specs.Accounts.{PlainAccount, PlainMarketAccounts}
use Rattle.dex_types.specs.Cancel.{CancelBy}
use Rattle.dex_types.specs.Reasons.{answered, disabled, when_disabled}
use Rattle.dex_types.specs.Requests.{Party, Request, party_of}
use Rattle.dex_types.specs.Why.{of_party, named_first, why_cancelled, why_cancelling, why_close, why_disable, why_init, why_opening, why_settle, why_sweep}
use Rattle.dex_market.specs.MarketAccount.{MarketWords, market_words}
use Rattle.dex_market.specs.StandsFor.{words_of}
use Rattle.dex_orders.specs.OrdersAccount.{IsOrders}
use Rattle.dex_orders.specs.StandsFor.{IsOnMarket, trader_of, traders_of}
use Rattle.dex_ring.specs.PendingFills.{pending_fills_of}
use Rattle.dex_ring.specs.declared.pending_fills.PendingFills.{PendingFills}
use Rattle.dex_ring.specs.Ring.{Ring, ring_of, room_of}
use Rattle.dex_slab.specs.Slab.{resting}
use Rattle.dex_settle.specs.Refusing.{close_reason, disable_reason, init_reason, settle_reason, sweep_reason}
use Rattle.dex_settle.specs.SettleGiven.{HasOneCoinMint, HaveOneMint, IsOfSound, given}
use Rattle.dex_settle.proofs.ModelLaws.{close-is, disable-is, init-is, settle-is}
use Rattle.dex_accounts.specs.Decoded.{AreSound, market_in}
use Rattle.dex_accounts.specs.Parts.{AreOf, AreSoundParts, HasOpen, parts_of}
use Rattle.dex_cancel_slots.specs.Given.{IsGiven, sides_by, sides_given}
use Rattle.dex_history.specs.Journal.{Agree}
use Rattle.dex_plan.specs.Given.{SeesEachOnce}
use Rattle.dex_decide.specs.Named.{IsActing, account_by, named_in, party_by}
use Rattle.dex_decide.proofs.NamedLaws.{is-named, none-first}
use Rattle.dex_decide.proofs.Planning.{of-party}

each-accepted : (market : Address) (accounts : List PlainAccount) → All (IsOnMarket market) accounts → All (λ (account : PlainAccount). IsOrders account.bytes) accounts
each-accepted market [] on = All-nil _
each-accepted market (first ∷ others) on =
    All-cons (λ (account : PlainAccount). IsOrders account.bytes) first others (All-head (IsOnMarket market) first others on).accepted
    (each-accepted market others (All-tail (IsOnMarket market) first others on))

flag-says : (is : Bool) → ((if is then 131 else 3) == 131) ≡ is
flag-says true = refl
flag-says false = refl

module _ (accounts : PlainMarketAccounts) (sound : AreSound accounts) where
  -- the parts that the accounts hold are those of their market, which is sound
  pub are : AreOf (parts_of accounts) (market_in accounts)
  are = record {
    market = sound.stands.terms;
    requests = sound.stands.requests;
    events = sound.stands.events;
    bids = sound.stands.bids.orders;
    bid_room = sound.stands.bids.room;
    asks = sound.stands.asks.orders;
    ask_room = sound.stands.asks.room;
    traders = sound.stands.traders;
  }

  pub sound-parts : AreSoundParts (parts_of accounts)
  sound-parts = record { market = market_in accounts; sound = sound.sound; are = are }

  -- each open-orders account is accepted
  pub all-accepted : All (λ (account : PlainAccount). IsOrders account.bytes) accounts.orders
  all-accepted = each-accepted (market_in accounts).listing.address accounts.orders sound.stands.traders.each

  -- the party that is named
  pub party-told : (named : List Address) → party_of named (market_in accounts).traders ≡ party_of named (traders_of accounts.orders)
  party-told named = ap (party_of named) (sym sound.stands.traders.stand)

  -- what is answered of the account that acts is answered of the row
  pub by-acting : {P : Type 0} (request : Request) (address : Address) (bytes : List ℕ) → IsActing request.named accounts.orders address bytes
      → (W : Party → Option Refusal) (f : Option Party → P) (result : Result P Refusal)
      → result ≡ answered (W (party_by address bytes)) (f (Some (party_by address bytes)))
      → result ≡ answered (of_party W (party_of request.named (market_in accounts).traders)) (f (party_of request.named (market_in accounts).traders))
  by-acting request address bytes acting W f result answers =
      of-party W f (party_of request.named (market_in accounts).traders) (party_by address bytes) result (party-told request.named ∙ acting.party) answers

  -- the flags tell whether the market is disabled
  pub flags-told : ((market_words accounts.market).account_flags == 131) ≡ (market_in accounts).is_disabled
  flags-told = ap (λ (w : MarketWords). w.account_flags == 131) sound.stands.terms.words ∙ flag-says (market_in accounts).is_disabled

  pub disabled-told : (bytes : List ℕ) → bytes ≡ accounts.market → when_disabled ((market_words bytes).account_flags == 131) ≡ disabled (market_in accounts)
  disabled-told bytes is = ap (λ (b : List ℕ). when_disabled ((market_words b).account_flags == 131)) is ∙ ap when_disabled flags-told

  -- the account that acts is open among them
  pub has-open : (named : List Address) (address : Address) (bytes : List ℕ) → IsActing named accounts.orders address bytes → HasOpen address bytes (parts_of accounts)
  has-open named address bytes acting =
      record { found = (is-named named accounts.orders (account_by address bytes) acting.first).at; accepted = acting.accepted }

  -- what a cancel is given
  pub cancel-given : (owner : Address) (account bids asks : List ℕ) → HasOpen owner account (parts_of accounts) → bids ≡ accounts.bids → asks ≡ accounts.asks
      → IsGiven sides_given (sides_by (resting Bid bids) (resting Ask asks)) owner account
  cancel-given owner account bids asks has bids_are asks_are = record {
    whole = parts_of accounts;
    sound = sound-parts;
    has = has;
    is =
        ap (λ (b : List ℕ). sides_by (resting Bid b) (resting Ask accounts.asks)) (sym bids_are)
        ∙ ap (λ (a : List ℕ). sides_by (resting Bid bids) (resting Ask a)) (sym asks_are);
  }

  -- what settling is given
  pub settle-given : (named : List Address) (address : Address) (bytes : List ℕ) → IsActing named accounts.orders address bytes
      → (market : List ℕ) → market ≡ accounts.market → IsOfSound (given market bytes)
  settle-given named address bytes acting market is = record {
    owner = address;
    whole = parts_of accounts;
    sound = sound-parts;
    has = has-open named address bytes acting;
    is = ap (λ (b : List ℕ). given b bytes) (sym is);
  }

  -- what pending fills are to take off totals, as the queue tells it
  pub sums-told : (sums : PendingFills) (bytes : List ℕ) → sums ≡ pending_fills_of (market_in accounts).events → bytes ≡ accounts.events
      → sums ≡ pending_fills_of (ring_of bytes).events
  sums-told sums bytes known is =
      known
      ∙ ap (λ (r : Ring). pending_fills_of r.events) (sym sound.stands.events.ring)
      ∙ ap (λ (b : List ℕ). pending_fills_of (ring_of b).events) (sym is)

  -- what each call answers by the accounts' bytes is what is answered on the market
  module _ (request : Request) (market : List ℕ) (is : market ≡ accounts.market) where
    pub sweep-told : (seen : Seen) → answered (sweep_reason (market_words market) accounts.authority request.signer seen) (market_words market).pc_fees_accrued
        ≡ answered (why_sweep request seen (market_in accounts)) (market_in accounts).pc_fees
    sweep-told seen =
        let m = market_in accounts in
        ap (λ (b : List ℕ). answered (sweep_reason (market_words b) accounts.authority request.signer seen) (market_words b).pc_fees_accrued) is
        ∙ ap (λ (w : MarketWords). answered (sweep_reason w accounts.authority request.signer seen) w.pc_fees_accrued) sound.stands.terms.words
        ∙ ap (λ (a : Address). answered (sweep_reason (words_of m) a request.signer seen) m.pc_fees) sound.stands.authority

    pub disable-told : disable_reason (market_words market).account_flags accounts.authority request.signer ≡ why_disable request (market_in accounts)
    disable-told =
        ap (λ (b : List ℕ). disable_reason (market_words b).account_flags accounts.authority request.signer) is
        ∙ ap (λ (a : Address). disable_reason (market_words accounts.market).account_flags a request.signer) sound.stands.authority
        ∙ disable-is (parts_of accounts) (market_in accounts) are request

    pub settle-told : (seen : Seen) (party : Party) → settle_reason (market_words market).terms request.signer seen party.account ≡ why_settle request seen (market_in accounts) party
    settle-told seen party =
        ap (λ (b : List ℕ). settle_reason (market_words b).terms request.signer seen party.account) is
        ∙ settle-is (parts_of accounts) (market_in accounts) are request seen party

    pub init-told : (account : PlainAccount) → named_in request.named accounts.orders ≡ Some account
        → init_reason (market_words market).account_flags (trader_of account.bytes) ≡ why_init request (market_in accounts)
    init-told account first =
        let named = is-named request.named accounts.orders account first in
        ap (λ (b : List ℕ). init_reason (market_words b).account_flags (trader_of account.bytes)) is
        ∙ init-is (parts_of accounts) (market_in accounts) are request account.address named.others account.bytes named.first named.at

    pub none-told : named_in request.named accounts.orders ≡ None
        → why_opening ((market_words market).account_flags == 131) None ≡ why_init request (market_in accounts)
    none-told none =
        let m = market_in accounts in
        let nobody : named_first request.named m.traders ≡ None =
        ap (named_first request.named) (sym sound.stands.traders.stand) ∙ none-first request.named accounts.orders none in
        ap (λ (b : List ℕ). why_opening ((market_words b).account_flags == 131) None) is
        ∙ ap (λ (d : Bool). why_opening d None) flags-told
        ∙ ap (why_opening m.is_disabled) (sym nobody)

  pub close-told : (request : Request) (account : PlainAccount) → named_in request.named accounts.orders ≡ Some account
      → close_reason request.signer (trader_of account.bytes) ≡ of_party (why_close request) (party_of request.named (market_in accounts).traders)
  close-told request account first =
      let named = is-named request.named accounts.orders account first in
      close-is (parts_of accounts) (market_in accounts) are request account.address named.others account.bytes named.first named.at

  pub cancel-told : (by : CancelBy) (owner : Address) (bids asks events : List ℕ) → bids ≡ accounts.bids → asks ≡ accounts.asks → events ≡ accounts.events
      → why_cancelling by owner (resting Bid bids) (resting Ask asks) (room_of (ring_of events)) ≡ why_cancelled by owner (market_in accounts)
  cancel-told by owner bids asks events a b c =
      let m = market_in accounts in
      ap (λ (l : List ℕ). why_cancelling by owner (resting Bid l) (resting Ask asks) (room_of (ring_of events))) a
      ∙ ap (λ (l : List ℕ). why_cancelling by owner (resting Bid accounts.bids) (resting Ask l) (room_of (ring_of events))) b
      ∙ ap (λ (l : List ℕ). why_cancelling by owner (resting Bid accounts.bids) (resting Ask accounts.asks) (room_of (ring_of l))) c
      ∙ ap (λ (l : List Order). why_cancelling by owner l (resting Ask accounts.asks) (room_of (ring_of accounts.events))) sound.stands.bids.orders
      ∙ ap (λ (l : List Order). why_cancelling by owner m.bids l (room_of (ring_of accounts.events))) sound.stands.asks.orders
      ∙ ap (λ (r : Ring). why_cancelling by owner m.bids m.asks (room_of r)) sound.stands.events.ring

-- two roles of one wallet see one mint
one-mint : (role other : Option WalletSeen) → Agree role other → HaveOneMint role other
one-mint None other agree wallet same first second at = absurd (cc)
one-mint (Some seen) None agree wallet same first second at = absurd (cc)
one-mint (Some seen) (Some too) agree wallet same first second at =
    let is : seen ≡ wallet = cc in
    let was : too ≡ same = cc in
    let one : seen ≡ too = agree (ap (λ (w : WalletSeen). w.address) is ∙ at ∙ ap (λ (w : WalletSeen). w.address) (sym was)) in
    ap (λ (w : WalletSeen). w.mint) (sym is ∙ one ∙ was)

pub one-coin-mint : (seen : Seen) → SeesEachOnce seen → HasOneCoinMint seen
one-coin-mint seen sees = record { pc = one-mint seen.coin seen.pc sees.coin_pc; referrer = one-mint seen.coin seen.referrer sees.coin_referrer }
