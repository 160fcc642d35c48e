-- A market's accounts stand for one market.
use Rattle.std.proofs.Common.{◌≡◌, ℕ, Bool, true, false, cond, List, refl, sym, ap, ◌∙◌, arith}
use Rattle.dex_types.specs.declared.addresses.Address.{Address}
use Rattle.dex_types.specs.declared.orders.Order.{Order}
use Rattle.dex_types.specs.declared.terms.Lots.{Lots}
use Rattle.dex_types.specs.Accounts.{PlainMarketAccounts}
use Rattle.dex_types.specs.Market.{Listing, Market}
use Rattle.dex_types.specs.QueuedEvent.{QueuedEvent}
use Rattle.dex_types.specs.Trader.{Traders}
use Rattle.dex_market.specs.MarketAccount.{MarketTerms, MarketWords}
use Rattle.dex_market.specs.StandsFor.{words_of}
use Rattle.dex_ring.specs.Ring.{Ring}
use Rattle.dex_ring.specs.StandsFor.{ring_of_market}
use Rattle.dex_token.specs.TokenAccount.{WalletWords}
use Rattle.dex_token.specs.StandsFor.{vault_words}
use Rattle.dex_types.specs.Side.{Coin, Pc}
use Rattle.dex_accounts.specs.StandsFor.{StandsFor}

-- a listing, and a market, by its fields
pub listing_by : (other : Listing) (address : Address) (authority : Address) (coin_mint : Address) (pc_mint : Address) (sizes : Lots) (coin_vault : Address) (pc_vault : Address) (coin_vault_owner : Address) (pc_vault_owner : Address) (request_queue : Address) (event_queue : Address) (bids : Address) (asks : Address) (vault_signer_nonce : ℕ) (pc_dust_threshold : ℕ) (fee_rate_bps : ℕ) (bid_capacity : ℕ) (ask_capacity : ℕ) (event_capacity : ℕ)
    → address ≡ other.address → authority ≡ other.authority → coin_mint ≡ other.coin_mint → pc_mint ≡ other.pc_mint → sizes ≡ other.sizes → coin_vault ≡ other.coin_vault → pc_vault ≡ other.pc_vault → coin_vault_owner ≡ other.coin_vault_owner → pc_vault_owner ≡ other.pc_vault_owner → request_queue ≡ other.request_queue → event_queue ≡ other.event_queue → bids ≡ other.bids → asks ≡ other.asks → vault_signer_nonce ≡ other.vault_signer_nonce → pc_dust_threshold ≡ other.pc_dust_threshold → fee_rate_bps ≡ other.fee_rate_bps → bid_capacity ≡ other.bid_capacity → ask_capacity ≡ other.ask_capacity → event_capacity ≡ other.event_capacity
    → (let made : Listing = record { address = address; authority = authority; coin_mint = coin_mint; pc_mint = pc_mint; sizes = sizes; coin_vault = coin_vault; pc_vault = pc_vault; coin_vault_owner = coin_vault_owner; pc_vault_owner = pc_vault_owner; request_queue = request_queue; event_queue = event_queue; bids = bids; asks = asks; vault_signer_nonce = vault_signer_nonce; pc_dust_threshold = pc_dust_threshold; fee_rate_bps = fee_rate_bps; bid_capacity = bid_capacity; ask_capacity = ask_capacity; event_capacity = event_capacity } in made) ≡ other
listing_by other address authority coin_mint pc_mint sizes coin_vault pc_vault coin_vault_owner pc_vault_owner request_queue event_queue bids asks vault_signer_nonce pc_dust_threshold fee_rate_bps bid_capacity ask_capacity event_capacity e0 e1 e2 e3 e4 e5 e6 e7 e8 e9 e10 e11 e12 e13 e14 e15 e16 e17 e18 =
    rw (e0, e1, e2, e3, e4, e5, e6, e7, e8, e9, e10, e11, e12, e13, e14, e15, e16, e17, e18) refl

pub market_by : (other : Market) (listing : Listing) (bids : List Order) (asks : List Order) (events : List QueuedEvent) (traders : Traders) (coin_vault : ℕ) (pc_vault : ℕ) (coin_fees : ℕ) (pc_fees : ℕ) (referrer_rebates : ℕ) (next_sequence : ℕ) (events_appended : ℕ) (is_disabled : Bool)
    → listing ≡ other.listing → bids ≡ other.bids → asks ≡ other.asks → events ≡ other.events → traders ≡ other.traders → coin_vault ≡ other.coin_vault → pc_vault ≡ other.pc_vault → coin_fees ≡ other.coin_fees → pc_fees ≡ other.pc_fees → referrer_rebates ≡ other.referrer_rebates → next_sequence ≡ other.next_sequence → events_appended ≡ other.events_appended → is_disabled ≡ other.is_disabled
    → (let made : Market = record { listing = listing; bids = bids; asks = asks; events = events; traders = traders; coin_vault = coin_vault; pc_vault = pc_vault; coin_fees = coin_fees; pc_fees = pc_fees; referrer_rebates = referrer_rebates; next_sequence = next_sequence; events_appended = events_appended; is_disabled = is_disabled } in made) ≡ other
market_by other listing bids asks events traders coin_vault pc_vault coin_fees pc_fees referrer_rebates next_sequence events_appended is_disabled e0 e1 e2 e3 e4 e5 e6 e7 e8 e9 e10 e11 e12 =
    rw (e0, e1, e2, e3, e4, e5, e6, e7, e8, e9, e10, e11, e12) refl

-- lot sizes by their fields
sizes_by : (other : Lots) (coin pc : ℕ) → coin ≡ other.coin → pc ≡ other.pc → (let made : Lots = record { coin = coin; pc = pc } in made) ≡ other
sizes_by other coin pc c p = rw (c, p) refl

-- the flags tell whether a market is disabled
flags_tell : (is was : Bool) → (let flags : Bool → ℕ = λ b. cond b 131 3 in flags is ≡ flags was) → is ≡ was
flags_tell true true e = refl
flags_tell false false e = refl
flags_tell true false e = absurd (omega arith)
flags_tell false true e = absurd (omega arith)

module _ (accounts : PlainMarketAccounts) (m other : Market) (h : StandsFor accounts m) (k : StandsFor accounts other) where
  words : words_of m ≡ words_of other
  words = sym h.terms.words ∙ k.terms.words

  coin_words : vault_words Coin m ≡ vault_words Coin other
  coin_words = sym h.coin_vault.words ∙ k.coin_vault.words

  pc_words : vault_words Pc m ≡ vault_words Pc other
  pc_words = sym h.pc_vault.words ∙ k.pc_vault.words

  ring : ring_of_market m ≡ ring_of_market other
  ring = sym h.events.ring ∙ k.events.ring

  number : (f : MarketWords → ℕ) → f (words_of m) ≡ f (words_of other)
  number f = ap f words

  place : (f : MarketTerms → Address) → f (words_of m).terms ≡ f (words_of other).terms
  place f = ap (λ (w : MarketWords). f w.terms) words

  term : (f : MarketTerms → ℕ) → f (words_of m).terms ≡ f (words_of other).terms
  term f = ap (λ (w : MarketWords). f w.terms) words

  listing : m.listing ≡ other.listing
  listing =
      let l = m.listing in
      listing_by other.listing
      l.address l.authority l.coin_mint l.pc_mint l.sizes l.coin_vault l.pc_vault l.coin_vault_owner l.pc_vault_owner l.request_queue
      l.event_queue l.bids l.asks l.vault_signer_nonce l.pc_dust_threshold l.fee_rate_bps l.bid_capacity l.ask_capacity l.event_capacity
      (place (λ t. t.own_address))
      (sym h.authority ∙ k.authority)
      (place (λ t. t.coin_mint))
      (place (λ t. t.pc_mint))
      (sizes_by other.listing.sizes l.sizes.coin l.sizes.pc (term (λ t. t.coin_lot_size)) (term (λ t. t.pc_lot_size)))
      (place (λ t. t.coin_vault))
      (place (λ t. t.pc_vault))
      (ap (λ (w : WalletWords). w.owner) coin_words)
      (ap (λ (w : WalletWords). w.owner) pc_words)
      (place (λ t. t.req_q))
      (place (λ t. t.event_q))
      (place (λ t. t.bids))
      (place (λ t. t.asks))
      (term (λ t. t.vault_signer_nonce))
      (term (λ t. t.pc_dust_threshold))
      (term (λ t. t.fee_rate_bps))
      (sym h.bids.room ∙ k.bids.room)
      (sym h.asks.room ∙ k.asks.room)
      (ap (λ (r : Ring). r.capacity) ring)

  pub one_market : m ≡ other
  one_market =
      market_by other
      m.listing m.bids m.asks m.events m.traders m.coin_vault m.pc_vault m.coin_fees m.pc_fees m.referrer_rebates m.next_sequence
      m.events_appended m.is_disabled
      listing
      (sym h.bids.orders ∙ k.bids.orders)
      (sym h.asks.orders ∙ k.asks.orders)
      (ap (λ (r : Ring). r.events) ring)
      (sym h.traders.stand ∙ k.traders.stand)
      (ap (λ (w : WalletWords). w.amount) coin_words)
      (ap (λ (w : WalletWords). w.amount) pc_words)
      (number (λ w. w.coin_fees_accrued))
      (number (λ w. w.pc_fees_accrued))
      (number (λ w. w.referrer_rebates_accrued))
      (sym h.requests.next ∙ k.requests.next)
      (ap (λ (r : Ring). r.seq_num) ring)
      (flags_tell m.is_disabled other.is_disabled (number (λ w. w.account_flags)))
