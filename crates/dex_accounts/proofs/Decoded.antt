-- Accounts that stand for a market tell it.
use Rattle.std.proofs.Common.{◌≡◌, ℕ, Bool, true, false, refl, sym, ap, ◌∙◌, ◌==◌, subst, cond}
use Rattle.dex_types.specs.declared.addresses.Address.{Address}
use Rattle.dex_types.specs.Accounts.{PlainMarketAccounts}
use Rattle.dex_types.specs.Market.{Market}
use Rattle.dex_types.specs.Soundness.{IsSound}
use Rattle.dex_market.specs.MarketAccount.{MarketTerms, MarketWords, market_words, sizes_of}
use Rattle.dex_market.specs.StandsFor.{words_of}
use Rattle.dex_ring.specs.Ring.{Ring}
use Rattle.dex_token.specs.TokenAccount.{WalletWords}
use Rattle.dex_accounts.specs.Decoded.{AreSound, market_in, listing_in}
use Rattle.dex_accounts.specs.StandsFor.{StandsFor}
use Rattle.dex_accounts.proofs.OneMarket.{listing_by, market_by}

-- the flags tell whether a market is disabled
flag_says : (is : Bool) → (cond is 131 3 == 131) ≡ is
flag_says true = refl
flag_says false = refl

module _ (accounts : PlainMarketAccounts) (m : Market) (h : StandsFor accounts m) where
  place : (f : MarketTerms → Address) → f (market_words accounts.market).terms ≡ f (words_of m).terms
  place f = ap (λ (w : MarketWords). f w.terms) h.terms.words

  term : (f : MarketTerms → ℕ) → f (market_words accounts.market).terms ≡ f (words_of m).terms
  term f = ap (λ (w : MarketWords). f w.terms) h.terms.words

  number : (f : MarketWords → ℕ) → f (market_words accounts.market) ≡ f (words_of m)
  number f = ap f h.terms.words

  listing : listing_in accounts ≡ m.listing
  listing =
      let l = listing_in accounts in
      listing_by m.listing
      l.address l.authority l.coin_mint l.pc_mint l.sizes l.coin_vault l.pc_vault l.coin_vault_owner l.pc_vault_owner l.request_queue
      l.event_queue l.bids l.asks l.vault_signer_nonce l.pc_dust_threshold l.fee_rate_bps l.bid_capacity l.ask_capacity l.event_capacity
      h.address
      h.authority
      (place (λ t. t.coin_mint))
      (place (λ t. t.pc_mint))
      (ap sizes_of h.terms.words)
      (place (λ t. t.coin_vault))
      (place (λ t. t.pc_vault))
      (ap (λ (w : WalletWords). w.owner) h.coin_vault.words)
      (ap (λ (w : WalletWords). w.owner) h.pc_vault.words)
      (place (λ t. t.req_q))
      (place (λ t. t.event_q))
      (place (λ t. t.bids))
      (place (λ t. t.asks))
      (term (λ t. t.vault_signer_nonce))
      (term (λ t. t.pc_dust_threshold))
      (term (λ t. t.fee_rate_bps))
      h.bids.room
      h.asks.room
      (ap (λ (r : Ring). r.capacity) h.events.ring)

  pub told : market_in accounts ≡ m
  told =
      unfold market_in in
      market_by m
      _ _ _ _ _ _ _ _ _ _ _ _ _
      listing
      h.bids.orders
      h.asks.orders
      (ap (λ (r : Ring). r.events) h.events.ring)
      h.traders.stand
      (ap (λ (w : WalletWords). w.amount) h.coin_vault.words)
      (ap (λ (w : WalletWords). w.amount) h.pc_vault.words)
      (number (λ w. w.coin_fees_accrued))
      (number (λ w. w.pc_fees_accrued))
      (number (λ w. w.referrer_rebates_accrued))
      h.requests.next
      (ap (λ (r : Ring). r.seq_num) h.events.ring)
      (ap (λ (w : MarketWords). w.account_flags == 131) h.terms.words ∙ flag_says m.is_disabled)

-- so accounts that stand for a sound market are those of a sound one
pub AreSound-of : (accounts : PlainMarketAccounts) (m : Market) → IsSound m → StandsFor accounts m → AreSound accounts
AreSound-of accounts m sound h = record {
  sound = subst IsSound (sym (told accounts m h)) sound;
  stands = subst (StandsFor accounts) (sym (told accounts m h)) h;
}
