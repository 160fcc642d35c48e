-- by the parts of a market each call is refused as on the market, and leaves the parts of the market after it
use Rattle.std.proofs.Common.{◌≡◌, ◌+◌, ◌-◌, ℕ, Bool, true, false, List, ◌∷◌, Some, refl, sym, ap, ◌∙◌, arith, lit≤, inl, inr}
use Rattle.std.specs.Prelude.{if◌then◌else◌}
use Rattle.dex_fields.specs.declared.market.TheConstants.{ACCOUNT_FLAGS, PC_FEES_ACCRUED}
use Rattle.dex_fields.specs.Bytes.{number_in, with_number}
use Rattle.dex_fields.proofs.Writing.{number_in-with_number}
use Rattle.dex_types.specs.declared.addresses.Address.{Address}
use Rattle.dex_types.specs.declared.rows.Seen.{Seen}
use Rattle.dex_types.specs.Market.{Market}
use Rattle.dex_types.specs.Requests.{Party, Request, open_party, party_of}
use Rattle.dex_types.specs.Settle.{after_sweep}
use Rattle.dex_types.specs.Trader.{Account, Blank, Closed, Open, Trader, trader_at}
use Rattle.dex_types.specs.Upkeep.{after_close, after_disable, after_init, fresh_account}
use Rattle.dex_types.specs.Why.{named_first, of_party, why_close, why_disable, why_disabling, why_init, why_opening, why_settle, why_sweep}
use Rattle.dex_accounts.specs.Owners.{bytes_at}
use Rattle.dex_accounts.specs.Parts.{AreOf, MarketParts, with_account}
use Rattle.dex_accounts.proofs.PartLaws.{AreOf-account, AreOf-market, trader_at-bytes_at, trader_of-open, traders_in-parts}
use Rattle.dex_market.specs.MarketAccount.{MarketWords, market_words}
use Rattle.dex_market.specs.StandsFor.{words_of}
use Rattle.dex_market.proofs.WordWrites.{IsMarket-beside, IsMarket-with_number, account_flags_written, pc_fees_accrued_written}
use Rattle.dex_orders.specs.OrdersAccount.{IsClosed, IsOpen, account_of, market_of}
use Rattle.dex_orders.specs.StandsFor.{trader_of}
use Rattle.dex_settle.specs.PayingOut.{swept, with_disabled}
use Rattle.dex_settle.specs.Refusing.{close_reason, disable_reason, init_reason, settle_reason, sweep_reason}
use Rattle.dex_settle.proofs.TraderLaws.{trader_of-closed}

-- the flags of a market account
abbrev flags_of : Bool → ℕ
flags_of is_disabled = if is_disabled then 131 else 3

module _ (parts : MarketParts) (m : Market) (are : AreOf parts m) where
  pub settle-is : (request : Request) (seen : Seen) (party : Party) → settle_reason (market_words parts.market).terms request.signer seen party.account ≡ why_settle request seen m party
  settle-is request seen party = ap (λ (w : MarketWords). settle_reason w.terms request.signer seen party.account) are.market.words

  pub sweep-is : (request : Request) (seen : Seen) → sweep_reason (market_words parts.market) m.listing.authority request.signer seen ≡ why_sweep request seen m
  sweep-is request seen = ap (λ (w : MarketWords). sweep_reason w m.listing.authority request.signer seen) are.market.words

  pub disable-is : (request : Request) → disable_reason (market_words parts.market).account_flags m.listing.authority request.signer ≡ why_disable request m
  disable-is request =
      ap (λ (w : MarketWords). disable_reason w.account_flags m.listing.authority request.signer) are.market.words
      ∙ told m.is_disabled m.listing.authority request.signer
    where
      told : (is_disabled : Bool) (authority signer : Address) → disable_reason (flags_of is_disabled) authority signer ≡ why_disabling is_disabled authority signer
      told true authority signer = refl
      told false authority signer = refl

  -- the trader that the row names first
  named-is : (named : List Address) (address : Address) (others : List Address) (bytes : List ℕ) → named ≡ address ∷ others → bytes_at address parts.accounts ≡ Some bytes
      → named_first named m.traders ≡ Some (trader_of bytes)
  named-is named address others bytes is found =
      ap (λ (n : List Address). named_first n m.traders) is ∙ ap (trader_at address) (sym (traders_in-parts parts m are)) ∙ trader_at-bytes_at address parts.accounts bytes found

  pub init-is : (request : Request) (address : Address) (others : List Address) (bytes : List ℕ) → request.named ≡ address ∷ others → bytes_at address parts.accounts ≡ Some bytes
      → init_reason (market_words parts.market).account_flags (trader_of bytes) ≡ why_init request m
  init-is request address others bytes is found =
      ap (λ (w : MarketWords). init_reason w.account_flags (trader_of bytes)) are.market.words
      ∙ told m.is_disabled (trader_of bytes)
      ∙ ap (why_opening m.is_disabled) (sym (named-is request.named address others bytes is found))
    where
      told : (is_disabled : Bool) (trader : Trader) → init_reason (flags_of is_disabled) trader ≡ why_opening is_disabled (Some trader)
      told true trader = refl
      told false trader = refl

  pub close-is : (request : Request) (address : Address) (others : List Address) (bytes : List ℕ) → request.named ≡ address ∷ others → bytes_at address parts.accounts ≡ Some bytes
      → close_reason request.signer (trader_of bytes) ≡ of_party (why_close request) (party_of request.named m.traders)
  close-is request address others bytes is found =
      told (trader_of bytes)
      ∙ ap (λ found. of_party (why_close request) (open_party address found))
      (sym (ap (trader_at address) (sym (traders_in-parts parts m are)) ∙ trader_at-bytes_at address parts.accounts bytes found))
      ∙ ap (λ (n : List Address). of_party (why_close request) (party_of n m.traders)) (sym is)
    where
      told : (trader : Trader) → close_reason request.signer trader ≡ of_party (why_close request) (open_party address (Some trader))
      told (Open account) = refl
      told Closed = refl
      told Blank = refl

  -- the market's account swept, and that of a disabled market
  pub sweep-put : AreOf (record parts { market = swept parts.market }) (after_sweep m)
  sweep-put =
      let bytes : List ℕ = parts.market in
      let there : number_in (with_number bytes PC_FEES_ACCRUED 0) PC_FEES_ACCRUED ≡ 0 =
      number_in-with_number bytes PC_FEES_ACCRUED 0 (omega (arith, are.market.accepted.size)) (omega arith) in
      let pc : m.pc_vault - (m.pc_fees + m.referrer_rebates) ≡ m.pc_vault + 0 - m.pc_fees - 0 - (0 + m.referrer_rebates) = omega arith in
      let coin : m.coin_vault - m.coin_fees ≡ m.coin_vault + 0 - 0 - m.coin_fees = omega arith in
      let words : market_words (swept bytes) ≡ words_of (after_sweep m) =
      pc_fees_accrued_written bytes 0 there ∙ ap (λ (w : MarketWords). record w { pc_fees_accrued = 0 }) are.market.words
      ∙ ap (λ (x : ℕ). record (words_of m) { coin_deposits_total = x; pc_fees_accrued = 0 }) coin
      ∙ ap (λ (x : ℕ). record (words_of (after_sweep m)) { pc_deposits_total = x }) pc in
      AreOf-market parts m are (swept bytes) (m.coin_vault + 0 - 0) (m.pc_vault + 0 - m.pc_fees - 0) m.coin_fees 0 m.referrer_rebates m.is_disabled
      (record { accepted = IsMarket-beside bytes PC_FEES_ACCRUED 0 refl (lit≤ tt) (lit≤ tt) are.market.accepted; words = words })

  pub disable-put : AreOf (record parts { market = with_disabled parts.market }) (after_disable m)
  disable-put =
      let bytes : List ℕ = parts.market in
      let there : number_in (with_number bytes ACCOUNT_FLAGS 131) ACCOUNT_FLAGS ≡ 131 =
      number_in-with_number bytes ACCOUNT_FLAGS 131 (omega (arith, are.market.accepted.size)) (omega arith) in
      let words : market_words (with_disabled bytes) ≡ words_of (after_disable m) =
      account_flags_written bytes 131 there ∙ ap (λ (w : MarketWords). record w { account_flags = 131 }) are.market.words in
      AreOf-market parts m are (with_disabled bytes) m.coin_vault m.pc_vault m.coin_fees m.pc_fees m.referrer_rebates true
      (record { accepted = IsMarket-with_number bytes ACCOUNT_FLAGS 131 refl (lit≤ tt) (lit≤ tt) (inr there) are.market.accepted; words = words })

  -- an account opened for its signer, and one closed
  pub open-put : (owner signer : Address) (old bytes : List ℕ) → bytes_at owner parts.accounts ≡ Some old → IsOpen bytes → market_of bytes ≡ m.listing.address
      → account_of bytes ≡ fresh_account signer → AreOf (with_account owner bytes parts) (after_init owner signer m)
  open-put owner signer old bytes found is_open on is =
      AreOf-account parts m are owner old bytes (Open (fresh_account signer)) found
      (record { accepted = inr (inl is_open); stands = trader_of-open bytes is_open ∙ ap (λ (a : Account). Open a) is; on_market = λ opened. on })

  pub close-put : (owner : Address) (old bytes : List ℕ) → bytes_at owner parts.accounts ≡ Some old → IsClosed bytes → AreOf (with_account owner bytes parts) (after_close owner m)
  close-put owner old bytes found closed =
      AreOf-account parts m are owner old bytes Closed found (record { accepted = inr (inr closed); stands = trader_of-closed bytes closed; on_market = λ is_open. absurd (omega (arith, is_open.flags, closed.flags)) })
