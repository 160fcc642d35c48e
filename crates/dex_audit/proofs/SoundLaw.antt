-- accounts of a market in which an audit finds nothing are those of a sound market
use Rattle.std.proofs.Common.{◌≡◌, ℕ, ◌-◌, ◌^◌, ◌<◌, inl, inr, true, cond, eqb, [], Option, Some, None, refl, sym, arith}
use Rattle.std.specs.List.{All}
use Rattle.dex_types.specs.declared.addresses.Address.{Address}
use Rattle.dex_types.specs.declared.orders.Order.{Order}
use Rattle.dex_types.specs.declared.terms.Side.{Side}
use Rattle.dex_types.specs.declared.terms.Side.TheVariants.{Bid, Ask}
use Rattle.dex_types.specs.Accounts.{PlainMarketAccounts}
use Rattle.dex_types.specs.Market.{Market, orders}
use Rattle.dex_types.specs.Owed.{order_lock}
use Rattle.dex_types.specs.Side.{Token, Coin, Pc, by_token}
use Rattle.dex_types.specs.Solvency.{earned, vault}
use Rattle.dex_types.specs.Soundness.{IsSound, SlotsAgree, held_at, order_holding}
use Rattle.dex_types.specs.Trader.{Holding, trader_at}
use Rattle.dex_market.specs.MarketAccount.{AreMarketFlags, MarketWords, market_words}
use Rattle.dex_market.specs.StandsFor.{words_of}
use Rattle.dex_token.specs.TokenAccount.{WalletWords, wallet_words}
use Rattle.dex_token.specs.StandsFor.{vault_words}
use Rattle.dex_accounts.specs.Decoded.{AreSound, market_in}
use Rattle.dex_accounts.specs.StandsFor.{StandsFor}
use Rattle.dex_state.specs.Held.{IsHeldMarket}
use Rattle.dex_audit_rules.specs.Funds.{beyond_in, deposited, deposits_in, deposits_off, deposits_word, rebates_in, too_large, too_large_in, totals_in, vaults_in}
use Rattle.dex_audit_rules.specs.Lists.{numbered}
use Rattle.dex_totals.specs.Reading.{is_opened}
use Rattle.dex_audit_rules.specs.Slots.{astray_in, homeless, homeless_in, misheld, misheld_in, or_else, repeated_in, ungiven_in, unheld, unpaired_in}
use Rattle.dex_audit.proofs.EventLaws.{events-held}
use Rattle.dex_audit.proofs.FundLaws.{differs-none, funds-agree, locks-fit, vault-is}
use Rattle.dex_audit_rules.proofs.ListLaws.{append-none, numbered-each, unless-none}
use Rattle.dex_audit.proofs.MarketForm.{IsAuditable, book-side, slots, well-formed}
use Rattle.dex_audit.proofs.SlotLaws.{or_else-none, rests-held, taken-ends, taken-given, taken-once, unheld_finding-none}
use Rattle.dex_audit.proofs.SmallLaws.{deposits-small, small}

-- an audit finds nothing in a market's accounts, by any rule
pub record IsClean (accounts : PlainMarketAccounts) : Type 0 where
  pub homeless : homeless_in (market_in accounts) ≡ []
  pub misheld : misheld_in (market_in accounts) ≡ []
  pub unpaired : unpaired_in (market_in accounts) ≡ []
  pub astray : astray_in (market_in accounts) ≡ []
  pub ungiven : ungiven_in (market_in accounts) ≡ []
  pub repeated : repeated_in (market_in accounts) ≡ []
  pub totals : totals_in (market_in accounts) ≡ []
  pub deposits : deposits_in accounts ≡ []
  pub vaults : vaults_in (market_in accounts) ≡ []
  pub rebates : rebates_in (market_in accounts) ≡ []
  pub beyond : beyond_in (market_in accounts) ≡ []
  pub too_large : too_large_in (market_in accounts) ≡ []

-- ---- slots

homes : (m : Market) → homeless_in m ≡ [] → (side : Side) → All (λ (order : Order). is_opened (trader_at order.owner m.traders) ≡ true) (orders side m)
homes m none Bid =
    numbered-each (homeless m.traders m.listing.bids) (λ (order : Order). is_opened (trader_at order.owner m.traders) ≡ true)
    (λ place order empty. unless-none (is_opened (trader_at order.owner m.traders)) _ empty) 0 m.bids
    (append-none (numbered (homeless m.traders m.listing.bids) 0 m.bids) (numbered (homeless m.traders m.listing.asks) 0 m.asks) none).0
homes m none Ask =
    numbered-each (homeless m.traders m.listing.asks) (λ (order : Order). is_opened (trader_at order.owner m.traders) ≡ true)
    (λ place order empty. unless-none (is_opened (trader_at order.owner m.traders)) _ empty) 0 m.asks
    (append-none (numbered (homeless m.traders m.listing.bids) 0 m.bids) (numbered (homeless m.traders m.listing.asks) 0 m.asks) none).1

side-good : (m : Market) (side : Side) (owner : Address) (slot : ℕ) (held : Option Holding) → misheld m.bids m.asks owner slot held ≡ [] → unheld owner slot held side (orders side m) ≡ None
side-good m Bid owner slot held none =
    (or_else-none (unheld owner slot held Bid m.bids) (unheld owner slot held Ask m.asks)
    (unheld_finding-none owner slot held (or_else (unheld owner slot held Bid m.bids) (unheld owner slot held Ask m.asks)) none)).0
side-good m Ask owner slot held none =
    (or_else-none (unheld owner slot held Bid m.bids) (unheld owner slot held Ask m.asks)
    (unheld_finding-none owner slot held (or_else (unheld owner slot held Bid m.bids) (unheld owner slot held Ask m.asks)) none)).1

module _ (accounts : PlainMarketAccounts) (can : IsAuditable accounts) (words : IsHeldMarket accounts) (clean : IsClean accounts) where
  resting : (side : Side) → All (λ (order : Order). held_at order.owner order.slot (market_in accounts).traders ≡ Some (order_holding side order)) (orders side (market_in accounts))
  resting side =
      rests-held (market_in accounts) (slots accounts can words) side (orders side (market_in accounts))
      (homes (market_in accounts) clean.homeless side)
      (λ k d lt. ((book-side accounts can words side).can_rest k d lt).slot)
      (λ owner slot held. side-good (market_in accounts) side owner slot held)
      clean.misheld

  slots-agree : SlotsAgree (market_in accounts)
  slots-agree = record {
    resting = resting;
    taken = taken-ends (market_in accounts) clean.unpaired;
    pending = events-held (market_in accounts) clean.astray;
    given = taken-given (market_in accounts) clean.ungiven;
    once = taken-once (market_in accounts) clean.repeated;
  }

  -- ---- funds

  fit : (side : Side) → All (λ (order : Order). order_lock side (market_in accounts).listing.sizes order < 2 ^ 64) (orders side (market_in accounts))
  fit Bid =
      let m : Market = market_in accounts in
      locks-fit Bid m.listing.sizes m.listing.bids m.bids
      (append-none (numbered (too_large Bid m.listing.sizes m.listing.bids) 0 m.bids) (numbered (too_large Ask m.listing.sizes m.listing.asks) 0 m.asks) clean.too_large).0
  fit Ask =
      let m : Market = market_in accounts in
      locks-fit Ask m.listing.sizes m.listing.asks m.asks
      (append-none (numbered (too_large Bid m.listing.sizes m.listing.bids) 0 m.bids) (numbered (too_large Ask m.listing.sizes m.listing.asks) 0 m.asks) clean.too_large).1

  sound : IsSound (market_in accounts)
  sound = record {
    form = well-formed accounts can words fit;
    slots = slots-agree;
    funds = funds-agree (market_in accounts) (small accounts can words) slots-agree.pending clean.totals clean.vaults clean.rebates clean.beyond;
  }

  -- ---- the words of the market account

  deposits-none : (token : Token) → deposits_off token (market_words accounts.market) (market_in accounts) ≡ []
  deposits-none Coin =
      (append-none (deposits_off Coin (market_words accounts.market) (market_in accounts)) (deposits_off Pc (market_words accounts.market) (market_in accounts)) clean.deposits).0
  deposits-none Pc =
      (append-none (deposits_off Coin (market_words accounts.market) (market_in accounts)) (deposits_off Pc (market_words accounts.market) (market_in accounts)) clean.deposits).1

  deposits-are : (token : Token) → deposits_word token (market_words accounts.market) ≡ vault token (market_in accounts) - earned token (market_in accounts)
  deposits-are token =
      let is : deposits_word token (market_words accounts.market) ≡ deposited token (market_in accounts) =
      differs-none 8 (market_in accounts).listing.address (by_token token 149 197) (deposits_word token (market_words accounts.market)) (deposited token (market_in accounts))
      (deposits-small accounts can words token) (deposits-none token) in
      omega (arith, is, vault-is (market_in accounts) (small accounts can words) clean.vaults token)

  flags-told : (flags : ℕ) → AreMarketFlags flags → cond (eqb flags 131) 131 3 ≡ flags
  flags-told flags (inl is) = rw is refl
  flags-told flags (inr is) = rw is refl

  words-by : (w : MarketWords) (own : Address) (flags coin pc : ℕ) → own ≡ w.terms.own_address → flags ≡ w.account_flags → coin ≡ w.coin_deposits_total → pc ≡ w.pc_deposits_total
      → (let made : MarketWords = record w { terms = record w.terms { own_address = own }; account_flags = flags; coin_deposits_total = coin; pc_deposits_total = pc } in made) ≡ w
  words-by w own flags coin pc o f c p = rw (o, f, c, p) refl

  words-are : market_words accounts.market ≡ words_of (market_in accounts)
  unfolding market_in
  words-are =
      sym (words-by (market_words accounts.market) accounts.address
      (cond (eqb (market_words accounts.market).account_flags 131) 131 3)
      (vault Coin (market_in accounts) - earned Coin (market_in accounts))
      (vault Pc (market_in accounts) - earned Pc (market_in accounts))
      (sym can.accepted.own_address)
      (flags-told (market_words accounts.market).account_flags can.accepted.market.flags)
      (sym (deposits-are Coin))
      (sym (deposits-are Pc)))

  wallet-by : (w : WalletWords) (mint : Address) → mint ≡ w.mint → (let made : WalletWords = record w { mint = mint } in made) ≡ w
  wallet-by w mint is = rw is refl

  vault-words : (token : Token) → by_token token (wallet_words accounts.coin_vault) (wallet_words accounts.pc_vault) ≡ vault_words token (market_in accounts)
  unfolding market_in
  vault-words Coin = sym (wallet-by (wallet_words accounts.coin_vault) (market_words accounts.market).terms.coin_mint (sym can.accepted.coin_mint))
  vault-words Pc = sym (wallet-by (wallet_words accounts.pc_vault) (market_words accounts.market).terms.pc_mint (sym can.accepted.pc_mint))

  -- ---- the accounts are the market's

  stands : StandsFor accounts (market_in accounts)
  unfolding market_in
  stands = record {
    address = refl;
    authority = refl;
    terms = record { accepted = can.accepted.market; words = words-are };
    coin_vault = record { accepted = can.accepted.coin_vault; words = vault-words Coin };
    pc_vault = record { accepted = can.accepted.pc_vault; words = vault-words Pc };
    requests = record { accepted = can.accepted.requests; next = refl };
    events = record { accepted = can.accepted.events; ring = refl };
    bids = record { accepted = can.accepted.bids; orders = refl; room = refl };
    asks = record { accepted = can.accepted.asks; orders = refl; room = refl };
    traders = record {
      each = λ k d lt. record { accepted = can.accepted.orders k d lt; stands = refl; on_market = λ is. can.accepted.named k d lt is.opened };
      stand = refl;
    };
  }

  pub are-sound : AreSound accounts
  are-sound = record { sound = sound; stands = stands }
