-- What migrating keeps: accounts that were accepted are accepted again, and each market stands for the same market with
-- other capacities.
use Rattle.std.proofs.Common.{◌≡◌, ◌≤◌, ◌+◌, ◌∷◌, ◌++◌, ◌∙◌, [], ℕ, suc, List, All, arith, refl, sym, ap, subst, length, map}
use Rattle.std.specs.List.{AllZip, flat_map}
use Rattle.std.proofs.lemmas.List.Elements.{All-cons, All-head, All-nil, All-tail}
use Rattle.dex_types.specs.declared.addresses.Address.{Address}
use Rattle.dex_types.specs.declared.orders.Order.{Order}
use Rattle.dex_types.specs.declared.terms.Side.{Side}
use Rattle.dex_types.specs.declared.terms.Side.TheVariants.{Bid, Ask}
use Rattle.dex_types.specs.Accounts.{PlainAccount, PlainAccounts, PlainMarketAccounts}
use Rattle.dex_types.specs.Market.{Market}
use Rattle.dex_types.specs.Side.{by_side}
use Rattle.dex_types.specs.Soundness.{IsSound}
use Rattle.dex_accounts.specs.Accepted.{IsAccepted}
use Rattle.dex_ring.specs.Ring.{Ring}
use Rattle.dex_accounts.specs.StandsFor.{StandsFor}
use Rattle.dex_state.specs.Addresses.{address_of, addresses_of, all_of_market, times}
use Rattle.dex_types.specs.declared.limits.Limits.{Limits}
use Rattle.dex_state.specs.Accepted.{AreAccepted, HasFew, HasMints}
use Rattle.dex_slab.specs.Nodes.{room_of}
use Rattle.dex_migrate.specs.Migrated.{AreMigrated, IsMigrated, with_capacities}
use Rattle.dex_migrate.specs.TooSmall.{Fits}

module _ (nodes events : ℕ) where
  -- a market with its own sides and its own queue
  abbrev with_old : PlainMarketAccounts → PlainMarketAccounts → PlainMarketAccounts
  with_old old new = record new { bids = old.bids; asks = old.asks; events = old.events }

  market-accepted : (old new : PlainMarketAccounts) → IsMigrated nodes events old new → IsAccepted old → IsAccepted new
  market-accepted old new is accepted =
      let kept : IsAccepted (with_old old new) = subst IsAccepted (sym is.others) accepted in
      record {
        market = kept.market;
        requests = kept.requests;
        events = is.queue.account;
        bids = is.bids.account;
        asks = is.asks.account;
        coin_vault = kept.coin_vault;
        pc_vault = kept.pc_vault;
        orders = kept.orders;
        own_address = kept.own_address;
        coin_mint = kept.coin_mint;
        pc_mint = kept.pc_mint;
        named = kept.named;
      }

  -- what migrating keeps of one market it keeps of all
  each-migrated : (P Q : PlainMarketAccounts → Type 0) → ((old new : PlainMarketAccounts) → IsMigrated nodes events old new → P old → Q new)
      → (olds news : List PlainMarketAccounts) → AllZip (IsMigrated nodes events) olds news → All P olds → All Q news
  each-migrated P Q keeps [] [] are all = All-nil Q
  each-migrated P Q keeps [] (new ∷ news) are all = absurd are
  each-migrated P Q keeps (old ∷ olds) [] are all = absurd are
  each-migrated P Q keeps (old ∷ olds) (new ∷ news) are all =
      All-cons Q new news (keeps old new are.0 (All-head P old olds all)) (each-migrated P Q keeps olds news are.1 (All-tail P old olds all))

  addresses-same : (olds news : List PlainMarketAccounts) → AllZip (IsMigrated nodes events) olds news
      → flat_map all_of_market news ≡ flat_map all_of_market olds
  addresses-same [] [] are = refl
  addresses-same [] (new ∷ news) are = absurd are
  addresses-same (old ∷ olds) [] are = absurd are
  addresses-same (old ∷ olds) (new ∷ news) are =
      ap (λ (addresses : List Address). addresses ++ flat_map all_of_market news) (ap all_of_market are.0.others)
      ∙ ap (λ (addresses : List Address). all_of_market old ++ addresses) (addresses-same olds news are.1)

  many-same : (olds news : List PlainMarketAccounts) → AllZip (IsMigrated nodes events) olds news → length news ≡ length olds
  many-same [] [] are = refl
  many-same [] (new ∷ news) are = absurd are
  many-same (old ∷ olds) [] are = absurd are
  many-same (old ∷ olds) (new ∷ news) are = ap suc (many-same olds news are.1)

  pub migrated-accepted : (limits : Limits) (old new : PlainAccounts) → AreMigrated nodes events old new → AreAccepted limits old → AreAccepted limits new
  migrated-accepted limits old new are accepted =
      let kept : AreAccepted limits (record new { markets = old.markets }) = subst (AreAccepted limits) (sym are.others) accepted in
      let here : PlainAccounts = record new { markets = old.markets } in
      record {
        mints = kept.mints;
        wallets = kept.wallets;
        markets = each-migrated IsAccepted IsAccepted market-accepted old.markets new.markets are.markets kept.markets;
        wallet_mints = kept.wallet_mints;
        market_mints = each-migrated (HasMints here) (HasMints new) (λ before after is has.
            let moved : HasMints here (with_old before after) = subst (HasMints here) (sym is.others) has in
            record { coin = moved.coin; pc = moved.pc }) old.markets new.markets are.markets kept.market_mints;
        once = λ address.
            let same : times address (addresses_of new) ≡ times address (addresses_of here) =
            ap (λ (of_markets : List Address). times address (map address_of new.mints ++ (map address_of new.wallets ++ of_markets)))
            (addresses-same old.markets new.markets are.markets) in
            subst (λ (n : ℕ). n ≤ 1) (sym same) (kept.once address);
        srm = kept.srm;
        msrm = kept.msrm;
        apart = kept.apart;
        within = kept.within;
        few_mints = kept.few_mints;
        few_wallets = kept.few_wallets;
        few_markets = subst (λ (n : ℕ). n ≤ limits.markets) (sym (many-same old.markets new.markets are.markets)) kept.few_markets;
        few_orders = each-migrated (HasFew limits) (HasFew limits) (λ before after is few.
            subst (λ (m : PlainMarketAccounts). HasFew limits m) (sym is.others) few) old.markets new.markets are.markets kept.few_orders;
      }

  -- the market that a market's accounts stand for afterwards
  pub migrated-stands : (old new : PlainMarketAccounts) (market : Market) → IsMigrated nodes events old new → StandsFor old market
      → StandsFor new (with_capacities nodes events market)
  migrated-stands old new market is stands =
      let kept : StandsFor (with_old old new) market = subst (λ (accounts : PlainMarketAccounts). StandsFor accounts market) (sym is.others) stands in
      record {
        address = kept.address;
        authority = kept.authority;
        terms = record { accepted = kept.terms.accepted; words = kept.terms.words };
        coin_vault = record { accepted = kept.coin_vault.accepted; words = kept.coin_vault.words };
        pc_vault = record { accepted = kept.pc_vault.accepted; words = kept.pc_vault.words };
        requests = record { accepted = kept.requests.accepted; next = kept.requests.next };
        events = record { accepted = is.queue.account; ring = is.queue.ring ∙ ap (λ (ring : Ring). record ring { capacity = events }) stands.events.ring };
        bids = record { accepted = is.bids.account; orders = is.bids.orders ∙ stands.bids.orders; room = is.bids.room };
        asks = record { accepted = is.asks.account; orders = is.asks.orders ∙ stands.asks.orders; room = is.asks.room };
        traders = kept.traders;
      }

  side-room : 1 ≤ nodes → (side : Side) → 1 ≤ by_side side (room_of nodes) (room_of nodes)
  side-room some Bid = omega arith
  side-room some Ask = omega arith

  side-within : (bids asks : List Order) → length bids ≤ room_of nodes → length asks ≤ room_of nodes → (side : Side)
      → length (by_side side bids asks) ≤ by_side side (room_of nodes) (room_of nodes)
  side-within bids asks few_bids few_asks Bid = few_bids
  side-within bids asks few_bids few_asks Ask = few_asks

  -- which is sound, as all fits
  pub migrated-sound : (old : PlainMarketAccounts) (market : Market) → 1 ≤ nodes → Fits nodes events old → StandsFor old market → IsSound market
      → IsSound (with_capacities nodes events market)
  migrated-sound old market some fits stands is =
      let bids : length market.bids ≤ room_of nodes = subst (λ (orders : List Order). length orders ≤ room_of nodes) stands.bids.orders fits.bids in
      let asks : length market.asks ≤ room_of nodes = subst (λ (orders : List Order). length orders ≤ room_of nodes) stands.asks.orders fits.asks in
      let pending : length market.events ≤ events = subst (λ (ring : Ring). length ring.events ≤ events) stands.events.ring fits.pending in
      record {
        form = record {
          mints = is.form.mints;
          coin_lot = is.form.coin_lot;
          pc_lot = is.form.pc_lot;
          room = side-room some;
          in_order = is.form.in_order;
          proper = is.form.proper;
          within = side-within market.bids market.asks bids asks;
          events_within = pending;
          tiers = is.form.tiers;
          sequence = is.form.sequence;
          counted = is.form.counted;
          distinct = is.form.distinct;
          slots = is.form.slots;
        };
        slots = record {
          resting = is.slots.resting;
          taken = is.slots.taken;
          pending = is.slots.pending;
          given = is.slots.given;
          once = is.slots.once;
        };
        funds = record {
          solvent = record { vaults = is.funds.solvent.vaults; referrers = is.funds.solvent.referrers };
          adds_up = is.funds.adds_up;
          bounded = is.funds.bounded;
        };
      }
