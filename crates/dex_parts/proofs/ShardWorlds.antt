-- Items that act in a whole world act in the world of one shard as its own items do.
use Rattle.std.proofs.Common.{◌≡◌, ◌==◌, ℕ, Bool, true, false, cond, List, [], ◌∷◌, Option, Some, None, map, refl, sym, ap, ◌∙◌, ⊎_elim}
use Rattle.dex_world.proofs.Common.{Address, All-head, All-tail, All-weaker, Listing, Market, MarketState, PlainRow, Seen, Transfers, WalletState, World, act, act_item, acted, cases_Bool, chosen, cond-false, cond-true, cond_both, filter, fold, fold_items, idle_row, is_same, is_same-true, map-id, market_acted, markets_acted, members, movement_of, names, request_of, row_step, seen_by, step-keeps, wallet_acted, wallet_at, wallet_moved}
use Rattle.dex_parts.proofs.Common.{All, Item, both_ways, filter-of, market_at}
use Rattle.std.proofs.lemmas.List.Elements.{filter_agree}
use Rattle.dex_parts.proofs.AlikeWorlds.{ActsAlike, chosen-all, item-acts}
use Rattle.dex_parts.specs.Shards.{IsItemOfOneShard, IsOfOneShard, Sharding, has_market, has_wallet, items_in, world_in}

module _ (sharding : Sharding) (shard : ℕ) where
  abbrev own_market : Address → Bool
  own_market address = has_market sharding shard address

  abbrev own_wallet : Address → Bool
  own_wallet address = has_wallet sharding shard address

  -- a market, a wallet and a row are of the shard
  abbrev pub is_market_in : MarketState → Bool
  is_market_in state = own_market state.market.listing.address

  abbrev pub is_wallet_in : WalletState → Bool
  is_wallet_in state = own_wallet state.seen.address

  abbrev is_in : PlainRow → Bool
  is_in row = own_market row.market

  -- two addresses of which one is of the shard are two
  other-address : (mine : Address → Bool) (address here : Address) → mine address ≡ true → mine here ≡ false → is_same address here ≡ false
  other-address mine address here own away =
      ⊎_elim
      (λ (same : is_same address here ≡ true). absurd (both_ways (mine here) away (ap mine (sym (is_same-true address here same)) ∙ own)))
      (λ (apart : is_same address here ≡ false). apart)
      (cases_Bool (is_same address here))

  -- ---- what is found in the shard is what is found

  market-found : (address : Address) → own_market address ≡ true → (states : List MarketState) → market_at address (filter is_market_in states) ≡ market_at address states
  market-found address own [] = refl
  market-found address own (state ∷ states) =
      let here : Address = state.market.listing.address in
      cond_both (own_market here) (state ∷ filter is_market_in states) (filter is_market_in states)
      (λ (all : List MarketState). market_at address all ≡ market_at address (state ∷ states))
      (λ mine. ap (cond (is_same address here) (Some state.market)) (market-found address own states))
      (λ away.
      market-found address own states
      ∙ sym (cond-false (is_same address here) (Some state.market) (market_at address states) (other-address own_market address here own away)))

  wallet-found : (address : Address) → own_wallet address ≡ true → (states : List WalletState) → wallet_at address (filter is_wallet_in states) ≡ wallet_at address states
  wallet-found address own [] = refl
  wallet-found address own (state ∷ states) =
      let here : Address = state.seen.address in
      cond_both (own_wallet here) (state ∷ filter is_wallet_in states) (filter is_wallet_in states)
      (λ (all : List WalletState). wallet_at address all ≡ wallet_at address (state ∷ states))
      (λ mine. ap (cond (is_same address here) (Some state.seen)) (wallet-found address own states))
      (λ away.
      wallet-found address own states
      ∙ sym (cond-false (is_same address here) (Some state.seen) (wallet_at address states) (other-address own_wallet address here own away)))

  -- ---- the addresses stay

  market-stays : (row : PlainRow) (seen : Seen) (state : MarketState) → is_market_in (market_acted row seen state) ≡ is_market_in state
  market-stays row seen state = ap (λ (listing : Listing). own_market listing.address) (step-keeps (request_of row) seen state.market).listing

  wallet-stays : (row : PlainRow) (seen : Seen) (t : Transfers) (state : WalletState) → is_wallet_in (wallet_acted row seen t state) ≡ is_wallet_in state
  wallet-stays row seen t state =
      cond_both (names row state.seen.address) (wallet_moved row (movement_of seen t state.seen.address) state) state
      (λ (one : WalletState). is_wallet_in one ≡ is_wallet_in state) (λ named. refl) (λ apart. refl)

  wallets-stay : (row : PlainRow) (seen : Seen) (t : Transfers) (states : List WalletState)
      → map (wallet_acted row seen t) (filter is_wallet_in states) ≡ filter is_wallet_in (map (wallet_acted row seen t) states)
  wallets-stay row seen t states =
      ap (map (wallet_acted row seen t))
      (sym (filter_agree (λ (state : WalletState). is_wallet_in (wallet_acted row seen t state)) is_wallet_in (wallet-stays row seen t) states))
      ∙ filter-of (wallet_acted row seen t) is_wallet_in states

  -- ---- a row whose wallets are of its market's shard

  module _ (row : PlainRow) (is_one : IsOfOneShard sharding row) where
    wallet-as-market : (wallet : Address) → names row wallet ≡ true → own_wallet wallet ≡ is_in row
    wallet-as-market wallet named = ap (λ (n : ℕ). n == shard) (is_one wallet named)

    -- ---- of the shard

    module _ (own : is_in row ≡ true) where
      markets-act : (seen : Seen) (states : List MarketState) → markets_acted row seen (filter is_market_in states) ≡ filter is_market_in (markets_acted row seen states)
      markets-act seen [] = refl
      markets-act seen (state ∷ states) =
          let here : Address = state.market.listing.address in
          let kept : List MarketState = filter is_market_in states in
          let step : MarketState = market_acted row seen state in
          let rest : List MarketState = markets_acted row seen states in
          cond_both (is_same row.market here) (step ∷ states) (state ∷ rest)
          (λ (all : List MarketState). markets_acted row seen (cond (is_market_in state) (state ∷ kept) kept) ≡ filter is_market_in all)
          (λ same.
          let mine : is_market_in state ≡ true = ap own_market (sym (is_same-true row.market here same)) ∙ own in
          ap (markets_acted row seen) (cond-true (is_market_in state) (state ∷ kept) kept mine)
          ∙ cond-true (is_same row.market here) (step ∷ kept) (state ∷ markets_acted row seen kept) same
          ∙ sym (cond-true (is_market_in step) (step ∷ kept) kept (market-stays row seen state ∙ mine)))
          (λ apart.
          cond_both (is_market_in state) (state ∷ kept) kept
          (λ (all : List MarketState). markets_acted row seen all ≡ filter is_market_in (state ∷ rest))
          (λ mine.
          cond-false (is_same row.market here) (step ∷ kept) (state ∷ markets_acted row seen kept) apart
          ∙ ap (λ (others : List MarketState). state ∷ others) (markets-act seen states)
          ∙ sym (cond-true (is_market_in state) (state ∷ filter is_market_in rest) (filter is_market_in rest) mine))
          (λ away.
          markets-act seen states
          ∙ sym (cond-false (is_market_in state) (state ∷ filter is_market_in rest) (filter is_market_in rest) away)))

      acts-alike : ActsAlike (λ number. number) (filter is_market_in) (filter is_wallet_in) row
      acts-alike = record {
        market = market-found row.market own;
        wallet = λ address named. wallet-found address (wallet-as-market address named ∙ own);
        markets = markets-act;
        wallets = wallets-stay row;
      }

    -- ---- of another shard

    module _ (away : is_in row ≡ false) where
      markets-left : (seen : Seen) (states : List MarketState) → filter is_market_in (markets_acted row seen states) ≡ filter is_market_in states
      markets-left seen [] = refl
      markets-left seen (state ∷ states) =
          let here : Address = state.market.listing.address in
          let kept : List MarketState = filter is_market_in states in
          let step : MarketState = market_acted row seen state in
          cond_both (is_same row.market here) (step ∷ states) (state ∷ markets_acted row seen states)
          (λ (all : List MarketState). filter is_market_in all ≡ filter is_market_in (state ∷ states))
          (λ same.
          let out : is_market_in state ≡ false = ap own_market (sym (is_same-true row.market here same)) ∙ away in
          cond-false (is_market_in step) (step ∷ kept) kept (market-stays row seen state ∙ out) ∙ sym (cond-false (is_market_in state) (state ∷ kept) kept out))
          (λ apart. ap (λ (rest : List MarketState). cond (is_market_in state) (state ∷ rest) rest) (markets-left seen states))

      wallets-left : (seen : Seen) (t : Transfers) (states : List WalletState) → filter is_wallet_in (map (wallet_acted row seen t) states) ≡ filter is_wallet_in states
      wallets-left seen t [] = refl
      wallets-left seen t (state ∷ states) =
          let here : Address = state.seen.address in
          let kept : List WalletState = filter is_wallet_in states in
          let rest : List WalletState = filter is_wallet_in (map (wallet_acted row seen t) states) in
          let moved : WalletState = wallet_moved row (movement_of seen t here) state in
          cond_both (names row here) moved state (λ (one : WalletState). cond (is_wallet_in one) (one ∷ rest) rest ≡ cond (is_wallet_in state) (state ∷ kept) kept)
          (λ named.
          let out : is_wallet_in state ≡ false = wallet-as-market here named ∙ away in
          cond-false (is_wallet_in state) (moved ∷ rest) rest out ∙ wallets-left seen t states ∙ sym (cond-false (is_wallet_in state) (state ∷ kept) kept out))
          (λ apart. ap (λ (some : List WalletState). cond (is_wallet_in state) (state ∷ some) some) (wallets-left seen t states))

      row-away : (world : World) → world_in sharding shard (act row world) ≡ world_in sharding shard world
      row-away world = by-market (market_at row.market world.markets)
        where
          by-market : (o : Option Market) → world_in sharding shard (acted row o world) ≡ world_in sharding shard world
          by-market None = refl
          by-market (Some m) =
              let seen : Seen = seen_by row world in
              λ i. record world {
                markets = markets-left seen world.markets i;
                wallets = wallets-left seen (row_step row seen m).transfers world.wallets i;
              }

  -- ---- the rows of an item

  -- rows of one shard, each with its wallets: of this one, or of another
  record IsAs (b : Bool) (row : PlainRow) : Type 0 where
    one : IsOfOneShard sharding row
    lies : is_in row ≡ b

  abbrev IsAway : PlainRow → Type 0
  IsAway row = IsAs false row

  -- so it is with nothing to do
  idle-as : (b : Bool) (row : PlainRow) → IsAs b row → IsAs b (idle_row row)
  idle-as b row is = record { one = is.one; lies = is.lies }

  rows-away : (rows : List PlainRow) (world : World) → All IsAway rows → world_in sharding shard (fold rows world) ≡ world_in sharding shard world
  rows-away [] world away = refl
  rows-away (row ∷ rows) world away =
      let here : IsAway row = All-head IsAway row rows away in
      rows-away rows (act row world) (All-tail IsAway row rows away) ∙ row-away row here.one here.lies world

  -- ---- items

  rows-as : (item : Item) (b : Bool) → IsItemOfOneShard sharding item → own_market item.first.market ≡ b → All (IsAs b) (members item)
  rows-as item b is lies =
      All-weaker (λ (row : PlainRow). IsOfOneShard sharding row × (sharding.market row.market ≡ sharding.market item.first.market)) (IsAs b)
      (λ row both. record { one = both.0; lies = ap (λ (n : ℕ). n == shard) both.1 ∙ lies }) (members item) is

  item-own : (item : Item) (world : World) → All (IsAs true) (members item)
      → act_item item (world_in sharding shard world) ≡ world_in sharding shard (act_item item world)
  item-own item world own =
      ap (λ (rows : List PlainRow). fold (chosen (world_in sharding shard world) rows) (world_in sharding shard world)) (sym (map-id (members item)))
      ∙ item-acts (λ number. number) (filter is_market_in) (filter is_wallet_in) (IsAs true) (λ row is. acts-alike row is.one is.lies)
      (idle-as true) item world own

  item-away : (item : Item) (world : World) → All IsAway (members item) → world_in sharding shard (act_item item world) ≡ world_in sharding shard world
  item-away item world away = rows-away (chosen world (members item)) world (chosen-all IsAway (idle-as false) world (members item) away)

  pub items-act : (items : List Item) (world : World) → All (IsItemOfOneShard sharding) items
      → fold_items (items_in sharding shard items) (world_in sharding shard world) ≡ world_in sharding shard (fold_items items world)
  items-act [] world are = refl
  items-act (item ∷ items) world are =
      let is : IsItemOfOneShard sharding item = All-head (IsItemOfOneShard sharding) item items are in
      let rest : fold_items (items_in sharding shard items) (world_in sharding shard (act_item item world)) ≡ world_in sharding shard (fold_items items (act_item item world)) =
      items-act items (act_item item world) (All-tail (IsItemOfOneShard sharding) item items are) in
      cond_both (own_market item.first.market) (item ∷ items_in sharding shard items) (items_in sharding shard items)
      (λ (some : List Item). fold_items some (world_in sharding shard world) ≡ world_in sharding shard (fold_items items (act_item item world)))
      (λ own. ap (fold_items (items_in sharding shard items)) (item-own item world (rows-as item true is own)) ∙ rest)
      (λ away. ap (fold_items (items_in sharding shard items)) (sym (item-away item world (rows-as item false is away))) ∙ rest)
