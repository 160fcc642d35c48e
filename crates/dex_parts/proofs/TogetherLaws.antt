-- Rows that act behind others leave what they leave by themselves, behind the journals of the others.
use Rattle.std.proofs.Common.{◌≡◌, ◌∙◌, Bool, cond, if◌then◌else◌, List, [], ◌∷◌, Option, Some, ap, append_assoc, map, refl, sym}
use Rattle.dex_world.proofs.Common.{Address, Entry, Market, MarketState, Movement, PlainRow, Seen, Transfers, WalletEntry, WalletSeen, WalletState, World, act_item, chosen, entry_by, fold, fold_items, is_same, map-id, market_acted, markets_acted, members, movement_of, names, row_step, wallet_acted, wallet_at, wallet_entry_by, wallet_moved}
use Rattle.dex_parts.proofs.Common.{Item, append-nil, market_at}
use Rattle.dex_parts.proofs.AlikeWorlds.{ActsAlike, cond-of, item-acts}
use Rattle.dex_parts.specs.Together.{bare_market, bare_wallet, bare_world, each_behind, market_behind, wallet_behind, world_behind}

-- ---- what a row finds

market-found : (address : Address) (before states : List MarketState) → market_at address (each_behind market_behind before states) ≡ market_at address states
market-found address (b ∷ before) (s ∷ states) =
    ap (λ (o : Option Market). if is_same address s.market.listing.address then Some s.market else o) (market-found address before states)
market-found address _ _ = refl

wallet-found : (address : Address) (before states : List WalletState) → wallet_at address (each_behind wallet_behind before states) ≡ wallet_at address states
wallet-found address (b ∷ before) (s ∷ states) =
    ap (λ (o : Option WalletSeen). if is_same address s.seen.address then Some s.seen else o) (wallet-found address before states)
wallet-found address _ _ = refl

-- ---- what it does

markets-act : (row : PlainRow) (seen : Seen) (before states : List MarketState)
    → markets_acted row seen (each_behind market_behind before states) ≡ each_behind market_behind before (markets_acted row seen states)
markets-act row seen (b ∷ before) (s ∷ states) =
    let here : Bool = is_same row.market s.market.listing.address in
    let step = row_step row seen s.market in
    let behind : List MarketState → List MarketState = each_behind market_behind before in
    ap (λ (entries : List Entry). cond here (record { market = step.market; entries = entries } ∷ behind states)
    (market_behind b s ∷ markets_acted row seen (behind states)))
    (append_assoc b.entries s.entries (entry_by row seen step.reply step.transfers ∷ []))
    ∙ ap (λ (others : List MarketState). cond here (market_behind b (market_acted row seen s) ∷ behind states) (market_behind b s ∷ others))
    (markets-act row seen before states)
    ∙ cond-of (each_behind market_behind (b ∷ before)) here (market_acted row seen s ∷ states) (s ∷ markets_acted row seen states)
markets-act row seen _ _ = refl

wallet-acts : (row : PlainRow) (seen : Seen) (t : Transfers) (b s : WalletState) → wallet_acted row seen t (wallet_behind b s) ≡ wallet_behind b (wallet_acted row seen t s)
wallet-acts row seen t b s =
    let move : Movement = movement_of seen t s.seen.address in
    let named : Bool = names row s.seen.address in
    ap (λ (entries : List WalletEntry). cond named (record { seen = (wallet_moved row move s).seen; entries = entries }) (wallet_behind b s))
    (append_assoc b.entries s.entries (wallet_entry_by row move ∷ []))
    ∙ cond-of (wallet_behind b) named (wallet_moved row move s) s

wallets-act : (row : PlainRow) (seen : Seen) (t : Transfers) (before states : List WalletState)
    → map (wallet_acted row seen t) (each_behind wallet_behind before states) ≡ each_behind wallet_behind before (map (wallet_acted row seen t) states)
wallets-act row seen t (b ∷ before) (s ∷ states) = λ i. wallet-acts row seen t b s i ∷ wallets-act row seen t before states i
wallets-act row seen t _ _ = refl

-- ---- items

module _ (before : World) where
  abbrev behind_markets : List MarketState → List MarketState
  behind_markets = each_behind market_behind before.markets

  abbrev behind_wallets : List WalletState → List WalletState
  behind_wallets = each_behind wallet_behind before.wallets

  acts-alike : (row : PlainRow) → ActsAlike (λ number. number) behind_markets behind_wallets row
  acts-alike row = record {
    market = market-found row.market before.markets;
    wallet = λ address named. wallet-found address before.wallets;
    markets = λ seen states. markets-act row seen before.markets states;
    wallets = λ seen t states. wallets-act row seen t before.wallets states;
  }

  pub items-act : (items : List Item) (world : World) → fold_items items (world_behind before world) ≡ world_behind before (fold_items items world)
  items-act [] world = refl
  items-act (item ∷ items) world =
      ap (λ (rows : List PlainRow). fold_items items (fold (chosen (world_behind before world) rows) (world_behind before world))) (sym (map-id (members item)))
      ∙ ap (fold_items items)
      (item-acts (λ number. number) behind_markets behind_wallets (λ row. Unit {0}) (λ row all. acts-alike row) (λ row all. tt) item world (λ k d within. tt))
      ∙ items-act items (act_item item world)

-- ---- behind its own journals a world is as it was

markets-bare : (states : List MarketState) → each_behind market_behind states (map bare_market states) ≡ states
markets-bare [] = refl
markets-bare (s ∷ states) = λ i. record { market = s.market; entries = append-nil s.entries i } ∷ markets-bare states i

wallets-bare : (states : List WalletState) → each_behind wallet_behind states (map bare_wallet states) ≡ states
wallets-bare [] = refl
wallets-bare (s ∷ states) = λ i. record { seen = s.seen; entries = append-nil s.entries i } ∷ wallets-bare states i

pub world-bare : (world : World) → world_behind world (bare_world world) ≡ world
world-bare world = λ i. record world { markets = markets-bare world.markets i; wallets = wallets-bare world.wallets i }

-- items that act behind others
pub behind-others : (items : List Item) (world : World) → fold_items items world ≡ world_behind world (fold_items items (bare_world world))
behind-others items world = ap (fold_items items) (sym (world-bare world)) ∙ items-act world items (bare_world world)
