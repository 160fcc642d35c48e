-- Worlds behind others: the same markets and wallets, with journals that go on.
use Rattle.std.specs.Prelude.{List, [], ◌∷◌, ◌++◌, map}
use Rattle.dex_world.specs.World.{MarketState, WalletState, World}

-- a market, with its journal behind that of an earlier time
abbrev pub market_behind : MarketState → MarketState → MarketState
market_behind before state = record { market = state.market; entries = before.entries ++ state.entries }

-- a wallet, likewise
abbrev pub wallet_behind : WalletState → WalletState → WalletState
wallet_behind before state = record { seen = state.seen; entries = before.entries ++ state.entries }

-- each of a list, likewise
abbrev pub each_behind : {A : Type 0} → (A → A → A) → List A → List A → List A
each_behind behind [] ys = ys
each_behind behind (x ∷ xs) [] = []
each_behind behind (x ∷ xs) (y ∷ ys) = behind x y ∷ each_behind behind xs ys

-- a world, likewise
abbrev pub world_behind : World → World → World
world_behind before world = record world {
  markets = each_behind market_behind before.markets world.markets;
  wallets = each_behind wallet_behind before.wallets world.wallets;
}

-- without its journal
abbrev pub bare_market : MarketState → MarketState
bare_market state = record { market = state.market; entries = [] }

abbrev pub bare_wallet : WalletState → WalletState
bare_wallet state = record { seen = state.seen; entries = [] }

-- a world without its journals
abbrev pub bare_world : World → World
bare_world world = record world { markets = map bare_market world.markets; wallets = map bare_wallet world.wallets }
