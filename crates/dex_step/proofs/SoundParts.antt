-- The parts of a sound market's accounts, by its sides.
use Rattle.std.proofs.Common.{◌≡◌, ℕ, ◌+◌, ◌<◌, ◌^◌, List, refl, sym, ap, subst, arith}
use Rattle.dex_types.specs.declared.addresses.Address.{Address}
use Rattle.dex_types.specs.declared.orders.Order.{Order}
use Rattle.dex_types.specs.declared.terms.Side.{Side}
use Rattle.dex_types.specs.declared.terms.Side.TheVariants.{Bid, Ask}
use Rattle.dex_types.specs.Accounts.{PlainAccount, PlainMarketAccounts}
use Rattle.dex_types.specs.Market.{Market}
use Rattle.dex_types.specs.Side.{Coin, Pc, opposite}
use Rattle.dex_types.specs.Solvency.{all_leaving}
use Rattle.dex_types.specs.Soundness.{IsSound}
use Rattle.dex_slab.specs.StandsFor.{IsSideAccount}
use Rattle.dex_token.specs.TokenAccount.{IsWallet, WalletWords, wallet_words}
use Rattle.dex_accounts.specs.Decoded.{AreSound, market_in}
use Rattle.dex_accounts.specs.Parts.{AreOf, AreSoundParts, MarketParts, parts_of}
use Rattle.dex_step.specs.Acting.{HaveVaults, Holds, KeepNames, bytes_on, coin_held, pc_held}

-- parts, one by one, and two that are the same
abbrev parts_by : List ℕ → List ℕ → List ℕ → List Order → ℕ → List Order → ℕ → List PlainAccount → MarketParts
parts_by market requests events bids bid_room asks ask_room accounts = record {
  market = market;
  requests = requests;
  events = events;
  bids = bids;
  bid_room = bid_room;
  asks = asks;
  ask_room = ask_room;
  accounts = accounts;
}

pub same-parts : (market market' requests requests' events events' : List ℕ) (bids bids' : List Order) (bid_room bid_room' : ℕ) (asks asks' : List Order) (ask_room ask_room' : ℕ)
    (accounts accounts' : List PlainAccount) → market ≡ market' → requests ≡ requests' → events ≡ events' → bids ≡ bids' → bid_room ≡ bid_room' → asks ≡ asks'
    → ask_room ≡ ask_room' → accounts ≡ accounts'
    → parts_by market requests events bids bid_room asks ask_room accounts ≡ parts_by market' requests' events' bids' bid_room' asks' ask_room' accounts'
same-parts market market' requests requests' events events' bids bids' bid_room bid_room' asks asks' ask_room ask_room' accounts accounts' a b c d e f g h = rw (a, b, c, d, e, f, g, h) refl

-- the two sides, by the one of an order
pub both-sides : (side : Side) (accounts : PlainMarketAccounts) → IsSideAccount side (bytes_on side accounts) → IsSideAccount (opposite side) (bytes_on (opposite side) accounts)
    → IsSideAccount Bid accounts.bids × IsSideAccount Ask accounts.asks
both-sides Bid accounts own met = (own, met)
both-sides Ask accounts own met = (met, own)

-- where accounts are as they were, their names are
pub names-same : (market : Address) (before after : List PlainAccount) → after ≡ before → KeepNames market before after
names-same market before after same = subst (KeepNames market before) (sym same) (record { addresses = refl; named = λ all. all })

-- a vault that is as it was holds what it held
pub held-same : (before after : List ℕ) → IsWallet before → after ≡ before → Holds before after (wallet_words before).amount
held-same before after accepted same =
    subst (λ (b : List ℕ). Holds before b (wallet_words before).amount) (sym same) (record { accepted = accepted; words = refl })

pub vaults-kept : (before after : PlainMarketAccounts) → AreSound before → after.address ≡ before.address → after.authority ≡ before.authority
    → after.coin_vault ≡ before.coin_vault → after.pc_vault ≡ before.pc_vault → HaveVaults before after (coin_held before) (pc_held before)
vaults-kept before after sound address authority coin pc = record {
  address = address;
  authority = authority;
  coin_vault = held-same before.coin_vault after.coin_vault sound.stands.coin_vault.accepted coin;
  pc_vault = held-same before.pc_vault after.pc_vault sound.stands.pc_vault.accepted pc;
}

module _ (accounts : PlainMarketAccounts) (sound : AreSound accounts) where
  pub sound-on : (side : Side) → IsSideAccount side (bytes_on side accounts)
  sound-on Bid = sound.stands.bids.accepted
  sound-on Ask = sound.stands.asks.accepted

  pub sound-are : AreOf (parts_of accounts) (market_in accounts)
  sound-are = record {
    market = sound.stands.terms;
    requests = sound.stands.requests;
    events = sound.stands.events;
    bids = sound.stands.bids.orders;
    bid_room = sound.stands.bids.room;
    asks = sound.stands.asks.orders;
    ask_room = sound.stands.asks.room;
    traders = sound.stands.traders;
  }

  pub sound-parts : AreSoundParts (parts_of accounts)
  sound-parts = record { market = market_in accounts; sound = sound.sound; are = sound-are }

  -- the vaults hold what the market says
  pub coin-held : coin_held accounts ≡ (market_in accounts).coin_vault
  coin-held = ap (λ (w : WalletWords). w.amount) sound.stands.coin_vault.words

  pub pc-held : pc_held accounts ≡ (market_in accounts).pc_vault
  pc-held = ap (λ (w : WalletWords). w.amount) sound.stands.pc_vault.words

-- the vaults of a sound market hold less than 2^64
pub coin-fits : (m : Market) → IsSound m → m.coin_vault < 2 ^ 64
coin-fits m sound =
    let bound : m.coin_vault + all_leaving Coin m.events < 2 ^ 64 = sound.funds.bounded Coin in
    omega (arith, bound)

pub pc-fits : (m : Market) → IsSound m → m.pc_vault < 2 ^ 64
pc-fits m sound =
    let bound : m.pc_vault + all_leaving Pc m.events < 2 ^ 64 = sound.funds.bounded Pc in
    omega (arith, bound)
