-- What the fields of shared markets and wallets stand for.
use Rattle.std.specs.Prelude.{ℕ, List, map}
use Rattle.dex_stamps.specs.declared.stamp.Stamp.{Stamp}
use Rattle.dex_journals.specs.declared.market.BankMarket.TheInside as market
use Rattle.dex_journals.specs.declared.wallet.BankWallet.TheInside as wallet
use Rattle.dex_journals.specs.declared.wallet.WalletTrail.TheInside as trail
use Rattle.dex_journals.specs.Journals.{BankMarketState, BankWalletState, TrailState}
use Rattle.dex_journals.specs.Journals.{IsBankMarket, IsBankWallet, left_by}

-- the numbers that a log of stamps has
abbrev pub numbers_in : List (Stamp × Unit {0}) → List ℕ
numbers_in pairs = map (λ (pair : Stamp × Unit {0}). pair.0.number) pairs

-- the shared market that its fields stand for
abbrev pub market_inside : market.Inside → BankMarketState
market_inside inside = record {
  cell = inside.cell.value;
  stamps = numbers_in inside.stamps.items;
  last = inside.last.number;
  script = inside.script.value;
}

-- what always holds of a shared market holds of the fields
abbrev pub IsMarketKept : market.Inside → Type 0
IsMarketKept inside = IsBankMarket (market_inside inside)

-- the shared wallet that its fields stand for
abbrev pub wallet_inside : wallet.Inside → BankWalletState
wallet_inside inside = record {
  cell = inside.cell;
  stamps = numbers_in inside.stamps.items;
  last = inside.last.number;
  script = inside.script.value;
}

-- what always holds of a shared wallet holds of the fields
abbrev pub IsWalletKept : wallet.Inside → Type 0
IsWalletKept inside = IsBankWallet (wallet_inside inside)

-- what stays of a wallet without its cell, by the fields
abbrev pub trail_inside : trail.Inside → TrailState
trail_inside inside = record {
  before = inside.before.value;
  stamps = numbers_in inside.stamps.items;
  last = inside.last.number;
  script = inside.script.value;
}

-- before its cell was taken out, the wallet was as `IsBankWallet` says
abbrev pub IsTrailKept : trail.Inside → Type 0
IsTrailKept inside = IsBankWallet (left_by (trail_inside inside))
