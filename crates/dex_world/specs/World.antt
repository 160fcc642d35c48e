-- The world that rows act on: all markets and all wallets of an exchange, with their journals.
use Rattle.std.specs.Prelude.{List, [], ◌∷◌, map, Option, Some, None, if◌then◌else◌}
use Rattle.dex_types.specs.declared.addresses.Address.{Address}
use Rattle.dex_types.specs.declared.movements.Entry.{Entry}
use Rattle.dex_types.specs.declared.movements.WalletEntry.{WalletEntry}
use Rattle.dex_types.specs.declared.rows.Seen.{Seen}
use Rattle.dex_types.specs.declared.rows.WalletSeen.{WalletSeen}
use Rattle.dex_types.specs.declared.terms.Program.{Program}
use Rattle.dex_types.specs.Addresses.{is_same}
use Rattle.dex_types.specs.Market.{Market}
use Rattle.dex_types.specs.Rows.{PlainRow}

-- a market, and its journal
pub record MarketState : Type 0 where
  pub market : Market
  pub entries : List Entry

-- a wallet as a row would see it, and its journal
pub record WalletState : Type 0 where
  pub seen : WalletSeen
  pub entries : List WalletEntry

-- the markets and the wallets, in declared order; the mints of SRM and MSRM; and the program that runs
pub record World : Type 0 where
  pub markets : List MarketState
  pub wallets : List WalletState
  pub srm : Option Address
  pub msrm : Option Address
  pub program : Program

-- its markets, without their journals
abbrev pub markets_in : World → List Market
markets_in world = map (λ (state : MarketState). state.market) world.markets

-- what a row would see of its wallets, their amounts among it, without their journals
abbrev pub wallets_in : World → List WalletSeen
wallets_in world = map (λ (state : WalletState). state.seen) world.wallets

-- the market of an address
abbrev pub market_at : Address → List MarketState → Option Market
market_at address [] = None
market_at address (state ∷ states) = if is_same address state.market.listing.address then Some state.market else market_at address states

-- what a row sees of the wallet of an address
abbrev pub wallet_at : Address → List WalletState → Option WalletSeen
wallet_at address [] = None
wallet_at address (state ∷ states) = if is_same address state.seen.address then Some state.seen else wallet_at address states

-- what it sees of the wallet that a role names
abbrev pub role_at : Option Address → List WalletState → Option WalletSeen
role_at None states = None
role_at (Some address) states = wallet_at address states

-- what a row sees
abbrev pub seen_by : PlainRow → World → Seen
seen_by row world = record {
  coin = role_at row.coin world.wallets;
  pc = role_at row.pc world.wallets;
  discount = role_at row.discount world.wallets;
  referrer = role_at row.referrer world.wallets;
  srm = world.srm;
  msrm = world.msrm;
  program = world.program;
}
