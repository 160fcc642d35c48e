-- The world with which a script starts.
use Rattle.std.specs.Prelude.{[], map}
use Rattle.dex_types.specs.Accounts.{PlainAccount, PlainMarketAccounts}
use Rattle.dex_accounts.specs.Decoded.{market_in}
use Rattle.dex_token.specs.TokenAccount.{wallet_words}
use Rattle.dex_world.specs.World.{MarketState, WalletState, World}
use Rattle.dex_script_types.specs.PlainScript.{PlainScript}

-- a market with which a script starts
abbrev pub market_state : PlainMarketAccounts → MarketState
market_state accounts = record { market = market_in accounts; entries = [] }

-- a wallet with which a script starts
abbrev pub wallet_state : PlainAccount → WalletState
wallet_state account =
    let words = wallet_words account.bytes in
    record {
      seen = record { address = account.address; mint = words.mint; owner = words.owner; balance = words.amount };
      entries = [];
    }

-- the world with which a script starts
abbrev pub start_world : PlainScript → World
start_world script = record {
  markets = map market_state script.start.markets;
  wallets = map wallet_state script.start.wallets;
  srm = script.start.srm;
  msrm = script.start.msrm;
  program = script.program;
}
