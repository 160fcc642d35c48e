-- What buffers and arrays of bytes hold.
use Rattle.std.specs.Prelude.{◌≡◌, All, IfSome, length}
use Rattle.dex_types.specs.declared.addresses.Address.{Address}
use Rattle.dex_types.specs.Accounts.{PlainAccount, PlainAccounts, PlainMarketAccounts}
use Rattle.hex.specs.Hex.{IsBytes}

-- an address of 32 bytes
pub record IsAddress (address : Address) : Type 0 where
  pub size : length address.0 ≡ 32
  pub bytes : IsBytes address.0

-- an account that holds bytes, at an address of 32 bytes
pub record IsHeld (account : PlainAccount) : Type 0 where
  pub address : IsAddress account.address
  pub bytes : IsBytes account.bytes

-- a market's accounts hold bytes; its address, its authority's and those of its open-orders accounts are of 32 bytes
pub record IsHeldMarket (accounts : PlainMarketAccounts) : Type 0 where
  pub address : IsAddress accounts.address
  pub authority : IsAddress accounts.authority
  pub market : IsBytes accounts.market
  pub coin_vault : IsBytes accounts.coin_vault
  pub pc_vault : IsBytes accounts.pc_vault
  pub requests : IsBytes accounts.requests
  pub events : IsBytes accounts.events
  pub bids : IsBytes accounts.bids
  pub asks : IsBytes accounts.asks
  pub orders : All IsHeld accounts.orders

-- all accounts are of bytes, at addresses of 32 bytes: what buffers and arrays of bytes hold
pub record HoldBytes (accounts : PlainAccounts) : Type 0 where
  pub mints : All IsHeld accounts.mints
  pub srm : IfSome accounts.srm IsAddress
  pub msrm : IfSome accounts.msrm IsAddress
  pub wallets : All IsHeld accounts.wallets
  pub markets : All IsHeldMarket accounts.markets
