-- What a row of a dump states by itself.
use Rattle.std.specs.Prelude.{ℕ, ◌+◌, Bool, ◌==◌, ◌&&◌, if◌then◌else◌, List, [], length, codes, Option, Some, None}
use Rattle.std.specs.Str.{bytes_eq}
use Rattle.dex_types.specs.declared.addresses.Address.{Address}
use Rattle.dex_types.specs.Accounts.{PlainAccount, PlainMarketAccounts}
use Rattle.dex_rows.specs.Addresses.{address_of}
use Rattle.dex_rows.specs.Base64.{base64_of}
use Rattle.dex_rows.specs.Printable.{row_is_printable}
pub use Rattle.dex_rows.specs.Records.{Fields, field_at}

-- a row between the first and the last: an account, a name of a mint, or the end
pub data PlainLine : Type 0 where
  Mint : PlainAccount → PlainLine
  Srm : Address → PlainLine
  Msrm : Address → PlainLine
  Wallet : PlainAccount → PlainLine
  -- a market has no open-orders accounts at first
  Market : PlainMarketAccounts → PlainLine
  -- an open-orders account of the market with this address
  Orders : Address → PlainAccount → PlainLine
  End : PlainLine

-- goes on with what was found
infixl 10 ◌>>=◌
abbrev pub ◌>>=◌ : {A B : Type 0} → Option A → (A → Option B) → Option B
(Some x) >>= next = next x
None >>= next = None

-- goes on where the row has this many fields
abbrev pub with_fields : {A : Type 0} → Fields → ℕ → Option A → Option A
with_fields row count next = if length row == count then next else None

-- an address and an account
unfoldable pub account_at : Fields → ℕ → Option PlainAccount
account_at row place = do
  address ← address_of (field_at row place)
  bytes ← base64_of (field_at row (place + 1))
  Some (record { address = address; bytes = bytes })

-- `mint,ADDRESS,ACCOUNT`
unfoldable pub mint_of : Fields → Option PlainLine
mint_of row = with_fields row 3 (account_at row 1 >>= (λ account. Some (Mint account)))

-- `wallet,ADDRESS,ACCOUNT`
unfoldable pub wallet_of : Fields → Option PlainLine
wallet_of row = with_fields row 3 (account_at row 1 >>= (λ account. Some (Wallet account)))

-- `srm,MINT`
unfoldable pub srm_of : Fields → Option PlainLine
srm_of row = with_fields row 2 (address_of (field_at row 1) >>= (λ mint. Some (Srm mint)))

-- `msrm,MINT`
unfoldable pub msrm_of : Fields → Option PlainLine
msrm_of row = with_fields row 2 (address_of (field_at row 1) >>= (λ mint. Some (Msrm mint)))

-- `orders,MARKET,ADDRESS,ACCOUNT`
unfoldable pub orders_of : Fields → Option PlainLine
orders_of row = with_fields row 4 (do
  market ← address_of (field_at row 1)
  account ← account_at row 2
  Some (Orders market account))

-- `market,ADDRESS,AUTHORITY,MARKET,COINVAULT,PCVAULT,REQUESTS,EVENTS,BIDS,ASKS`
unfoldable pub market_of : Fields → Option PlainLine
market_of row = with_fields row 10 (do
  address ← address_of (field_at row 1)
  authority ← address_of (field_at row 2)
  market ← base64_of (field_at row 3)
  coin_vault ← base64_of (field_at row 4)
  pc_vault ← base64_of (field_at row 5)
  requests ← base64_of (field_at row 6)
  events ← base64_of (field_at row 7)
  bids ← base64_of (field_at row 8)
  asks ← base64_of (field_at row 9)
  Some (Market (record {
    address = address;
    authority = authority;
    market = market;
    coin_vault = coin_vault;
    pc_vault = pc_vault;
    requests = requests;
    events = events;
    bids = bids;
    asks = asks;
    orders = [];
  })))

-- `enddump`
unfoldable pub end_of : Fields → Option PlainLine
end_of row = with_fields row 1 (Some End)

-- the form that the first field names
unfoldable pub form_of : List ℕ → Fields → Option PlainLine
form_of word row =
    if bytes_eq word (codes "mint") then mint_of row
    else (if bytes_eq word (codes "srm") then srm_of row
    else (if bytes_eq word (codes "msrm") then msrm_of row
    else (if bytes_eq word (codes "wallet") then wallet_of row
    else (if bytes_eq word (codes "market") then market_of row
    else (if bytes_eq word (codes "orders") then orders_of row
    else (if bytes_eq word (codes "enddump") then end_of row else None))))))

-- what a row states, if it has one of the forms and no byte outside 32 to 126
unfoldable pub line_of : Fields → Option PlainLine
line_of row = if row_is_printable row then form_of (field_at row 0) row else None

-- the row is the first of a dump
unfoldable pub is_first_row : Fields → Bool
is_first_row row = (length row == 1) && bytes_eq (field_at row 0) (codes "dump")
