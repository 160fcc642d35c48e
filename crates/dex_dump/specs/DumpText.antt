-- The text of a dump: a row for each account, as comma-separated values.
use Rattle.std.specs.Prelude.{ℕ, List, [], ◌∷◌, ◌++◌, map, codes, Option, Some, None}
use Rattle.std.specs.List.{flat_map}
use Rattle.base64.specs.Engines.{standard}
use Rattle.base64.specs.GeneralPurpose.{encode_of}
use Rattle.dex_types.specs.declared.addresses.Address.{Address}
use Rattle.dex_types.specs.Accounts.{PlainAccount, PlainAccounts, PlainMarketAccounts}
use Rattle.dex_types.specs.Text.{address_text}
use Rattle.dex_dump_rows.specs.Lines.{Fields}

-- the bytes of an account in base64, of the standard alphabet and with padding
unfoldable pub base64_text : List ℕ → List ℕ
base64_text bytes = encode_of standard bytes

-- a word, an address and an account
abbrev pub account_row : List ℕ → PlainAccount → Fields
account_row word account = word ∷ address_text account.address ∷ base64_text account.bytes ∷ []

-- `mint,ADDRESS,ACCOUNT`
abbrev pub mint_row : PlainAccount → Fields
mint_row mint = codes "mint" ∷ address_text mint.address ∷ base64_text mint.bytes ∷ []

-- `srm,MINT` and `msrm,MINT`: one row where the mint is named, else none
abbrev pub named_rows : List ℕ → Option Address → List Fields
named_rows word None = []
named_rows word (Some mint) = (word ∷ address_text mint ∷ []) ∷ []

-- `wallet,ADDRESS,ACCOUNT`
abbrev pub wallet_row : PlainAccount → Fields
wallet_row wallet = codes "wallet" ∷ address_text wallet.address ∷ base64_text wallet.bytes ∷ []

-- a market's own account, its vaults, its queues and its sides
abbrev pub market_fields : PlainMarketAccounts → Fields
market_fields market =
    base64_text market.market ∷ base64_text market.coin_vault ∷ base64_text market.pc_vault
    ∷ base64_text market.requests ∷ base64_text market.events ∷ base64_text market.bids ∷ base64_text market.asks ∷ []

-- `market,ADDRESS,AUTHORITY,MARKET,COINVAULT,PCVAULT,REQUESTS,EVENTS,BIDS,ASKS`
abbrev pub market_row : PlainMarketAccounts → Fields
market_row market = codes "market" ∷ address_text market.address ∷ address_text market.authority ∷ market_fields market

-- `orders,MARKET,ADDRESS,ACCOUNT`
abbrev pub orders_row : Address → PlainAccount → Fields
orders_row market account =
    codes "orders" ∷ address_text market ∷ address_text account.address ∷ base64_text account.bytes ∷ []

-- a market's row, and those of its open-orders accounts
abbrev pub market_rows : PlainMarketAccounts → List Fields
market_rows market = market_row market ∷ map (orders_row market.address) market.orders

-- the first row of a dump
abbrev pub first_row : Fields
first_row = codes "dump" ∷ []

-- the last row of a dump
abbrev pub last_row : Fields
last_row = codes "enddump" ∷ []

-- the rows between them, in declared order
unfoldable pub account_rows : PlainAccounts → List Fields
account_rows accounts =
    map mint_row accounts.mints ++ (named_rows (codes "srm") accounts.srm ++ (named_rows (codes "msrm") accounts.msrm
    ++ (map wallet_row accounts.wallets ++ flat_map market_rows accounts.markets)))

-- all rows
abbrev pub dump_rows : PlainAccounts → List Fields
dump_rows accounts = first_row ∷ (account_rows accounts ++ last_row ∷ [])

-- what stands after a row's first field: a comma before each other field, and a line feed at the end
unfoldable pub behind_first : Fields → List ℕ
behind_first [] = 10 ∷ []
behind_first (field ∷ fields) = 44 ∷ (field ++ behind_first fields)

-- a row as a line
abbrev pub line_text : Fields → List ℕ
line_text [] = behind_first []
line_text (field ∷ fields) = field ++ behind_first fields

-- rows as lines
unfoldable pub lines_text : List Fields → List ℕ
lines_text [] = []
lines_text (row ∷ rows) = line_text row ++ lines_text rows

-- the dump
abbrev pub dump_text : PlainAccounts → List ℕ
dump_text accounts = lines_text (dump_rows accounts)
