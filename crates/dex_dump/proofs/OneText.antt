-- The accounts of a dump are built again from its rows, so that one text is of one exchange.
use Rattle.std.proofs.Common.{◌≡◌, ◌∷◌, ◌++◌, ◌∙◌, [], List, All, IfSome, Option, Some, None, append_assoc, append-nil, codes, refl, sym, ap, map}
use Rattle.std.specs.List.{flat_map}
use Rattle.dex_types.specs.declared.addresses.Address.{Address}
use Rattle.dex_types.specs.Accounts.{PlainAccount, PlainAccounts, PlainMarketAccounts}
use Rattle.dex_state.specs.Held.{HoldBytes, IsAddress, IsHeld, IsHeldMarket}
use Rattle.dex_dump.specs.DumpText.{account_rows, dump_rows, dump_text, last_row, market_rows, mint_row, named_rows, orders_row, wallet_row}
use Rattle.dex_dump_rows.specs.Lines.{Fields, PlainLine, line_of}
use Rattle.dex_dump_rows.specs.Lines.PlainLine.{Mint, Srm, Msrm, Wallet, Market, Orders}
use Rattle.dex_dump.specs.Reading.{no_accounts}
use Rattle.dex_dump.proofs.EachRow.{first_of, others_of}
use Rattle.dex_dump.proofs.RowLaws.{one_text}
use Rattle.dex_dump.proofs.StatedLaws.{first_stated, last_stated, market_stated, mint_stated, msrm_stated, orders_stated, srm_stated, wallet_stated}

-- the accounts of rows, and the open-orders accounts of the market in front of them
record Built : Type 0 where
  accounts : PlainAccounts
  orders : List PlainAccount

abbrev with_row : Option PlainLine → Built → Built
with_row (Some (Mint mint)) built = record built { accounts = record built.accounts { mints = mint ∷ built.accounts.mints } }
with_row (Some (Srm mint)) built = record built { accounts = record built.accounts { srm = Some mint } }
with_row (Some (Msrm mint)) built = record built { accounts = record built.accounts { msrm = Some mint } }
with_row (Some (Wallet wallet)) built = record built { accounts = record built.accounts { wallets = wallet ∷ built.accounts.wallets } }
with_row (Some (Market market)) built =
    record { accounts = record built.accounts { markets = record market { orders = built.orders } ∷ built.accounts.markets }; orders = [] }
with_row (Some (Orders market account)) built = record built { orders = account ∷ built.orders }
with_row _ built = built

abbrev built : List Fields → Built
built [] = record { accounts = no_accounts; orders = [] }
built (row ∷ rows) = with_row (line_of row) (built rows)

-- ---- rows of one kind in front of others

abbrev with_accounts : List Fields → PlainAccounts → Built
with_accounts rows accounts = record (built rows) { accounts = accounts }

mints_built : (mints : List PlainAccount) → All IsHeld mints → (rows : List Fields)
    → built (map mint_row mints ++ rows) ≡ with_accounts rows (record (built rows).accounts { mints = mints ++ (built rows).accounts.mints })
mints_built [] h rows = refl
mints_built (mint ∷ mints) h rows =
    rw (mint_stated mint (first_of IsHeld mint mints h), mints_built mints (others_of IsHeld mint mints h) rows) refl

wallets_built : (wallets : List PlainAccount) → All IsHeld wallets → (rows : List Fields)
    → built (map wallet_row wallets ++ rows) ≡ with_accounts rows (record (built rows).accounts { wallets = wallets ++ (built rows).accounts.wallets })
wallets_built [] h rows = refl
wallets_built (wallet ∷ wallets) h rows =
    rw (wallet_stated wallet (first_of IsHeld wallet wallets h), wallets_built wallets (others_of IsHeld wallet wallets h) rows) refl

srm_built : (mint : Option Address) → IfSome mint IsAddress → (rows : List Fields) → (built rows).accounts.srm ≡ None
    → built (named_rows (codes "srm") mint ++ rows) ≡ with_accounts rows (record (built rows).accounts { srm = mint })
srm_built None is rows none = ap (λ (named : Option Address). with_accounts rows (record (built rows).accounts { srm = named })) none
srm_built (Some mint) is rows none = rw (srm_stated mint is) refl

msrm_built : (mint : Option Address) → IfSome mint IsAddress → (rows : List Fields) → (built rows).accounts.msrm ≡ None
    → built (named_rows (codes "msrm") mint ++ rows) ≡ with_accounts rows (record (built rows).accounts { msrm = mint })
msrm_built None is rows none = ap (λ (named : Option Address). with_accounts rows (record (built rows).accounts { msrm = named })) none
msrm_built (Some mint) is rows none = rw (msrm_stated mint is) refl

orders_built : (market : Address) → IsAddress market → (orders : List PlainAccount) → All IsHeld orders → (rows : List Fields)
    → built (map (orders_row market) orders ++ rows) ≡ record (built rows) { orders = orders ++ (built rows).orders }
orders_built market at [] h rows = refl
orders_built market at (account ∷ orders) h rows =
    rw (orders_stated market at account (first_of IsHeld account orders h), orders_built market at orders (others_of IsHeld account orders h) rows) refl

markets_built : (markets : List PlainMarketAccounts) → All IsHeldMarket markets → (rows : List Fields) → (built rows).orders ≡ []
    → built (flat_map market_rows markets ++ rows) ≡ with_accounts rows (record (built rows).accounts { markets = markets ++ (built rows).accounts.markets })
markets_built [] h rows none = refl
markets_built (market ∷ markets) h rows none =
    let is = first_of IsHeldMarket market markets h in
    rw (
      market_stated market is,
      append_assoc (map (orders_row market.address) market.orders) (flat_map market_rows markets) rows,
      orders_built market.address is.address market.orders is.orders (flat_map market_rows markets ++ rows),
      markets_built markets (others_of IsHeldMarket market markets h) rows none,
      none,
      append-nil market.orders,
    ) refl

-- ---- all rows

rows_built : (accounts : PlainAccounts) → HoldBytes accounts → built (dump_rows accounts) ≡ record { accounts = accounts; orders = [] }
unfolding account_rows
rows_built accounts h =
    let mints = map mint_row accounts.mints in
    let srms = named_rows (codes "srm") accounts.srm in
    let msrms = named_rows (codes "msrm") accounts.msrm in
    let wallets = map wallet_row accounts.wallets in
    let markets = flat_map market_rows accounts.markets in
    let last : List Fields = last_row ∷ [] in
    let from_markets : built (markets ++ last) ≡ record { accounts = record no_accounts { markets = accounts.markets }; orders = [] } =
    rw (markets_built accounts.markets h.markets last (rw last_stated refl), last_stated, append-nil accounts.markets) refl in
    let from_wallets : built (wallets ++ (markets ++ last))
    ≡ record { accounts = record no_accounts { wallets = accounts.wallets; markets = accounts.markets }; orders = [] } =
    rw (wallets_built accounts.wallets h.wallets (markets ++ last), from_markets, append-nil accounts.wallets) refl in
    let from_msrm : built (msrms ++ (wallets ++ (markets ++ last)))
    ≡ record { accounts = record accounts { mints = []; srm = None }; orders = [] } =
    rw (msrm_built accounts.msrm h.msrm (wallets ++ (markets ++ last)) (rw from_wallets refl), from_wallets) refl in
    let from_srm : built (srms ++ (msrms ++ (wallets ++ (markets ++ last)))) ≡ record { accounts = record accounts { mints = [] }; orders = [] } =
    rw (srm_built accounts.srm h.srm (msrms ++ (wallets ++ (markets ++ last))) (rw from_msrm refl), from_msrm) refl in
    let all : built (mints ++ (srms ++ (msrms ++ (wallets ++ (markets ++ last))))) ≡ record { accounts = accounts; orders = [] } =
    rw (mints_built accounts.mints h.mints (srms ++ (msrms ++ (wallets ++ (markets ++ last)))), from_srm, append-nil accounts.mints) refl in
    rw (
      first_stated,
      append_assoc mints (srms ++ (msrms ++ (wallets ++ markets))) last,
      append_assoc srms (msrms ++ (wallets ++ markets)) last,
      append_assoc msrms (wallets ++ markets) last,
      append_assoc wallets markets last,
    ) all

-- one text is of one exchange
pub dump_text-injective : (accounts others : PlainAccounts) → HoldBytes accounts → HoldBytes others → dump_text accounts ≡ dump_text others
    → accounts ≡ others
dump_text-injective accounts others h k same =
    ap (λ (b : Built). b.accounts)
    (sym (rows_built accounts h) ∙ ap built (one_text accounts others h k same) ∙ rows_built others k)
