-- Each row of a dump states what it was written from.
use Rattle.std.proofs.Common.{◌≡◌, ◌∷◌, [], Some, None, true, codes, refl}
use Rattle.std.specs.List.{list_all}
use Rattle.std.proofs.lemmas.Bool.{and_parts}
use Rattle.dex_types.specs.declared.addresses.Address.{Address}
use Rattle.dex_types.specs.Accounts.{PlainAccount, PlainMarketAccounts}
use Rattle.dex_types.specs.Text.{address_text}
use Rattle.dex_rows.specs.Printable.{is_printable, row_is_printable}
use Rattle.dex_state.specs.Held.{IsAddress, IsHeld, IsHeldMarket}
use Rattle.dex_dump.specs.DumpText.{first_row, last_row, market_row, mint_row, orders_row, wallet_row}
use Rattle.dex_dump_rows.specs.Lines.{Fields, account_at, end_of, form_of, line_of, market_of, mint_of, msrm_of, orders_of, srm_of, wallet_of}
use Rattle.dex_dump_rows.specs.Lines.PlainLine.{Mint, Srm, Msrm, Wallet, Market, Orders, End}
use Rattle.dex_dump.proofs.FieldLaws.{address_of-text, base64_of-text, printable}
use Rattle.dex_dump.proofs.PlainRows.{IsPlain, each_plain, plain}

-- a row of plain fields is printable
row_printable : (row : Fields) → IsPlain row → row_is_printable row ≡ true
unfolding row_is_printable
row_printable [] h = refl
row_printable (field ∷ row) h =
    let parts = and_parts (plain field) (list_all plain row) h in
    rw (printable field parts.0, row_printable row parts.1) refl

pub first_stated : line_of first_row ≡ None
unfolding line_of form_of row_is_printable is_printable
first_stated = refl

pub last_stated : line_of last_row ≡ Some End
unfolding line_of form_of end_of row_is_printable is_printable
last_stated = refl

pub mint_stated : (mint : PlainAccount) → IsHeld mint → line_of (mint_row mint) ≡ Some (Mint mint)
unfolding line_of form_of mint_of account_at
mint_stated mint is =
    rw (row_printable (mint_row mint) (each_plain.mint mint is), address_of-text mint.address is.address, base64_of-text mint.bytes is.bytes) refl

pub wallet_stated : (wallet : PlainAccount) → IsHeld wallet → line_of (wallet_row wallet) ≡ Some (Wallet wallet)
unfolding line_of form_of wallet_of account_at
wallet_stated wallet is = rw (
  row_printable (wallet_row wallet) (each_plain.wallet wallet is),
  address_of-text wallet.address is.address,
  base64_of-text wallet.bytes is.bytes,
) refl

pub srm_stated : (mint : Address) → IsAddress mint → line_of (codes "srm" ∷ address_text mint ∷ []) ≡ Some (Srm mint)
unfolding line_of form_of srm_of
srm_stated mint is = rw (row_printable (codes "srm" ∷ address_text mint ∷ []) (each_plain.srm mint is), address_of-text mint is) refl

pub msrm_stated : (mint : Address) → IsAddress mint → line_of (codes "msrm" ∷ address_text mint ∷ []) ≡ Some (Msrm mint)
unfolding line_of form_of msrm_of
msrm_stated mint is = rw (row_printable (codes "msrm" ∷ address_text mint ∷ []) (each_plain.msrm mint is), address_of-text mint is) refl

pub orders_stated : (market : Address) → IsAddress market → (account : PlainAccount) → IsHeld account
    → line_of (orders_row market account) ≡ Some (Orders market account)
unfolding line_of form_of orders_of account_at
orders_stated market at account is = rw (
  row_printable (orders_row market account) (each_plain.orders market at account is),
  address_of-text market at,
  address_of-text account.address is.address,
  base64_of-text account.bytes is.bytes,
) refl

pub market_stated : (market : PlainMarketAccounts) → IsHeldMarket market
    → line_of (market_row market) ≡ Some (Market (record market { orders = [] }))
unfolding line_of form_of market_of
market_stated market is = rw (
  row_printable (market_row market) (each_plain.market market is),
  address_of-text market.address is.address,
  address_of-text market.authority is.authority,
  base64_of-text market.market is.market,
  base64_of-text market.coin_vault is.coin_vault,
  base64_of-text market.pc_vault is.pc_vault,
  base64_of-text market.requests is.requests,
  base64_of-text market.events is.events,
  base64_of-text market.bids is.bids,
  base64_of-text market.asks is.asks,
) refl
