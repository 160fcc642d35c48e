-- The fields of each row of a dump are plain.
use Rattle.std.proofs.Common.{◌≡◌, ℕ, Bool, List, true, refl}
use Rattle.std.specs.List.{list_all}
use Rattle.dex_dump_rows.specs.Lines.{Fields}
use Rattle.dex_dump.proofs.EachRow.{EachRow}
use Rattle.dex_dump.proofs.FieldLaws.{address_plain, base64_plain, is_plain}

abbrev pub plain : List ℕ → Bool
plain field = list_all is_plain field

abbrev pub IsPlain : Fields → Type 0
IsPlain row = list_all plain row ≡ true

pub each_plain : EachRow IsPlain
each_plain = record {
  mint = λ mint is. rw (address_plain mint.address is.address, base64_plain mint.bytes is.bytes) refl;
  srm = λ mint is. rw (address_plain mint is) refl;
  msrm = λ mint is. rw (address_plain mint is) refl;
  wallet = λ wallet is. rw (address_plain wallet.address is.address, base64_plain wallet.bytes is.bytes) refl;
  market = λ market is. rw (
    address_plain market.address is.address,
    address_plain market.authority is.authority,
    base64_plain market.market is.market,
    base64_plain market.coin_vault is.coin_vault,
    base64_plain market.pc_vault is.pc_vault,
    base64_plain market.requests is.requests,
    base64_plain market.events is.events,
    base64_plain market.bids is.bids,
    base64_plain market.asks is.asks,
  ) refl;
  orders = λ market at account is.
      rw (address_plain market at, address_plain account.address is.address, base64_plain account.bytes is.bytes) refl;
}
