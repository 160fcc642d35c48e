-- What holds of each wallet of a start holds of each that a row of it names.
use Rattle.std.proofs.Common.{◌≡◌, true, Option, Some, None, IfSome}
use Rattle.std.specs.List.{All}
use Rattle.dex_world.proofs.Common.{Address, PlainAccounts, PlainRow, row_wallets}
use Rattle.dex_world.proofs.NameLaws.{roles-each}
use Rattle.dex_script_types.specs.Facts.{IsRowOf}
use Rattle.dex_script_types.specs.Known.{has_account, is_known_role}

-- what holds of each wallet of the start holds of each that a row names
module _ (P : Address → Type 0) (start : PlainAccounts) (each : (address : Address) → has_account address start.wallets ≡ true → P address) where
  known : (role : Option Address) → is_known_role start.wallets role ≡ true → IfSome role P
  known None is = tt
  known (Some address) is = each address is

  pub roles-all : (row : PlainRow) → IsRowOf start row → All P (row_wallets row)
  roles-all row fits =
      roles-each row.coin row.pc row.discount row.referrer P
      (known row.coin fits.coin, known row.pc fits.pc, known row.discount fits.discount, known row.referrer fits.referrer)
