-- What a row moves, and what its movements need.
use Rattle.std.specs.Prelude.{◌≡◌, Bool, true, false, Option, Some, None}
use Rattle.dex_types.specs.declared.addresses.Address.{Address}
use Rattle.dex_types.specs.declared.movements.MoveKind.{MoveKind}
use Rattle.dex_types.specs.declared.movements.MoveKind.TheVariants.{Probe}
use Rattle.dex_types.specs.declared.movements.Movement.{Movement}
use Rattle.dex_types.specs.declared.rows.Seen.{Seen}
use Rattle.dex_types.specs.declared.rows.WalletSeen.{WalletSeen}
use Rattle.dex_types.specs.Addresses.{is_same}
use Rattle.dex_types.specs.Transfers.{Transfers}
use Rattle.dex_types.specs.Wallets.{movement_of}
use Rattle.dex_history.specs.Moves.{Moves}
use Rattle.dex_movements.specs.declared.amounts.Amounts.{Amounts}

-- the transfers of these amounts
abbrev pub transfers_of : Amounts → Transfers
transfers_of amounts = record {
  coin_in = amounts.coin_in;
  pc_in = amounts.pc_in;
  coin_out = amounts.coin_out;
  pc_out = amounts.pc_out;
  referrer_out = amounts.referrer_out;
}

-- a row sees two wallets, which are not one, under the first two roles, and none under the others
pub record SeesTwo (seen : Seen) (first second : WalletSeen) : Type 0 where
  pub coin : seen.coin ≡ Some first
  pub pc : seen.pc ≡ Some second
  pub discount : seen.discount ≡ None
  pub referrer : seen.referrer ≡ None
  pub apart : is_same first.address second.address ≡ false

-- a movement of nothing
abbrev pub is_probe : MoveKind → Bool
is_probe Probe = true
is_probe _ = false

-- the transfers move each wallet in a way that is possible at the balance that is seen
abbrev pub CanMoveEach : Seen → Transfers → Type 0
CanMoveEach seen t = (wallet : Address) → Moves seen t wallet

-- the movement of the wallet of a place, if there is one
abbrev pub moved_place : Seen → Transfers → Option Address → Option Movement
moved_place seen t None = None
moved_place seen t (Some wallet) = Some (movement_of seen t wallet)
