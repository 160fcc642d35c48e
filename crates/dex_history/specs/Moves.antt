-- What a row moves, wallet by wallet.
use Rattle.std.specs.Prelude.{ℕ, ◌+◌, ◌-◌, ◌≡◌, ◌⊎◌}
use Rattle.dex_types.specs.declared.addresses.Address.{Address}
use Rattle.dex_types.specs.declared.movements.Movement.{Movement}
use Rattle.dex_types.specs.declared.rows.Seen.{Seen}
use Rattle.dex_types.specs.Transfers.{Transfers}
use Rattle.dex_types.specs.Wallets.{balance_seen, brought_to, movement_of, taken_from}
use Rattle.dex_types.specs.WalletJournal.{CanMove, moved_balance}

-- the balance of a wallet after a movement
abbrev pub left_by : Movement → ℕ
left_by move = moved_balance move.kind move.amount move.before

-- a wallet's movement is what the transfers move: they take from it or bring to it, never both; it leaves what was
-- there, less what they take, and with what they bring; and it is possible at the balance that was seen
pub record Moves (seen : Seen) (t : Transfers) (address : Address) : Type 0 where
  pub one_way : (taken_from seen t address ≡ 0) ⊎ (brought_to seen t address ≡ 0)
  pub leaves : left_by (movement_of seen t address) ≡ balance_seen seen address + brought_to seen t address - taken_from seen t address
  pub possible : CanMove (movement_of seen t address).kind (movement_of seen t address).amount (movement_of seen t address).before
