-- Cells of wallets, when a row has acted on them.
use Rattle.std.specs.Prelude.{◌≡◌, List, map}
use Rattle.std.specs.List.{All}
use Rattle.dex_types.specs.declared.rows.Seen.{Seen}
use Rattle.dex_types.specs.Rows.{PlainRow}
use Rattle.dex_types.specs.Transfers.{Transfers}
use Rattle.dex_world.specs.Fold.{wallet_acted}
use Rattle.dex_wallet.specs.CellState.{CellState, IsWalletCell}
use Rattle.dex_act.specs.Wallets.{AreApart, made_of, wallet_state_of}

-- each wallet that the row names was moved once, as the transfers say, and each cell is still that of its wallet
pub record HaveActed (row : PlainRow) (seen : Seen) (t : Transfers) (before after : List CellState) : Type 0 where
  pub states : map wallet_state_of after ≡ map (wallet_acted row seen t) (map wallet_state_of before)
  pub kept : All IsWalletCell after
  pub apart : AreApart after
  pub made : map made_of after ≡ map made_of before
