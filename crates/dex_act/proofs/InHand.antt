-- Where the wallets of a row stand among cells in hand that are those of its wallets, in their order.
use Rattle.std.proofs.Common.{◌≡◌, ℕ, ◌<◌, List, length, map, Option, Some, None, sym, ap, ◌∙◌, arith}
use Rattle.dex_world.proofs.Common.{Address, PlainRow, get_or-map, is_same, length-map, row_wallets}
use Rattle.std.specs.List.{position}
use Rattle.std.proofs.lemmas.List.Quantifiers.{position-Some}
use Rattle.dex_wallet.specs.CellState.{CellState}
use Rattle.dex_world.specs.declared.places.RowWallets.{RowWallets}
use Rattle.dex_world.specs.Places.{AreWalletsAt, IsIndexOf}
use Rattle.dex_act.specs.Wallets.{ArePlacesAmong, IsAt, IsRoleAt, cell_place, hand_places}

-- a cell stands at its place
pub stands-at : (address : Address) (cells : List CellState) (place : ℕ) → cell_place address cells ≡ Some place → IsAt address cells place
stands-at address cells place is =
    let key : CellState → Address = λ cell. cell.address in
    let told = position-Some (is_same address) (map key cells) place address is in
    let within : place < length cells = omega (arith, told.0, length-map cells key) in
    record { within = within; here = λ default. ap (is_same address) (sym (get_or-map key cells place default address within)) ∙ told.1 }

-- the cell of a role's wallet stands at its index among these addresses
pub role-in-hand : (cells : List CellState) (addresses : List Address) (role : Option Address) (index : ℕ)
    → map (λ (cell : CellState). cell.address) cells ≡ addresses → IsIndexOf addresses role index → IsRoleAt cells role index
role-in-hand cells addresses None index are is = tt
role-in-hand cells addresses (Some address) index are is =
    stands-at address cells index (ap (λ (l : List Address). position (is_same address) l) are ∙ is)

-- the wallets of a row stand at their indexes, where its wallets alone are in hand
pub in-hand : (row : PlainRow) (wallets : RowWallets) (place_of : Address → Option ℕ) (cells : List CellState)
    → map (λ (cell : CellState). cell.address) cells ≡ row_wallets row
    → AreWalletsAt place_of row.coin row.pc row.discount row.referrer wallets
    → ArePlacesAmong cells row (hand_places wallets)
in-hand row wallets place_of cells are at = record {
  coin = role-in-hand cells (row_wallets row) row.coin wallets.coin are at.of_coin;
  pc = role-in-hand cells (row_wallets row) row.pc wallets.pc are at.of_pc;
  discount = role-in-hand cells (row_wallets row) row.discount wallets.discount are at.of_discount;
  referrer = role-in-hand cells (row_wallets row) row.referrer wallets.referrer are at.of_referrer;
}
