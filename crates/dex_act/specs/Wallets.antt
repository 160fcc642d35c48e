-- What a row does to the cells of wallets.
use Rattle.std.specs.Prelude.{◌&&◌, ◌≡◌, ℕ, zero, suc, ◌+◌, ◌<◌, ◌≤◌, ◌^◌, ◌⊎◌, Bool, true, false, ◌||◌}
use Rattle.std.specs.Prelude.{List, [], ◌∷◌, Option, Some, None, if◌then◌else◌, slice_index_or, length, map}
use Rattle.std.specs.List.{All, position}
use Rattle.dex_types.specs.declared.addresses.Address.{Address}
use Rattle.dex_types.specs.declared.movements.MoveKind.{MoveKind}
use Rattle.dex_types.specs.declared.movements.MoveKind.TheVariants.{Debit, Credit, Probe}
use Rattle.dex_types.specs.declared.movements.Movement.{Movement}
use Rattle.dex_types.specs.declared.rows.Row.{Row}
use Rattle.dex_world.specs.declared.places.RowWallets.{RowWallets}
use Rattle.dex_types.specs.declared.rows.Seen.{Seen}
use Rattle.dex_types.specs.declared.rows.WalletSeen.{WalletSeen}
use Rattle.dex_types.specs.Addresses.{is_same}
use Rattle.dex_types.specs.Rows.{PlainRow, row_of}
use Rattle.dex_types.specs.Transfers.{Transfers}
use Rattle.dex_types.specs.Wallets.{address_seen, amount_at, movements}
use Rattle.dex_history.specs.Journal.{front, places, row_step}
use Rattle.dex_token.specs.TokenAccount.{wallet_words}
use Rattle.dex_movements.specs.Amounts.{is_probe}
use Rattle.dex_wallet.specs.CellState.{CellState, HasSpare, IsWalletCell, balance_of, moved_by, new_cell, seen_of}
use Rattle.dex_wallet.specs.TokenAmount.{TokenAmount}
use Rattle.dex_cell.specs.CellState as market_cell
use Rattle.dex_cell.specs.CellState.{IsFor, IsMarketCell, MarketCellState, market_at}
use Rattle.dex_cell.specs.Paying.{parcel_of}
use Rattle.dex_world.specs.Fold.{is_role}
use Rattle.dex_world.specs.Items.{doing}
use Rattle.dex_world.specs.Places.{place_at}
use Rattle.dex_world.specs.World.{WalletState}
use Rattle.dex_act.specs.declared.places.WalletPlaces.{WalletPlaces}

-- the wallet of a cell, with its journal
abbrev pub wallet_state_of : CellState → WalletState
wallet_state_of cell = record { seen = seen_of cell; entries = cell.entries }

-- the cell as it was made
abbrev pub made_of : CellState → CellState
made_of cell = new_cell cell.address cell.start cell.room

-- ---- cells by address

-- one of the cells has the address
abbrev pub is_among : Address → List CellState → Bool
is_among address [] = false
is_among address (cell ∷ cells) = is_same address cell.address || is_among address cells

-- no two cells have one address
abbrev pub AreApart : List CellState → Type 0
AreApart [] = Unit {0}
AreApart (cell ∷ cells) = (is_among cell.address cells ≡ false) × AreApart cells

-- a cell of the address stands at this place
pub record IsAt (address : Address) (cells : List CellState) (place : ℕ) : Type 0 where
  pub within : place < length cells
  pub here : (default : CellState) → is_same address (slice_index_or cells place default).address ≡ true

-- the place of the first cell of an address
abbrev pub cell_place : Address → List CellState → Option ℕ
cell_place address cells = position (is_same address) (map (λ (cell : CellState). cell.address) cells)

-- the wallet that a role names is among the cells
abbrev pub IsNamed : List CellState → Option Address → Type 0
IsNamed cells None = Unit {0}
IsNamed cells (Some address) = is_among address cells ≡ true

-- a cell of it stands at this place
abbrev pub IsRoleAt : List CellState → Option Address → ℕ → Type 0
IsRoleAt cells None place = Unit {0}
IsRoleAt cells (Some address) place = IsAt address cells place

-- the wallets of the four roles of a row stand at these places
pub record AreAt (cells : List CellState) (as_coin as_pc as_discount as_referrer : Option Address)
    (places : WalletPlaces) : Type 0 where
  pub coin : IsRoleAt cells as_coin places.coin
  pub pc : IsRoleAt cells as_pc places.pc
  pub discount : IsRoleAt cells as_discount places.discount
  pub referrer : IsRoleAt cells as_referrer places.referrer

-- the wallets that a row names stand among the cells at these places
abbrev pub ArePlacesAmong : List CellState → PlainRow → WalletPlaces → Type 0
ArePlacesAmong cells row places = AreAt cells row.coin row.pc row.discount row.referrer places

-- and those that it sees
abbrev pub AreSeenAt : List CellState → Seen → WalletPlaces → Type 0
AreSeenAt cells seen places =
    AreAt cells (address_seen seen.coin) (address_seen seen.pc) (address_seen seen.discount)
    (address_seen seen.referrer) places

-- where a row's wallets stand among the cells of all wallets
abbrev pub wallet_places : RowWallets → WalletPlaces
wallet_places wallets = record {
  coin = place_at wallets wallets.coin;
  pc = place_at wallets wallets.pc;
  discount = place_at wallets wallets.discount;
  referrer = place_at wallets wallets.referrer;
}

-- and where among the cells of these wallets alone, in their order
abbrev pub hand_places : RowWallets → WalletPlaces
hand_places wallets = record {
  coin = wallets.coin;
  pc = wallets.pc;
  discount = wallets.discount;
  referrer = wallets.referrer;
}

-- what holds of the cell at a place
abbrev pub AtPlace : ℕ → List CellState → (CellState → Type 0) → Type 0
AtPlace place cells Holds = (default : CellState) → Holds (slice_index_or cells place default)

-- ---- movements

-- a cell after a row moved it
abbrev pub cell_moved : PlainRow → MoveKind → ℕ → CellState → CellState
cell_moved row kind amount cell = moved_by cell row.market row.lane row.number kind amount

-- a cell after a row moved it, or as it was where nothing moves
abbrev pub moved_some : PlainRow → MoveKind → ℕ → CellState → CellState
moved_some row kind zero cell = cell
moved_some row kind (suc amount) cell = cell_moved row kind (suc amount) cell

-- a cell after an amount moved under a role
abbrev pub role_moved : PlainRow → MoveKind → Option WalletSeen → ℕ → CellState → CellState
role_moved row kind role amount cell = moved_some row kind (amount_at cell.address role amount) cell

-- nothing is taken from a cell, or it has that much, and room for the entry
abbrev pub CanTake : ℕ → CellState → Type 0
CanTake amount cell = (amount ≡ 0) ⊎ (HasSpare cell × (amount ≤ balance_of cell.bytes))

-- nothing is brought to a cell, or it is of this mint, has room for the entry, and the balance fits
abbrev pub CanPut : Address → ℕ → CellState → Type 0
CanPut mint amount cell =
    (amount ≡ 0) ⊎ (HasSpare cell × (mint ≡ (wallet_words cell.bytes).mint) × (balance_of cell.bytes + amount < 2 ^ 64))

-- nothing moves under a role, or it names a wallet
abbrev pub NamesFor : ℕ → Option WalletSeen → Type 0
NamesFor amount role = (amount ≡ 0) ⊎ ((wallet : WalletSeen) × (role ≡ Some wallet))

-- nothing moves, or the cell is of this mint
abbrev pub IsOf : Address → ℕ → CellState → Type 0
IsOf mint amount cell = (amount ≡ 0) ⊎ (mint ≡ (wallet_words cell.bytes).mint)

-- each cell that an amount moves on under a role is of this mint
abbrev pub AreOf : Address → Option WalletSeen → ℕ → List CellState → Type 0
AreOf mint role amount cells = All (λ (cell : CellState). IsOf mint (amount_at cell.address role amount) cell) cells

-- how much a parcel is, and none is nothing
abbrev pub amount_in : Option TokenAmount → ℕ
amount_in None = 0
amount_in (Some parcel) = parcel.amount

-- there is no parcel, or it is of something, its role names a wallet, and the wallet's cell can take it in
abbrev pub CanCredit : Option WalletSeen → Option TokenAmount → List CellState → Type 0
CanCredit role None cells = Unit {0}
CanCredit role (Some parcel) cells =
    (1 ≤ parcel.amount)
    × NamesFor parcel.amount role
    × All (λ cell. CanPut parcel.mint (amount_at cell.address role parcel.amount) cell) cells

-- ---- what a row's wallets pay

-- how much a row takes from a cell under its two roles
abbrev pub paid_at : Seen → ℕ → ℕ → CellState → ℕ
paid_at seen coin pc cell = amount_at cell.address seen.coin coin + amount_at cell.address seen.pc pc

-- a cell after it
abbrev pub cell_debited : PlainRow → Seen → ℕ → ℕ → CellState → CellState
cell_debited row seen coin pc cell = moved_some row Debit (paid_at seen coin pc cell) cell

-- the wallets that a row sees stand at these places and can pay: of one token alone, and each has what it pays
pub record CanPay (seen : Seen) (places : WalletPlaces) (coin pc : ℕ) (cells : List CellState) : Type 0 where
  pub apart : AreApart cells
  pub at : AreSeenAt cells seen places
  pub coin_named : NamesFor coin seen.coin
  pub pc_named : NamesFor pc seen.pc
  pub one : (coin ≡ 0) ⊎ (pc ≡ 0)
  pub each : All (λ (cell : CellState). CanTake (paid_at seen coin pc cell) cell) cells

-- ---- what they are paid

-- the wallets of two roles are one
abbrev pub is_one : Option WalletSeen → Option WalletSeen → Bool
is_one (Some wallet) (Some other) = is_same wallet.address other.address
is_one _ _ = false

-- both are of one mint, or none, and fit together
pub record AreOfOneMint (first second : Option TokenAmount) : Type 0 where
  pub mint : Address
  pub first_is : first ≡ parcel_of mint (amount_in first)
  pub second_is : second ≡ parcel_of mint (amount_in second)
  pub fits : amount_in first + amount_in second < 2 ^ 64

-- how much of the quote token a row brings to a cell under its two roles
abbrev pub got_at : Seen → ℕ → ℕ → CellState → ℕ
got_at seen pc referrer cell = amount_at cell.address seen.pc pc + amount_at cell.address seen.referrer referrer

-- a cell after that
abbrev pub pc_credited : PlainRow → Seen → ℕ → ℕ → CellState → CellState
pc_credited row seen pc referrer cell = moved_some row Credit (got_at seen pc referrer cell) cell

-- and after all that a row brings to it
abbrev pub cell_credited : PlainRow → Seen → ℕ → ℕ → ℕ → CellState → CellState
cell_credited row seen coin pc referrer cell =
    moved_some row Credit (amount_at cell.address seen.coin coin + got_at seen pc referrer cell) cell

-- the parcels of the quote token are of one mint, and each wallet that a row sees can take in what it gets of them
pub record CanGetPc (seen : Seen) (places : WalletPlaces) (pc referrer : Option TokenAmount)
    (cells : List CellState) : Type 0 where
  pub mint : Address
  pub pc_is : pc ≡ parcel_of mint (amount_in pc)
  pub referrer_is : referrer ≡ parcel_of mint (amount_in referrer)
  pub apart : AreApart cells
  pub at : AreSeenAt cells seen places
  pub pc_named : NamesFor (amount_in pc) seen.pc
  pub referrer_named : NamesFor (amount_in referrer) seen.referrer
  pub each : All (λ (cell : CellState). CanPut mint (got_at seen (amount_in pc) (amount_in referrer) cell) cell) cells

-- a cell gets of one token alone, and can take it in
abbrev pub CanGet : Address → Address → ℕ → ℕ → CellState → Type 0
CanGet coin_mint pc_mint coin pc cell = ((coin ≡ 0) × CanPut pc_mint pc cell) ⊎ ((pc ≡ 0) × CanPut coin_mint coin cell)

-- the parcels are of two mints, and each wallet that a row sees can take in what it gets of them
pub record CanBePaid (seen : Seen) (places : WalletPlaces) (coin pc referrer : Option TokenAmount)
    (cells : List CellState) : Type 0 where
  pub coin_mint : Address
  pub pc_mint : Address
  pub coin_is : coin ≡ parcel_of coin_mint (amount_in coin)
  pub pc_is : pc ≡ parcel_of pc_mint (amount_in pc)
  pub referrer_is : referrer ≡ parcel_of pc_mint (amount_in referrer)
  pub apart : AreApart cells
  pub at : AreSeenAt cells seen places
  pub coin_named : NamesFor (amount_in coin) seen.coin
  pub pc_named : NamesFor (amount_in pc) seen.pc
  pub referrer_named : NamesFor (amount_in referrer) seen.referrer
  pub each : All (λ (cell : CellState).
      CanGet coin_mint pc_mint (amount_at cell.address seen.coin (amount_in coin))
      (got_at seen (amount_in pc) (amount_in referrer) cell) cell) cells

-- ---- what they are asked

-- a movement is a probe of this cell
abbrev pub probes : Movement → CellState → Bool
probes move cell = is_probe move.kind && is_same move.wallet cell.address

-- a cell after a movement, where that is a probe of it
abbrev pub move_probed : PlainRow → Movement → CellState → CellState
move_probed row move cell = if probes move cell then cell_moved row Probe 0 cell else cell

-- a cell after several probes of a row
abbrev pub moves_probed : PlainRow → List Movement → CellState → CellState
moves_probed row [] cell = cell
moves_probed row (move ∷ moves) cell = moves_probed row moves (move_probed row move cell)

-- ---- all of it

-- a cell after what a row takes from it and brings to it
abbrev pub cell_paid : PlainRow → Seen → Transfers → CellState → CellState
cell_paid row seen t cell =
    cell_credited row seen t.coin_out t.pc_out t.referrer_out (cell_debited row seen t.coin_in t.pc_in cell)

-- a cell after a row: what it takes and brings, and then its probes of the cell
abbrev pub cell_acted : PlainRow → Seen → Transfers → CellState → CellState
cell_acted row seen t cell = moves_probed row (front (places (movements seen t))) (cell_paid row seen t cell)

-- the cells of wallets after what a row takes and brings, or where it waits, where its market's cell is this
abbrev pub cells_paid : Bool → Row → Seen → MarketCellState → List CellState → List CellState
cells_paid waits row seen market cells =
    map (cell_paid (row_of row) seen (row_step (doing waits (row_of row)) seen (market_at market)).transfers) cells

-- ---- what a row sees of cells

-- a role's wallet is at the address
abbrev pub hits : Address → Option WalletSeen → Bool
hits address role = is_role (address_seen role) address

-- one of these roles' wallets is at the address
abbrev pub any_hit : Address → List (Option WalletSeen) → Bool
any_hit address [] = false
any_hit address (role ∷ roles) = hits address role || any_hit address roles

-- the wallets that a row sees, role by role
abbrev pub roles_of : Seen → List (Option WalletSeen)
roles_of seen = seen.coin ∷ seen.pc ∷ seen.discount ∷ seen.referrer ∷ []

-- a cell has room for the entries of those of these movements that are probes of it
abbrev pub HasRoomFor : PlainRow → List Movement → CellState → Type 0
HasRoomFor row [] cell = Unit {0}
HasRoomFor row (move ∷ moves) cell =
    (probes move cell ≡ true → HasSpare cell) × HasRoomFor row moves (move_probed row move cell)

-- a row sees the wallets of these movements, which stand at these places, with room for the entries of the probes
pub record CanProbe (row : PlainRow) (seen : Seen) (places : WalletPlaces) (moves : List Movement)
    (cells : List CellState) : Type 0 where
  pub apart : AreApart cells
  pub at : AreSeenAt cells seen places
  pub named : All (λ (move : Movement). any_hit move.wallet (roles_of seen) ≡ true) moves
  pub room : All (HasRoomFor row moves) cells

-- what is seen under a role at a cell's address is the cell
abbrev pub IsRight : CellState → Option WalletSeen → Type 0
IsRight cell role =
    (wallet : WalletSeen) → role ≡ Some wallet → is_same cell.address wallet.address ≡ true → wallet ≡ seen_of cell

-- the balance that is seen under a role is one of 64 bits
abbrev pub Fits : Option WalletSeen → Type 0
Fits None = Unit {0}
Fits (Some wallet) = wallet.balance < 2 ^ 64

-- a row sees these cells as they are, and each that it sees has room for an entry
pub record SeesCells (seen : Seen) (cells : List CellState) : Type 0 where
  pub apart : AreApart cells
  pub kept : All IsWalletCell cells
  pub right : All (λ (cell : CellState). All (IsRight cell) (roles_of seen)) cells
  pub fits : All Fits (roles_of seen)
  pub spare : All (λ (cell : CellState). any_hit cell.address (roles_of seen) ≡ true → HasSpare cell) cells

-- a row can act on its market's cell and on those of the wallets that it sees, which stand at these places
pub record CanActAt (asked : Row) (sees : Seen) (at : WalletPlaces) (cell : MarketCellState) (cells : List CellState) : Type 0 where
  pub row : IsFor asked sees cell
  pub market : IsMarketCell cell
  pub spare : market_cell.HasSpare cell
  pub wallets : SeesCells sees cells
  pub places : AreSeenAt cells sees at
