-- What no row changes of a cell.
use Rattle.std.proofs.Common.{◌≡◌, ℕ, zero, suc, ◌+◌, List, [], ◌∷◌, map, refl, ap, ◌∙◌}
use Rattle.dex_world.proofs.Common.{Movement, PlainRow, Seen, Transfers, cond_both}
use Rattle.dex_types.specs.declared.movements.MoveKind.{MoveKind}
use Rattle.dex_types.specs.declared.movements.MoveKind.TheVariants.{Debit, Credit, Probe}
use Rattle.dex_types.specs.Wallets.{amount_at, movements}
use Rattle.dex_history.specs.Journal.{front, places}
use Rattle.dex_wallet.specs.CellState.{CellState}
use Rattle.dex_world.proofs.MappedLists.{map-map}
use Rattle.dex_act.specs.Wallets.{AreApart, cell_acted, cell_debited, cell_moved, cell_paid, got_at, made_of, move_probed, moved_some, moves_probed, paid_at, probes}
use Rattle.dex_act.proofs.CellLists.{AreApart-map, KeepsAddress, map-same}

made-moved : (row : PlainRow) (kind : MoveKind) (amount : ℕ) (cell : CellState) → made_of (moved_some row kind amount cell) ≡ made_of cell
made-moved row kind zero cell = refl
made-moved row kind (suc amount) cell = refl

made-paid : (row : PlainRow) (seen : Seen) (t : Transfers) (cell : CellState) → made_of (cell_paid row seen t cell) ≡ made_of cell
made-paid row seen t cell =
    let paid : CellState = cell_debited row seen t.coin_in t.pc_in cell in
    made-moved row Credit (amount_at paid.address seen.coin t.coin_out + got_at seen t.pc_out t.referrer_out paid) paid
    ∙ made-moved row Debit (paid_at seen t.coin_in t.pc_in cell) cell

made-probed : (row : PlainRow) (moves : List Movement) (cell : CellState) → made_of (moves_probed row moves cell) ≡ made_of cell
made-probed row [] cell = refl
made-probed row (move ∷ moves) cell =
    made-probed row moves (move_probed row move cell)
    ∙ cond_both (probes move cell) (cell_moved row Probe 0 cell) cell (λ (c : CellState). made_of c ≡ made_of cell) (λ hit. refl) (λ none. refl)

-- a row's cell is of the wallet that it was, with the same start and the same room
made-acted : (row : PlainRow) (seen : Seen) (t : Transfers) (cell : CellState) → made_of (cell_acted row seen t cell) ≡ made_of cell
made-acted row seen t cell =
    made-probed row (front (places (movements seen t))) (cell_paid row seen t cell) ∙ made-paid row seen t cell

pub all-made : (row : PlainRow) (seen : Seen) (t : Transfers) (cells : List CellState) → map made_of (map (cell_acted row seen t) cells) ≡ map made_of cells
all-made row seen t cells = map-map (cell_acted row seen t) made_of cells ∙ map-same (λ cell. made_of (cell_acted row seen t cell)) made_of cells (made-acted row seen t)

-- so all cells keep their addresses, and no two of them have one
pub paid-address : (row : PlainRow) (seen : Seen) (t : Transfers) → KeepsAddress (cell_paid row seen t)
paid-address row seen t cell = ap (λ (c : CellState). c.address) (made-paid row seen t cell)

pub move_probed-address : (row : PlainRow) (move : Movement) → KeepsAddress (move_probed row move)
move_probed-address row move cell = ap (λ (c : CellState). c.address) (made-probed row (move ∷ []) cell)

pub AreApart-acted : (row : PlainRow) (seen : Seen) (t : Transfers) (cells : List CellState) → AreApart cells → AreApart (map (cell_acted row seen t) cells)
AreApart-acted row seen t cells apart = AreApart-map (cell_acted row seen t) cells (λ cell. ap (λ (c : CellState). c.address) (made-acted row seen t cell)) apart
