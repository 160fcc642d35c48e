-- A wallet's journal with one entry more.
use Rattle.std.proofs.Common.{◌≡◌, ℕ, ◌≤◌, ◌<◌, List, [], ◌∷◌, ◌++◌, length, sym, ap, ◌∙◌, subst, arith, filter}
use Rattle.dex_world.proofs.Common.{Address, PlainRow, WalletEntry, names}
use Rattle.std.proofs.lemmas.List.{length_push}
use Rattle.std.proofs.lemmas.List.Sums.{length-filter}
use Rattle.dex_wallet.specs.CellState.{CellState, HasSpare, IsWalletCell}
use Rattle.dex_script_types.specs.PlainScript.{PlainScript}
use Rattle.dex_world.specs.RowsOf.{rows_naming, rows_of_wallet}
use Rattle.dex_stamps.specs.Stamped.{AreRising, items_of, stamped}
use Rattle.dex_journals.specs.Journals.{AddsEntry, BankWalletState, IsBankWallet, MayComeBack, TrailState, wallet_more}
use Rattle.dex_journals.specs.Journals.{entries_by, left_by, wallet_entries}
use Rattle.dex_journals.proofs.Counting.{fewer}
use Rattle.dex_journals.proofs.StampedLists.{below-more, items_of-stamped, lanes-more, rising-more}

-- how many rows of a lane name the wallet
abbrev rows_left : BankWalletState → ℕ → ℕ
rows_left wallet lane = length (rows_of_wallet lane wallet.cell.address wallet.script.rows)

-- where a lane has a row left, there is room for its entry
pub spare-wallet : (wallet : BankWalletState) → IsBankWallet wallet → (lane : ℕ)
    → entries_by lane wallet.cell.entries < length (rows_of_wallet lane wallet.cell.address wallet.script.rows)
    → HasSpare wallet.cell
spare-wallet wallet kept lane few =
    let naming = λ (row : PlainRow). names row wallet.cell.address in
    let shorter = fewer (λ (entry : WalletEntry). entry.lane) (λ (row : PlainRow). row.lane)
    wallet.cell.entries (filter naming wallet.script.rows) kept.lanes lane few in
    omega (arith, shorter, kept.room, length-filter naming wallet.script.rows)

-- the entries without their stamps are the cell's
pub items_of-entries : (wallet : BankWalletState) → length wallet.stamps ≡ length wallet.cell.entries
    → items_of (wallet_entries wallet) ≡ wallet.cell.entries
items_of-entries wallet counted = items_of-stamped wallet.cell.entries wallet.stamps counted

-- and what holds of a wallet holds of it with an entry more, of a lane that has a row left
pub wallet-more : (wallet : BankWalletState) (cell : CellState) (stamp : ℕ) (adds : AddsEntry wallet.cell cell)
    → IsBankWallet wallet → IsWalletCell cell
    → entries_by adds.entry.lane wallet.cell.entries
    < length (rows_of_wallet adds.entry.lane wallet.cell.address wallet.script.rows)
    → wallet.last < stamp
    → IsBankWallet (wallet_more wallet cell stamp)
wallet-more wallet cell stamp adds kept is_cell few above =
    let more = adds.entries in
    let address : cell.address ≡ wallet.cell.address = ap (λ (made : CellState). made.address) adds.made in
    let room : cell.room ≡ wallet.cell.room = ap (λ (made : CellState). made.room) adds.made in
    record {
      cell = is_cell;
      counted = omega (
        arith,
        length_push wallet.stamps stamp,
        length_push wallet.cell.entries adds.entry,
        ap length more,
        kept.counted,
      );
      rising = subst (λ (entries : List WalletEntry). AreRising (stamped entries (wallet.stamps ++ stamp ∷ []))) (sym more)
          (rising-more wallet.cell.entries wallet.stamps wallet.last adds.entry stamp kept.counted kept.rising kept.below
          above);
      below = below-more wallet.stamps wallet.last stamp kept.below above;
      room = room ∙ kept.room ∙ ap (λ (one : Address). rows_naming one wallet.script.rows) (sym address);
      lanes = λ lane. subst
          (λ (entries : List WalletEntry). entries_by lane entries
          ≤ length (rows_of_wallet lane cell.address wallet.script.rows)) (sym more)
          (subst (λ (one : Address). entries_by lane (wallet.cell.entries ++ adds.entry ∷ [])
          ≤ length (rows_of_wallet lane one wallet.script.rows)) (sym address)
          (lanes-more (λ (one : WalletEntry). one.lane) (rows_left wallet) wallet.cell.entries adds.entry kept.lanes few
          lane));
    }

-- ---- a wallet that comes back

-- a wallet of these parts
abbrev pub wallet_of : CellState → PlainScript → List ℕ → ℕ → BankWalletState
wallet_of cell script stamps last = record { cell = cell; stamps = stamps; last = last; script = script }

pub comes-back : (trail : TrailState) (cell : CellState) (stamp last : ℕ) (stamps : List ℕ) → MayComeBack trail cell
    → IsBankWallet (left_by trail) → IsWalletCell cell → trail.last < stamp
    → stamps ≡ trail.stamps ++ stamp ∷ [] → last ≡ stamp
    → IsBankWallet (wallet_of cell trail.script stamps last)
comes-back trail cell stamp last stamps may kept is_cell above stamped_is last_is =
    subst (λ (one : List ℕ). IsBankWallet (wallet_of cell trail.script one last)) (sym stamped_is)
    (subst (λ (one : ℕ). IsBankWallet (wallet_of cell trail.script (trail.stamps ++ stamp ∷ []) one)) (sym last_is)
    (wallet-more (left_by trail) cell stamp may.adds kept is_cell may.lane above))
