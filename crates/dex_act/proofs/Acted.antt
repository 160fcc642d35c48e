-- What a row does to cells is what it does to their wallets.
use Rattle.std.proofs.Common.{◌≡◌, ℕ, ◌<◌, ◌≤◌, ◌^◌, ◌⊎◌, inl, inr, Bool, true, false, ◌&&◌, ◌||◌, ltb, cond, List, [], ◌∷◌, map, refl, sym, ap, ◌∙◌, subst, arith, ⊎_elim}
use Rattle.dex_world.proofs.Common.{Address, CanMove, Market, Movement, PlainRow, Seen, Transfers, is_same, is_same-sym, is_same-true, names, places-movements, wallet-movement_by, wallet_acted, wallet_moved}
use Rattle.std.specs.List.{All, list_any}
use Rattle.std.proofs.Math.Bool.{and-true}
use Rattle.std.proofs.lemmas.Bool.{cases_Bool, cases_lt, cond-true, cond-false, cond_both, false≢true, and_right, or_parts, true_from_ne_false}
use Rattle.dex_types.specs.declared.movements.MoveKind.{MoveKind}
use Rattle.dex_types.specs.declared.movements.MoveKind.TheVariants.{Debit, Credit, Probe}
use Rattle.dex_types.specs.Wallets.{address_seen, balance_seen, brought_to, movement_by, movement_of, movements, seen_wallets, taken_from}
use Rattle.dex_history.specs.Journal.{front, places}
use Rattle.dex_history.proofs.AddressOrder.{times}
use Rattle.dex_world.proofs.OnceLaws.{none-any, roles-once}
use Rattle.dex_movements.specs.Amounts.{is_probe}
use Rattle.dex_wallet.specs.CellState.{CellState, HasSpare, IsWalletCell, balance_of}
use Rattle.dex_wallet.proofs.CellLaws.{IsWalletCell-with_entry}
use Rattle.dex_act.specs.Wallets.{Fits, HasRoomFor, IsRight, any_hit, cell_acted, cell_moved, cell_paid, move_probed, moved_some, moves_probed, probes, roles_of, wallet_state_of}
use Rattle.dex_act.proofs.Acting.{CellMoves, IsPossible, credits-as, debits-as, nothing-brought, nothing-taken, paid-debit, paid-not, probes-as, state-moved}
use Rattle.dex_act.proofs.CellLists.{moved_some-some}
use Rattle.dex_act.proofs.Made.{move_probed-address, paid-address}
use Rattle.dex_act.proofs.Seeing.{any-seen, balance-hit, balance_in-fits}

-- ---- probes, one after another

-- a cell after several probes, and it has room for them
record Probed (row : PlainRow) (moves : List Movement) (cell after : CellState) : Type 0 where
  is : moves_probed row moves cell ≡ after
  room : HasRoomFor row moves cell

module _ (row : PlainRow) (move : Address → Movement) (wallet : (address : Address) → (move address).wallet ≡ address) where
  -- a movement is a probe of a cell of its wallet alone
  probes-own : (first : Address) (cell : CellState) → probes (move first) cell ≡ (is_probe (move first).kind && is_same cell.address first)
  probes-own first cell =
      ap (λ (a : Address). is_probe (move first).kind && is_same a cell.address) (wallet first)
      ∙ ap (λ (b : Bool). is_probe (move first).kind && b) (is_same-sym first cell.address)

  -- one of another address is left as it is
  past : (first : Address) (others : List Address) (cell after : CellState) → is_same cell.address first ≡ false
      → Probed row (map move others) cell after → Probed row (map move (first ∷ others)) cell after
  past first others cell after apart rest =
      let no : probes (move first) cell ≡ false = probes-own first cell ∙ and_right (is_probe (move first).kind) (is_same cell.address first) apart in
      let stays : move_probed row (move first) cell ≡ cell = cond-false (probes (move first) cell) (cell_moved row Probe 0 cell) cell no in
      record {
        is = ap (moves_probed row (map move others)) stays ∙ rest.is;
        room = (λ hit. absurd (false≢true (sym no ∙ hit)), subst (HasRoomFor row (map move others)) (sym stays) rest.room);
      }

  not-probed : (addresses : List Address) (cell : CellState) → list_any (is_same cell.address) addresses ≡ false → Probed row (map move addresses) cell cell
  not-probed [] cell none = record { is = refl; room = tt }
  not-probed (first ∷ others) cell none =
      let each = or_parts (is_same cell.address first) (list_any (is_same cell.address) others) none in
      past first others cell cell each.0 (not-probed others cell each.1)

  -- one whose wallet stands there once is probed, where the movement is a probe
  probed-once : (addresses : List Address) (cell : CellState) → times cell.address addresses ≤ 1
      → (list_any (is_same cell.address) addresses ≡ true → is_probe (move cell.address).kind ≡ true → HasSpare cell)
      → Probed row (map move addresses) cell (cond (list_any (is_same cell.address) addresses && is_probe (move cell.address).kind) (cell_moved row Probe 0 cell) cell)
  probed-once [] cell once can = record { is = refl; room = tt }
  probed-once (first ∷ others) cell once can =
      let any : Bool = list_any (is_same cell.address) others in
      let looked : Bool → CellState = λ hit. cond (hit && is_probe (move cell.address).kind) (cell_moved row Probe 0 cell) cell in
      ⊎_elim
      (λ (own : is_same cell.address first ≡ true).
      let counted : ◌≡◌ {A = ℕ} (cond (is_same cell.address first) 1 0) 1 = ap (λ (b : Bool). cond b 1 0) own in
      let none : any ≡ false = none-any cell.address others (omega (arith, once, counted)) in
      let tested : probes (move first) cell ≡ is_probe (move cell.address).kind =
      probes-own first cell ∙ ap (λ (b : Bool). is_probe (move first).kind && b) own ∙ and-true (is_probe (move first).kind)
      ∙ ap (λ (a : Address). is_probe (move a).kind) (sym (is_same-true cell.address first own)) in
      let rest = not-probed others (move_probed row (move first) cell) (ap (λ (a : Address). list_any (is_same a) others) (move_probed-address row (move first) cell) ∙ none) in
      record {
        is = rest.is ∙ ap (λ (b : Bool). cond b (cell_moved row Probe 0 cell) cell) tested ∙ sym (ap (λ (b : Bool). looked (b || any)) own);
        room = (λ hit. can (ap (λ (b : Bool). b || any) own) (sym tested ∙ hit), rest.room);
      })
      (λ (apart : is_same cell.address first ≡ false).
      let counted : ◌≡◌ {A = ℕ} (cond (is_same cell.address first) 1 0) 0 = ap (λ (b : Bool). cond b 1 0) apart in
      subst (λ (b : Bool). Probed row (map move (first ∷ others)) cell (looked (b || any))) (sym apart)
      (past first others cell (looked any) apart (probed-once others cell (omega (arith, once, counted)) (λ hit. can (ap (λ (b : Bool). b || any) apart ∙ hit)))))
      (cases_Bool (is_same cell.address first))

-- a cell after a row's look at it
abbrev cell_looked : PlainRow → Seen → Transfers → CellState → CellState
cell_looked row seen t cell = cond (any_hit cell.address (roles_of seen) && is_probe (movement_of seen t cell.address).kind) (cell_moved row Probe 0 cell) cell

-- the probes of a row's movements are its looks at the wallets of its roles
probed-looked : (row : PlainRow) (seen : Seen) (t : Transfers) (cell : CellState)
    → (any_hit cell.address (roles_of seen) ≡ true → is_probe (movement_of seen t cell.address).kind ≡ true → HasSpare cell)
    → Probed row (front (places (movements seen t))) cell (cell_looked row seen t cell)
probed-looked row seen t cell can =
    let any : list_any (is_same cell.address) (seen_wallets seen) ≡ any_hit cell.address (roles_of seen) = any-seen cell.address seen in
    let once = probed-once row (movement_of seen t) (λ a. wallet-movement_by a (balance_seen seen a) (taken_from seen t a) (brought_to seen t a)) (seen_wallets seen) cell
    (roles-once (address_seen seen.coin) (address_seen seen.pc) (address_seen seen.discount) (address_seen seen.referrer) cell.address)
    (λ hit. can (sym any ∙ hit)) in
    record {
      is = ap (λ (l : List Movement). moves_probed row l cell) (places-movements seen t) ∙ once.is
          ∙ ap (λ (b : Bool). cond (b && is_probe (movement_of seen t cell.address).kind) (cell_moved row Probe 0 cell) cell) any;
      room = subst (λ (l : List Movement). HasRoomFor row l cell) (sym (places-movements seen t)) once.room;
    }

-- ---- a cell after a row

-- a movement tells the balance before it
before-movement_by : (address : Address) (before taken brought : ℕ) → (movement_by address before taken brought).before ≡ before
before-movement_by address before taken brought =
    cond_both (ltb 0 taken) _ _ (λ (move : Movement). move.before ≡ before) (λ some. refl)
    (λ none. cond_both (ltb 0 brought) _ _ (λ (move : Movement). move.before ≡ before) (λ some. refl) (λ probe. refl))

-- the movement of a wallet, by what is taken and brought
module _ (row : PlainRow) (seen : Seen) (m : Market) (t : Transfers) (cell : CellState) (moves : CellMoves seen m t cell) (right : All (IsRight cell) (roles_of seen))
    (spare : any_hit cell.address (roles_of seen) ≡ true → HasSpare cell) where
  abbrev address : Address
  address = cell.address

  abbrev move : Movement
  move = movement_of seen t address

  abbrev taken : ℕ
  taken = taken_from seen t address

  abbrev brought : ℕ
  brought = brought_to seen t address

  abbrev before : ℕ
  before = balance_seen seen address

  abbrev is_seen : Bool
  is_seen = any_hit address (roles_of seen)

  -- the cell after a movement
  abbrev after : Movement → CellState
  after x = cell_moved row x.kind x.amount cell

  -- it is seen, and moved
  record IsMoved : Type 0 where
    other : is_probe move.kind ≡ false
    hit : is_seen ≡ true
    paid : cell_paid row seen t cell ≡ after move

  -- or it is not moved
  record IsStill : Type 0 where
    is : move ≡ record { wallet = address; kind = Probe; amount = 0; before = before }
    paid : cell_paid row seen t cell ≡ cell

  moved-by : (kind : MoveKind) (amount : ℕ) → move ≡ record { wallet = address; kind = kind; amount = amount; before = before } → is_probe kind ≡ false
      → 0 < amount → (is_seen ≡ false → amount ≡ 0) → cell_paid row seen t cell ≡ cell_moved row kind amount cell → IsMoved
  moved-by kind amount is other some nothing paid = record {
    other = ap (λ (x : Movement). is_probe x.kind) is ∙ other;
    hit = true_from_ne_false is_seen (λ none. omega (arith, some, nothing none));
    paid = paid ∙ sym (ap after is);
  }

  moved-or-still : IsMoved ⊎ IsStill
  moved-or-still =
      ⊎_elim
      (λ (some : 0 < taken).
      let none : brought ≡ 0 = ⊎_elim (λ (no : taken ≡ 0). absurd (omega (arith, no, some))) (λ (no : brought ≡ 0). no) moves.one_way in
      inl (moved-by Debit taken (debits-as address before taken brought some) refl some (nothing-taken address seen t) (paid-debit row seen t cell some none)))
      (λ (le : taken ≤ 0).
      let none : taken ≡ 0 = omega (arith, le) in
      ⊎_elim
      (λ (some : 0 < brought).
      inl (moved-by Credit brought (credits-as address before taken brought none some) refl some (nothing-brought address seen t)
      (paid-not row seen t cell none ∙ moved_some-some row Credit brought cell some)))
      (λ (le_too : brought ≤ 0).
      let nothing : brought ≡ 0 = omega (arith, le_too) in
      inr (record {
        is = probes-as address before taken brought none nothing;
        paid = paid-not row seen t cell none ∙ ap (λ (n : ℕ). moved_some row Credit n cell) nothing;
      }))
      (cases_lt 0 brought))
      (cases_lt 0 taken)

  -- where it is looked at after what is paid, there is room for the entry
  probed : Probed row (front (places (movements seen t))) (cell_paid row seen t cell) (cell_looked row seen t (cell_paid row seen t cell))
  probed =
      let same : (cell_paid row seen t cell).address ≡ cell.address = paid-address row seen t cell in
      probed-looked row seen t (cell_paid row seen t cell) (λ hit probe.
      ⊎_elim
      (λ (moved : IsMoved). absurd (false≢true (sym moved.other ∙ ap (λ (a : Address). is_probe (movement_of seen t a).kind) (sym same) ∙ probe)))
      (λ (still : IsStill). subst HasSpare (sym still.paid) (spare (ap (λ (a : Address). any_hit a (roles_of seen)) (sym same) ∙ hit)))
      moved-or-still)

  pub room-paid : HasRoomFor row (front (places (movements seen t))) (cell_paid row seen t cell)
  room-paid = probed.room

  -- so it is moved as its movement says, if it is seen
  acted-whole : cell_acted row seen t cell ≡ cond is_seen (after move) cell
  acted-whole =
      probed.is
      ∙ ⊎_elim
      (λ (moved : IsMoved).
      ap (cell_looked row seen t) moved.paid
      ∙ cond-false (is_seen && is_probe move.kind) _ _ (and_right is_seen (is_probe move.kind) moved.other)
      ∙ sym (ap (λ (b : Bool). cond b (after move) cell) moved.hit))
      (λ (still : IsStill).
      ap (cell_looked row seen t) still.paid
      ∙ ap (λ (x : Movement). cond (is_seen && is_probe x.kind) (cell_moved row Probe 0 cell) cell) still.is
      ∙ ap (λ (b : Bool). cond b (cell_moved row Probe 0 cell) cell) (and-true is_seen)
      ∙ sym (ap (λ (x : Movement). cond is_seen (after x) cell) still.is))
      moved-or-still

  -- the wallet that it is then, and it is kept
  pub acted-state : (hits_are : names row address ≡ any_hit address (roles_of seen)) → IsWalletCell cell → All Fits (roles_of seen) → IsPossible move
      → (wallet_state_of (cell_acted row seen t cell) ≡ wallet_acted row seen t (wallet_state_of cell)) × IsWalletCell (cell_acted row seen t cell)
  acted-state hits_are kept fits possible =
      ⊎_elim
      (λ (hit : any_hit address (roles_of seen) ≡ true).
      let is : cell_acted row seen t cell ≡ after move = acted-whole ∙ ap (λ (b : Bool). cond b (after move) cell) hit in
      let own : before ≡ balance_of cell.bytes = balance-hit cell (roles_of seen) right hit in
      let stated : move.before ≡ balance_of cell.bytes = before-movement_by address before taken brought ∙ own in
      let small : balance_of cell.bytes < 2 ^ 64 = subst (λ (n : ℕ). n < 2 ^ 64) own (balance_in-fits address (roles_of seen) fits) in
      let can : CanMove move.kind move.amount (balance_of cell.bytes) = subst (CanMove move.kind move.amount) stated possible in (
        ap wallet_state_of is ∙ state-moved row move cell kept small stated can
            ∙ sym (cond-true (names row address) (wallet_moved row move (wallet_state_of cell)) (wallet_state_of cell) (hits_are ∙ hit)),
        subst IsWalletCell (sym is)
            (IsWalletCell-with_entry cell (record { market = row.market; lane = row.lane; row = row.number; kind = move.kind; amount = move.amount; before = balance_of cell.bytes })
            kept small refl can (spare hit)),
      ))
      (λ (none : any_hit address (roles_of seen) ≡ false).
      let is : cell_acted row seen t cell ≡ cell = acted-whole ∙ ap (λ (b : Bool). cond b (after move) cell) none in (
        ap wallet_state_of is ∙ sym (cond-false (names row address) (wallet_moved row move (wallet_state_of cell)) (wallet_state_of cell) (hits_are ∙ none)),
        subst IsWalletCell (sym is) kept,
      ))
      (cases_Bool (any_hit address (roles_of seen)))
