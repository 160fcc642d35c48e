-- What a row does to a cell.
use Rattle.std.proofs.Common.{◌≡◌, ℕ, ◌+◌, ◌<◌, ◌≤◌, ◌^◌, ◌⊎◌, inl, inr, Bool, true, false, ◌||◌, List, [], ◌∷◌, ◌++◌, Option, None, refl, sym, ap, ◌∙◌, subst, arith, ⊎_elim}
use Rattle.dex_world.proofs.Common.{Address, CanMove, Market, Movement, PlainRow, Seen, Transfers, WalletEntry, WalletSeen, WalletState, is_same, is_same-refl, is_same-true, moved_balance, wallet_moved}
use Rattle.std.specs.List.{All}
use Rattle.std.proofs.lemmas.Bool.{cases_lt, cond-true, cond-false, cond_both, false≢true, lt-ltb, le-ltb, true_from_ne_false}
use Rattle.dex_types.specs.declared.movements.MoveKind.TheVariants.{Debit, Credit, Probe}
use Rattle.dex_types.specs.Wallets.{amount_at, balance_seen, brought_to, movement_by, taken_from}
use Rattle.dex_token.specs.TokenAccount.{WalletWords, wallet_words}
use Rattle.dex_history.specs.Moves.{Moves}
use Rattle.dex_history.proofs.MintLaws.{AreOfMints, IsOfMint}
use Rattle.dex_wallet.specs.CellState.{CellState, HasSpare, IsWalletCell, balance_of}
use Rattle.dex_wallet.proofs.CellLaws.{words-with_entry}
use Rattle.dex_act.specs.Wallets.{CanGet, CanPut, CanTake, IsOf, IsRight, any_hit, cell_credited, cell_debited, cell_moved, cell_paid, got_at, hits, moved_some, paid_at, roles_of, wallet_state_of}
use Rattle.dex_act.proofs.CellLists.{moved_some-address, moved_some-some, none-at}
use Rattle.dex_act.proofs.Seeing.{balance-hit, no-hit}

-- ---- a movement that is possible

pub debits-as : (address : Address) (before taken brought : ℕ) → 0 < taken → movement_by address before taken brought ≡ record { wallet = address; kind = Debit; amount = taken; before = before }
debits-as address before taken brought some = cond-true _ _ _ (lt-ltb 0 taken some)

pub credits-as : (address : Address) (before taken brought : ℕ) → taken ≡ 0 → 0 < brought
    → movement_by address before taken brought ≡ record { wallet = address; kind = Credit; amount = brought; before = before }
credits-as address before taken brought none some = cond-false _ _ _ (le-ltb 0 taken (omega (arith, none))) ∙ cond-true _ _ _ (lt-ltb 0 brought some)

pub probes-as : (address : Address) (before taken brought : ℕ) → taken ≡ 0 → brought ≡ 0
    → movement_by address before taken brought ≡ record { wallet = address; kind = Probe; amount = 0; before = before }
probes-as address before taken brought none nothing =
    cond-false _ _ _ (le-ltb 0 taken (omega (arith, none))) ∙ cond-false _ _ _ (le-ltb 0 brought (omega (arith, nothing)))

abbrev pub IsPossible : Movement → Type 0
IsPossible move = CanMove move.kind move.amount move.before

covered : (address : Address) (before taken brought : ℕ) → 0 < taken → IsPossible (movement_by address before taken brought) → taken ≤ before
covered address before taken brought some possible =
    let can : (1 ≤ taken) × (taken ≤ before) = subst IsPossible (debits-as address before taken brought some) possible in
    can.1

fits-in : (address : Address) (before taken brought : ℕ) → taken ≡ 0 → 0 < brought → IsPossible (movement_by address before taken brought) → before + brought < 2 ^ 64
fits-in address before taken brought none some possible =
    let can : (1 ≤ brought) × (before + brought < 2 ^ 64) = subst IsPossible (credits-as address before taken brought none some) possible in
    can.1

-- ---- what is known of one cell

-- what a row moves: each wallet in a possible way, one token alone is taken, and wallets are of the mints
pub record RowMoves (seen : Seen) (m : Market) (t : Transfers) : Type 0 where
  pub moves : (address : Address) → Moves seen t address
  pub one_in : (t.coin_in ≡ 0) ⊎ (t.pc_in ≡ 0)
  pub mints : AreOfMints seen m t
  pub apart : is_same m.listing.coin_mint m.listing.pc_mint ≡ false

-- what a row moves of a cell
pub record CellMoves (seen : Seen) (m : Market) (t : Transfers) (cell : CellState) : Type 0 where
  pub one_way : (taken_from seen t cell.address ≡ 0) ⊎ (brought_to seen t cell.address ≡ 0)
  pub takes : CanTake (taken_from seen t cell.address) cell
  pub fits : (brought_to seen t cell.address ≡ 0) ⊎ (HasSpare cell × (balance_of cell.bytes + brought_to seen t cell.address < 2 ^ 64))
  pub coin_in : IsOf m.listing.coin_mint (amount_at cell.address seen.coin t.coin_in) cell
  pub pc_in : IsOf m.listing.pc_mint (amount_at cell.address seen.pc t.pc_in) cell
  pub coin_out : IsOf m.listing.coin_mint (amount_at cell.address seen.coin t.coin_out) cell
  pub pc_out : IsOf m.listing.pc_mint (amount_at cell.address seen.pc t.pc_out) cell
  pub referrer_out : IsOf m.listing.pc_mint (amount_at cell.address seen.referrer t.referrer_out) cell

-- a role's wallet that moves is of the mint
is-of : (cell : CellState) (mint : Address) (role : Option WalletSeen) (amount : ℕ) → IsRight cell role → IsOfMint mint role amount → IsOf mint (amount_at cell.address role amount) cell
is-of cell mint role amount right (inl none) = inl (none-at cell.address role amount none)
is-of cell mint role amount right (inr named) =
    let wallet : WalletSeen = named.0 in
    subst (λ (r : Option WalletSeen). IsOf mint (amount_at cell.address r amount) cell) (sym named.1)
    (cond_both (is_same cell.address wallet.address) amount 0 (λ (n : ℕ). IsOf mint n cell)
    (λ own. inr (is_same-true mint wallet.mint named.2 ∙ ap (λ (w : WalletSeen). w.mint) (right wallet named.1 own)))
    (λ other. inl refl))

-- of four tests that all fail the first two and the last fail
no-hits : (a b c d : Bool) → (a || (b || (c || (d || false)))) ≡ false → (a ≡ false) × (b ≡ false) × (d ≡ false)
no-hits false false false false none = (refl, refl, refl)
no-hits _ _ _ _ none = absurd (cc)

-- where no role's wallet is at the address nothing is taken there or brought there
module _ (address : Address) (seen : Seen) (t : Transfers) (none : any_hit address (roles_of seen) ≡ false) where
  misses : (hits address seen.coin ≡ false) × (hits address seen.pc ≡ false) × (hits address seen.referrer ≡ false)
  misses = no-hits (hits address seen.coin) (hits address seen.pc) (hits address seen.discount) (hits address seen.referrer) none

  pub nothing-taken : taken_from seen t address ≡ 0
  nothing-taken = omega (arith, no-hit address seen.coin t.coin_in misses.0, no-hit address seen.pc t.pc_in misses.1)

  pub nothing-brought : brought_to seen t address ≡ 0
  nothing-brought =
      omega (arith, no-hit address seen.coin t.coin_out misses.0, no-hit address seen.pc t.pc_out misses.1, no-hit address seen.referrer t.referrer_out misses.2)

pub cell-moves : (seen : Seen) (m : Market) (t : Transfers) (cell : CellState) → RowMoves seen m t → All (IsRight cell) (roles_of seen)
    → (any_hit cell.address (roles_of seen) ≡ true → HasSpare cell) → CellMoves seen m t cell
cell-moves seen m t cell moves right spare =
    let address : Address = cell.address in
    let taken : ℕ = taken_from seen t address in
    let brought : ℕ = brought_to seen t address in
    let is_seen : Bool = any_hit address (roles_of seen) in
    record {
      one_way = (moves.moves address).one_way;
      takes = ⊎_elim
          (λ (some : 0 < taken).
          let hit : is_seen ≡ true = true_from_ne_false is_seen (λ none. omega (arith, some, nothing-taken address seen t none)) in
          let before : balance_seen seen address ≡ balance_of cell.bytes = balance-hit cell (roles_of seen) right hit in
          inr (spare hit, omega (arith, before, covered address (balance_seen seen address) taken brought some (moves.moves address).possible)))
          (λ (none : taken ≤ 0). inl (omega (arith, none)))
          (cases_lt 0 taken);
      fits = ⊎_elim
          (λ (some : 0 < brought).
          let hit : is_seen ≡ true = true_from_ne_false is_seen (λ none. omega (arith, some, nothing-brought address seen t none)) in
          let before : balance_seen seen address ≡ balance_of cell.bytes = balance-hit cell (roles_of seen) right hit in
          let none : taken ≡ 0 = ⊎_elim (λ (no : taken ≡ 0). no) (λ (no : brought ≡ 0). absurd (omega (arith, no, some))) (moves.moves address).one_way in
          inr (spare hit, omega (arith, before, fits-in address (balance_seen seen address) taken brought none some (moves.moves address).possible)))
          (λ (none : brought ≤ 0). inl (omega (arith, none)))
          (cases_lt 0 brought);
      coin_in = is-of cell m.listing.coin_mint seen.coin t.coin_in (right 0 None (omega arith)) moves.mints.coin_in;
      pc_in = is-of cell m.listing.pc_mint seen.pc t.pc_in (right 1 None (omega arith)) moves.mints.pc_in;
      coin_out = is-of cell m.listing.coin_mint seen.coin t.coin_out (right 0 None (omega arith)) moves.mints.coin_out;
      pc_out = is-of cell m.listing.pc_mint seen.pc t.pc_out (right 1 None (omega arith)) moves.mints.pc_out;
      referrer_out = is-of cell m.listing.pc_mint seen.referrer t.referrer_out (right 3 None (omega arith)) moves.mints.referrer_out;
    }

-- ---- what it gets

-- a part of what is brought can be put into a cell of the mint
can-put : (mint : Address) (amount brought : ℕ) (cell : CellState) → IsOf mint amount cell → (brought ≡ 0) ⊎ (HasSpare cell × (balance_of cell.bytes + brought < 2 ^ 64))
    → amount ≤ brought → CanPut mint amount cell
can-put mint amount brought cell (inl none) fits part = inl none
can-put mint amount brought cell (inr is) (inl none) part = inl (omega (arith, none, part))
can-put mint amount brought cell (inr is) (inr can) part = inr (can.0, is, omega (arith, can.1, part))

both-of : (mint : Address) (one other : ℕ) (cell : CellState) → IsOf mint one cell → IsOf mint other cell → IsOf mint (one + other) cell
both-of mint one other cell (inl none) (inl nothing) = inl (omega (arith, none, nothing))
both-of mint one other cell (inr is) of = inr is
both-of mint one other cell of (inr is) = inr is

gets-one : (seen : Seen) (m : Market) (t : Transfers) (cell : CellState) → is_same m.listing.coin_mint m.listing.pc_mint ≡ false → CellMoves seen m t cell
    → CanGet m.listing.coin_mint m.listing.pc_mint (amount_at cell.address seen.coin t.coin_out) (got_at seen t.pc_out t.referrer_out cell) cell
gets-one seen m t cell apart moves =
    let coin : Address = m.listing.coin_mint in
    let pc : Address = m.listing.pc_mint in
    let first : ℕ = amount_at cell.address seen.coin t.coin_out in
    let others : ℕ = got_at seen t.pc_out t.referrer_out cell in
    let brought : ℕ = brought_to seen t cell.address in
    let of_pc : IsOf pc others cell =
    both-of pc (amount_at cell.address seen.pc t.pc_out) (amount_at cell.address seen.referrer t.referrer_out) cell moves.pc_out moves.referrer_out in
    ⊎_elim
    (λ (no_coin : first ≡ 0). inl (no_coin, can-put pc others brought cell of_pc moves.fits (omega arith)))
    (λ (is_coin : coin ≡ (wallet_words cell.bytes).mint).
    ⊎_elim
    (λ (no_pc : others ≡ 0). inr (no_pc, can-put coin first brought cell moves.coin_out moves.fits (omega arith)))
    (λ (is_pc : pc ≡ (wallet_words cell.bytes).mint). absurd (false≢true (sym apart ∙ ap (is_same coin) (is_pc ∙ sym is_coin) ∙ is_same-refl coin)))
    of_pc)
    moves.coin_out

-- after it paid
pub gets-after : (row : PlainRow) (seen : Seen) (m : Market) (t : Transfers) (cell : CellState) → is_same m.listing.coin_mint m.listing.pc_mint ≡ false → CellMoves seen m t cell
    → let paid = cell_debited row seen t.coin_in t.pc_in cell in
    CanGet m.listing.coin_mint m.listing.pc_mint (amount_at paid.address seen.coin t.coin_out) (got_at seen t.pc_out t.referrer_out paid) paid
gets-after row seen m t cell apart moves =
    let paid : CellState = cell_debited row seen t.coin_in t.pc_in cell in
    let Gets : CellState → Type 0 =
    λ c. CanGet m.listing.coin_mint m.listing.pc_mint (amount_at c.address seen.coin t.coin_out) (got_at seen t.pc_out t.referrer_out c) c in
    let stays : paid.address ≡ cell.address = moved_some-address row Debit (paid_at seen t.coin_in t.pc_in cell) cell in
    ⊎_elim
    (λ (none : taken_from seen t cell.address ≡ 0).
    let same : paid ≡ cell = ap (λ (n : ℕ). moved_some row Debit n cell) none in
    subst Gets (sym same) (gets-one seen m t cell apart moves))
    (λ (none : brought_to seen t cell.address ≡ 0).
    let no_coin : amount_at cell.address seen.coin t.coin_out ≡ 0 = omega (arith, none) in
    let no_pc : got_at seen t.pc_out t.referrer_out cell ≡ 0 = omega (arith, none) in
    inl (
      ap (λ (a : Address). amount_at a seen.coin t.coin_out) stays ∙ no_coin,
      inl (ap (λ (a : Address). amount_at a seen.pc t.pc_out + amount_at a seen.referrer t.referrer_out) stays ∙ no_pc),
    ))
    moves.one_way

-- ---- what it is after both

pub paid-debit : (row : PlainRow) (seen : Seen) (t : Transfers) (cell : CellState) → 0 < taken_from seen t cell.address → brought_to seen t cell.address ≡ 0
    → cell_paid row seen t cell ≡ cell_moved row Debit (taken_from seen t cell.address) cell
paid-debit row seen t cell some none =
    let paid : CellState = cell_debited row seen t.coin_in t.pc_in cell in
    let stays : paid.address ≡ cell.address = moved_some-address row Debit (paid_at seen t.coin_in t.pc_in cell) cell in
    let nothing : amount_at paid.address seen.coin t.coin_out + got_at seen t.pc_out t.referrer_out paid ≡ 0 =
    ap (λ (a : Address). amount_at a seen.coin t.coin_out + (amount_at a seen.pc t.pc_out + amount_at a seen.referrer t.referrer_out)) stays ∙ omega (arith, none) in
    ap (λ (x : ℕ). moved_some row Credit x paid) nothing ∙ moved_some-some row Debit (taken_from seen t cell.address) cell some

pub paid-not : (row : PlainRow) (seen : Seen) (t : Transfers) (cell : CellState) → taken_from seen t cell.address ≡ 0
    → cell_paid row seen t cell ≡ moved_some row Credit (brought_to seen t cell.address) cell
paid-not row seen t cell none =
    let same : cell_debited row seen t.coin_in t.pc_in cell ≡ cell = ap (λ (n : ℕ). moved_some row Debit n cell) none in
    let sum : amount_at cell.address seen.coin t.coin_out + got_at seen t.pc_out t.referrer_out cell ≡ brought_to seen t cell.address = omega arith in
    ap (cell_credited row seen t.coin_out t.pc_out t.referrer_out) same ∙ ap (λ (n : ℕ). moved_some row Credit n cell) sum

-- ---- the wallet that it is then

pub state-moved : (row : PlainRow) (move : Movement) (cell : CellState) → IsWalletCell cell → balance_of cell.bytes < 2 ^ 64 → move.before ≡ balance_of cell.bytes
    → CanMove move.kind move.amount (balance_of cell.bytes) → wallet_state_of (cell_moved row move.kind move.amount cell) ≡ wallet_moved row move (wallet_state_of cell)
state-moved row move cell kept fits before can =
    let entry : ℕ → WalletEntry = λ b. record {
      market = row.market;
      lane = row.lane;
      row = row.number;
      kind = move.kind;
      amount = move.amount;
      before = b;
    } in
    let words = words-with_entry cell (entry (balance_of cell.bytes)) kept fits can in
    let state : WalletWords → List WalletEntry → WalletState = λ w es. record {
      seen = record { address = cell.address; mint = w.mint; owner = w.owner; balance = w.amount };
      entries = es;
    } in
    ap (λ (w : WalletWords). state w (cell.entries ++ entry (balance_of cell.bytes) ∷ [])) words
    ∙ ap (λ (b : ℕ). state (record (wallet_words cell.bytes) { amount = moved_balance move.kind move.amount (balance_of cell.bytes) }) (cell.entries ++ entry b ∷ [])) (sym before)
