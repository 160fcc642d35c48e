-- The cells in hand, when they are those of all wallets that a row names: what it sees, and what it leaves.
use Rattle.std.proofs.Common.{◌≡◌, ℕ, true, List, [], ◌∷◌, length, map, Option, Some, None, refl, sym, ap, ◌∙◌, subst, arith}
use Rattle.dex_world.proofs.Common.{Address, All-head, All-tail, All-weaker, AllZip, Call, Movement, PlainAccount, PlainRow, Reply, Seen, Sees, Transfers, WalletSeen, WalletState, asked_of, cond-true, cond_both, entry_by, filter, is_same, list_any, movement_of, names, places-movements, role_at, row_wallets, seen_by, wallet_acted, wallet_at, wallet_entry_by, wallet_moved}
use Rattle.dex_turns.proofs.Common.{All-unmap, AreInHand, CellState, HasEntry, IsReady, IsSight, IsWalletCell, IsWalletSeen, MovesEach, PlainScript, Stamped, WalletWords, balance_of, entries_in, entry_made, made_of, wallet_state_of, wallet_words, wallet_words-with_amount, world_with}
use Rattle.std.specs.List.{All}
use Rattle.std.proofs.lemmas.List.{append-nil}
use Rattle.dex_history.proofs.WalletLaws.{movements-named}
use Rattle.dex_wallet.specs.CellState.{HasSpare, seen_of}
use Rattle.dex_act.specs.declared.places.WalletPlaces.{WalletPlaces}
use Rattle.dex_act.specs.Steps.{HasWallets}
use Rattle.dex_act.specs.Wallets.{AreApart, ArePlacesAmong}
use Rattle.dex_act.proofs.CellLists.{is_among-any}
use Rattle.dex_world.proofs.KeptMoves.{moves-kept}
use Rattle.dex_world.proofs.OnceLaws.{each-any}
use Rattle.dex_turns.specs.Submitted.{written_by}
use Rattle.dex_turns.specs.Turns.{AreRising}
use Rattle.dex_turns.proofs.Rising.{not-among}

abbrev address_in : CellState → Address
address_in cell = cell.address

-- ---- by address

apart-cells : (cells : List CellState) → AreRising (map address_in cells) → AreApart cells
apart-cells [] rising = tt
apart-cells (cell ∷ cells) rising = (is_among-any cell.address cells ∙ not-among cell.address (map address_in cells) rising.0, apart-cells cells rising.1)

-- the cells are of wallets of the script, each with room for an entry, by rising address
pub record HasHands (script : PlainScript) (cells : List CellState) : Type 0 where
  pub ready : All (IsReady script) cells
  pub rising : AreRising (map address_in cells)

-- the cells of all wallets of an item are in hand, in their order
pub hands-are : (script : PlainScript) (named : List Address) (cells : List CellState) → AreInHand script named [] cells → map address_in cells ≡ named
hands-are script named cells hand = sym (append-nil (map address_in cells)) ∙ hand.are

pub has-hands : (script : PlainScript) (named : List Address) (cells : List CellState) → AreInHand script named [] cells → AreRising named → HasHands script cells
has-hands script named cells hand rising =
    record { ready = hand.ready; rising = subst AreRising (sym (hands-are script named cells hand)) rising }

-- ---- what is seen of one of them

abbrev IsOf : WalletSeen → PlainAccount → Type 0
IsOf seen wallet =
    seen ≡ record { address = wallet.address; mint = (wallet_words wallet.bytes).mint; owner = (wallet_words wallet.bytes).owner; balance = seen.balance }

seen-so : (cell : CellState) → IsWalletCell cell → IsOf (seen_of cell) (record { address = cell.address; bytes = cell.start })
seen-so cell is =
    ap (λ (words : WalletWords). record (seen_of cell) { mint = words.mint; owner = words.owner })
    (ap wallet_words is.others ∙ wallet_words-with_amount cell.start (balance_of cell.bytes) (ap balance_of (sym is.others)))

cell-sight : (script : PlainScript) (cell : CellState) → IsReady script cell → IsWalletSeen script.start.wallets (Some (seen_of cell))
cell-sight script cell ready =
    let any = ready.start in (any.0, any.1, any.2, any.3, subst (IsOf (seen_of cell)) (sym any.4) (seen-so cell ready.kept))

at-sight : (script : PlainScript) (address : Address) (list : List CellState) → All (IsReady script) list → IsWalletSeen script.start.wallets (wallet_at address (map wallet_state_of list))
at-sight script address [] ready = tt
at-sight script address (cell ∷ others) ready =
    cond_both (is_same address cell.address) (Some (seen_of cell)) (wallet_at address (map wallet_state_of others)) (IsWalletSeen script.start.wallets)
    (λ same. cell-sight script cell (All-head (IsReady script) cell others ready))
    (λ apart. at-sight script address others (All-tail (IsReady script) cell others ready))

-- where the item is a row, each of the cells is named
pub cells-named : (script : PlainScript) (row : PlainRow) (cells : List CellState) → AreInHand script (row_wallets row) [] cells
    → All (λ (cell : CellState). names row cell.address ≡ true) cells
cells-named script row cells hand =
    All-unmap (λ (address : Address). names row address ≡ true) address_in cells
    (subst (λ (l : List Address). All (λ (address : Address). list_any (is_same address) l ≡ true) (map address_in cells))
    (hands-are script (row_wallets row) cells hand) (each-any (map address_in cells)))

module _ (script : PlainScript) (row : PlainRow) (cells : List CellState) (hand : HasHands script cells) where
  -- ---- the row can act on them

  pub has-wallets : (places : WalletPlaces) → ArePlacesAmong cells row places → HasWallets row places cells
  has-wallets places at = record {
    apart = apart-cells cells hand.rising;
    kept = All-weaker (IsReady script) IsWalletCell (λ cell ready. ready.kept) cells hand.ready;
    spare = All-weaker (IsReady script) (λ (cell : CellState). names row cell.address ≡ true → HasSpare cell) (λ cell ready named. ready.spare) cells hand.ready;
    at = at;
  }

  -- ---- it is a sight of the script

  role-sight : (role : Option Address) → IsWalletSeen script.start.wallets (role_at role (map wallet_state_of cells))
  role-sight None = tt
  role-sight (Some address) = at-sight script address cells hand.ready

  pub sight : IsSight script (seen_by row (world_with script cells))
  sight = record {
    coin = role-sight row.coin;
    pc = role-sight row.pc;
    discount = role-sight row.discount;
    referrer = role-sight row.referrer;
    srm = refl;
    msrm = refl;
    program = refl;
  }

-- ---- the call

module _ (row : PlainRow) (seen : Seen) (reply : Reply) (t : Transfers) (stamp : ℕ) (sees : Sees (asked_of row) seen) where
  abbrev pub call_by : Stamped Call
  call_by = record { item = record { asked = asked_of row; seen = seen; entry = entry_by row seen reply t }; stamp = stamp }

  -- it moves each wallet of its row
  pub moves-each : MovesEach call_by.item
  moves-each = ap (map (λ (move : Movement). move.wallet)) (places-movements seen t) ∙ movements-named (asked_of row) seen t sees

  -- its entry in the journal of a wallet that is named
  pub entry-named : (address : Address) → names row address ≡ true
      → entries_in address call_by ≡ record { item = wallet_entry_by row (movement_of seen t address); stamp = stamp } ∷ []
  entry-named address named =
      ap (λ (moves : List Movement). map (entry_made call_by) (filter (λ (move : Movement). is_same move.wallet address) moves)) (places-movements seen t)
      ∙ ap (map (entry_made call_by)) (moves-kept row seen t sees address ∙ cond-true (names row address) (movement_of seen t address ∷ []) [] named)

  -- a cell that acted has it
  pub has-entry : (before after : CellState) → names row before.address ≡ true → wallet_state_of after ≡ wallet_acted row seen t (wallet_state_of before) → IsWalletCell after
      → made_of after ≡ made_of before → HasEntry (written_by call_by) before after
  has-entry before after named acted kept made = record {
    entry = wallet_entry_by row (movement_of seen t before.address);
    is = entry-named before.address named;
    lane = refl;
    entries =
        ap (λ (state : WalletState). state.entries) acted
        ∙ ap (λ (state : WalletState). state.entries)
        (cond-true (names row before.address) (wallet_moved row (movement_of seen t before.address) (wallet_state_of before)) (wallet_state_of before) named);
    made = made;
    kept = kept;
  }

  abbrev states_of : List CellState → List WalletState
  states_of cells = map wallet_state_of cells

  pub have-entries : (before after : List CellState) → All (λ (cell : CellState). names row cell.address ≡ true) before
      → states_of after ≡ map (wallet_acted row seen t) (states_of before) → All IsWalletCell after → map made_of after ≡ map made_of before
      → AllZip (HasEntry (written_by call_by)) before after
  have-entries [] [] named acted kept made = tt
  have-entries (first ∷ before) (cell ∷ after) named acted kept made =
      let Named : CellState → Type 0 = λ c. names row c.address ≡ true in (
        has-entry first cell (All-head Named first before named) (let one = acted in cc) (All-head IsWalletCell cell after kept) (let one = made in cc),
        have-entries before after (All-tail Named first before named) (let rest = acted in cc) (All-tail IsWalletCell cell after kept) (let rest = made in cc),
      )
  have-entries _ _ named acted kept made = absurd (omega (arith, ap length made))
