-- The deposits and payouts of a row, and the cells that can make them.
use Rattle.std.proofs.Common.{◌≡◌, ℕ, ◌&&◌, Bool, inl, inr, true, List, map, get_or, Option, refl, sym, ap, ◌∙◌, subst, arith}
use Rattle.dex_world.proofs.Common.{Address, All-map, IsSound, Market, Movement, PlainRow, Seen, WalletSeen, cond-true, places-movements, wallet-movement_by, wallet_acted}
use Rattle.std.specs.List.{All}
use Rattle.dex_types.specs.Transfers.{Transfers, no_transfers}
use Rattle.dex_types.specs.declared.movements.MoveKind.TheVariants.{Debit, Credit}
use Rattle.dex_types.specs.Wallets.{amount_at, balance_seen, brought_to, movement_of, movements, seen_wallets, taken_from}
use Rattle.dex_history.specs.Journal.{Asked, Call, Sees, acted_of, asked_of, asked_step, front, idle, is_held, is_take, places}
use Rattle.dex_history.proofs.HeldLaws.{acted-sees}
use Rattle.dex_history.proofs.MintLaws.{IsOfMint}
use Rattle.dex_history.proofs.StepMints.{row-of}
use Rattle.dex_history.proofs.StepMoves.{row-can, row-moves}
use Rattle.dex_cell.specs.CellState.{held_made}
use Rattle.dex_cell.specs.Paying.{paid_out, parcel_of}
use Rattle.dex_world.proofs.MappedLists.{map-agree, map-map}
use Rattle.dex_wallet.specs.CellState.{CellState, IsWalletCell}
use Rattle.dex_act.specs.declared.places.WalletPlaces.{WalletPlaces}
use Rattle.dex_act.specs.Acted.{HaveActed}
use Rattle.dex_act.specs.Wallets.{AreSeenAt, CanBePaid, CanGet, CanPay, CanProbe, HasRoomFor, NamesFor, SeesCells, amount_in, any_hit, cell_acted, cell_credited, cell_debited, cell_paid, got_at, moved_some, paid_at, roles_of, wallet_state_of}
use Rattle.dex_act.proofs.CellLists.{AreApart-map, KeepsAddress, addresses-kept, all-still, map-identity, moved_some-address, none-at}
use Rattle.dex_act.proofs.WalletMoves.{amount_in-parcel_of}
use Rattle.dex_act.proofs.Seeing.{seen-hit}
use Rattle.dex_act.proofs.Sights.{named-hit}
use Rattle.dex_act.proofs.Made.{AreApart-acted, all-made, paid-address}
use Rattle.dex_act.proofs.Acting.{CellMoves, RowMoves, cell-moves, gets-after, paid-not}
use Rattle.dex_act.proofs.Acted.{acted-state, room-paid}

-- ---- what moves

-- what a row moves on a sound market
pub moves-of-asked : (asked : Asked) (seen : Seen) (m : Market) → IsSound m → Sees asked seen → RowMoves seen m (asked_step asked seen m).transfers
moves-of-asked asked seen m sound sees = record {
  moves = λ address. row-moves asked seen m address sound sees;
  one_in = (row-can asked seen m sound sees).one_in;
  mints = row-of asked seen m;
  apart = sound.form.mints;
}

-- a take that is held back moves nothing, which is possible
pub held-moves : (row : PlainRow) (seen : Seen) (m : Market) → is_take (asked_of row).request.instruction ≡ true → IsSound m → Sees (asked_of row) seen → RowMoves seen m no_transfers
held-moves row seen m take sound sees =
    let call : Call = held_made row seen in
    let is_idle : acted_of call ≡ idle call.asked = cond-true (is_held call) (idle call.asked) call.asked (ap (λ (b : Bool). b && true) take) in
    moves-of-asked (idle call.asked) seen m sound (subst (λ (asked : Asked). Sees asked seen) is_idle (acted-sees call sees))

named : (mint : Address) (role : Option WalletSeen) (amount : ℕ) → IsOfMint mint role amount → NamesFor amount role
named mint role amount (inl none) = inl none
named mint role amount (inr is) = inr (is.0, is.1)

-- ---- wallets that a row sees pay, and are paid

module _ (row : PlainRow) (seen : Seen) (m : Market) (t : Transfers) (cells : List CellState) (stand : WalletPlaces) (moves : RowMoves seen m t) (sees : SeesCells seen cells)
    (at : AreSeenAt cells seen stand) where
  pub each-moves : All (CellMoves seen m t) cells
  each-moves k default lt = cell-moves seen m t (get_or cells k default) moves (sees.right k default lt) (sees.spare k default lt)

  pub can-pay : CanPay seen stand t.coin_in t.pc_in cells
  can-pay = record {
    apart = sees.apart;
    at = at;
    coin_named = named m.listing.coin_mint seen.coin t.coin_in moves.mints.coin_in;
    pc_named = named m.listing.pc_mint seen.pc t.pc_in moves.mints.pc_in;
    one = moves.one_in;
    each = λ k default lt. (each-moves k default lt).takes;
  }

  -- after the deposits
  abbrev debited : CellState → CellState
  debited = cell_debited row seen t.coin_in t.pc_in

  coin_is : amount_in (parcel_of m.listing.coin_mint t.coin_out) ≡ t.coin_out
  coin_is = amount_in-parcel_of m.listing.coin_mint t.coin_out

  pc_is : amount_in (parcel_of m.listing.pc_mint t.pc_out) ≡ t.pc_out
  pc_is = amount_in-parcel_of m.listing.pc_mint t.pc_out

  referrer_is : amount_in (parcel_of m.listing.pc_mint t.referrer_out) ≡ t.referrer_out
  referrer_is = amount_in-parcel_of m.listing.pc_mint t.referrer_out

  pub can-be-paid : let payouts = paid_out m t in CanBePaid seen stand payouts.coin payouts.pc payouts.referrer (map (cell_debited row seen t.coin_in t.pc_in) cells)
  can-be-paid =
      let keeps : KeepsAddress debited = λ cell. moved_some-address row Debit (paid_at seen t.coin_in t.pc_in cell) cell in
      let Gets : CellState → Type 0 =
      λ cell. CanGet m.listing.coin_mint m.listing.pc_mint (amount_at cell.address seen.coin t.coin_out) (got_at seen t.pc_out t.referrer_out cell) cell in
      let gets : All Gets (map debited cells) = All-map Gets debited cells (λ k default lt. gets-after row seen m t (get_or cells k default) moves.apart (each-moves k default lt)) in
      record {
        coin_mint = m.listing.coin_mint;
        pc_mint = m.listing.pc_mint;
        coin_is = ap (parcel_of m.listing.coin_mint) (sym coin_is);
        pc_is = ap (parcel_of m.listing.pc_mint) (sym pc_is);
        referrer_is = ap (parcel_of m.listing.pc_mint) (sym referrer_is);
        apart = AreApart-map debited cells keeps sees.apart;
        at = all-still cells (map debited cells) (addresses-kept debited cells keeps) at;
        coin_named = subst (λ (n : ℕ). NamesFor n seen.coin) (sym coin_is) (named m.listing.coin_mint seen.coin t.coin_out moves.mints.coin_out);
        pc_named = subst (λ (n : ℕ). NamesFor n seen.pc) (sym pc_is) (named m.listing.pc_mint seen.pc t.pc_out moves.mints.pc_out);
        referrer_named = subst (λ (n : ℕ). NamesFor n seen.referrer) (sym referrer_is) (named m.listing.pc_mint seen.referrer t.referrer_out moves.mints.referrer_out);
        each = rw (coin_is, pc_is, referrer_is) gets;
      }

  -- the cells after both
  pub paid-whole : let payouts = paid_out m t in
      map (cell_credited row seen (amount_in payouts.coin) (amount_in payouts.pc) (amount_in payouts.referrer)) (map (cell_debited row seen t.coin_in t.pc_in) cells)
      ≡ map (cell_paid row seen t) cells
  paid-whole = rw (coin_is, pc_is, referrer_is) (map-map debited (cell_credited row seen t.coin_out t.pc_out t.referrer_out) cells)

  -- and the looks behind that
  pub can-probe : CanProbe row seen stand (front (places (movements seen t))) (map (cell_paid row seen t) cells)
  can-probe =
      let Named : Movement → Type 0 = λ move. any_hit move.wallet (roles_of seen) ≡ true in
      record {
        apart = AreApart-map (cell_paid row seen t) cells (paid-address row seen t) sees.apart;
        at = all-still cells (map (cell_paid row seen t) cells) (addresses-kept (cell_paid row seen t) cells (paid-address row seen t)) at;
        named = subst (All Named) (sym (places-movements seen t))
            (All-map Named (movement_of seen t) (seen_wallets seen) (λ k default lt.
            let a : Address = get_or (seen_wallets seen) k default in
            ap (λ (b : Address). any_hit b (roles_of seen)) (wallet-movement_by a (balance_seen seen a) (taken_from seen t a) (brought_to seen t a)) ∙ seen-hit seen k default lt));
        room = All-map (HasRoomFor row (front (places (movements seen t)))) (cell_paid row seen t) cells
            (λ k default lt. room-paid row seen m t (get_or cells k default) (each-moves k default lt) (sees.right k default lt) (sees.spare k default lt));
      }

  -- what it all is to the wallets: their cells are what they must be, and are as the fold says
  pub have-acted : Sees (asked_of row) seen → HaveActed row seen t cells (map (cell_acted row seen t) cells)
  have-acted sees_row = record {
    states =
        map-map (cell_acted row seen t) wallet_state_of cells
        ∙ map-agree (λ cell. wallet_state_of (cell_acted row seen t cell)) (λ cell. wallet_acted row seen t (wallet_state_of cell)) cells
        (λ k default lt. (one k default lt).0)
        ∙ sym (map-map wallet_state_of (wallet_acted row seen t) cells);
    kept = All-map IsWalletCell (cell_acted row seen t) cells (λ k default lt. (one k default lt).1);
    apart = AreApart-acted row seen t cells sees.apart;
    made = all-made row seen t cells;
  }
    where
      one : All (λ (cell : CellState). (wallet_state_of (cell_acted row seen t cell) ≡ wallet_acted row seen t (wallet_state_of cell)) × IsWalletCell (cell_acted row seen t cell)) cells
      one k default lt =
          let cell : CellState = get_or cells k default in
          acted-state row seen m t cell (each-moves k default lt) (sees.right k default lt) (sees.spare k default lt)
          (named-hit row seen cell.address sees_row) (sees.kept k default lt) sees.fits (moves.moves cell.address).possible

-- where nothing moves all stay
pub paid-nothing : (row : PlainRow) (seen : Seen) (t : Transfers) (cells : List CellState) → t ≡ no_transfers → map (cell_paid row seen t) cells ≡ cells
paid-nothing row seen t cells none =
    ap (λ (x : Transfers). map (cell_paid row seen x) cells) none ∙ map-identity (cell_paid row seen no_transfers) cells still
  where
    still : (cell : CellState) → cell_paid row seen no_transfers cell ≡ cell
    still cell =
        let taken : taken_from seen no_transfers cell.address ≡ 0 = omega (arith, none-at cell.address seen.coin 0 refl, none-at cell.address seen.pc 0 refl) in
        let got : brought_to seen no_transfers cell.address ≡ 0 =
        omega (arith, none-at cell.address seen.coin 0 refl, none-at cell.address seen.pc 0 refl, none-at cell.address seen.referrer 0 refl) in
        paid-not row seen no_transfers cell taken ∙ ap (λ (n : ℕ). moved_some row Credit n cell) got
