-- Cells that a row looks at, by its movements.
use Rattle.std.proofs.Common.{◌≡◌, ℕ, suc, ◌+◌, ◌<◌, ◌⊎◌, inl, inr, Bool, true, false, ◌&&◌, List, [], ◌∷◌, length, map, set, get_or, drop, drop-cons, Option, Some, None, refl, sym, ap, ◌∙◌, subst, arith}
use Rattle.dex_world.proofs.Common.{All-cons, All-head, All-map, All-nil, All-tail, All-weaker, Movement, PlainRow, Seen, is_same}
use Rattle.std.proofs.lemmas.Bool.{and_right, cond-true, cond-false}
use Rattle.dex_types.specs.declared.movements.MoveKind.{MoveKind}
use Rattle.dex_types.specs.declared.movements.MoveKind.TheVariants.{Debit, Credit, Probe}
use Rattle.dex_history.specs.Journal.{front}
use Rattle.dex_movements.specs.Amounts.{is_probe}
use Rattle.dex_world.proofs.MappedLists.{map-map}
use Rattle.dex_wallet.specs.CellState.{CellState}
use Rattle.dex_act.specs.declared.places.WalletPlaces.{WalletPlaces}
use Rattle.dex_act.specs.Wallets.{CanProbe, HasRoomFor, IsAt, any_hit, cell_moved, move_probed, moves_probed, roles_of}
use Rattle.dex_act.proofs.CellLists.{AreApart-map, KeepsAddress, addresses-kept, all-still, changed-here, map-identity}
use Rattle.dex_act.proofs.Made.{move_probed-address}

-- ---- one movement

-- the cell of its wallet is looked at
pub probed-here : (row : PlainRow) (seen : Seen) (places : WalletPlaces) (move : Movement) (cells new : List CellState) (place : ℕ) → move.kind ≡ Probe
    → CanProbe row seen places (move ∷ []) cells → IsAt move.wallet cells place
    → (default : CellState) → new ≡ set cells place (cell_moved row Probe 0 (get_or cells place default)) → new ≡ map (move_probed row move) cells
probed-here row seen places move cells new place kind can at default moved =
    changed-here move.wallet (move_probed row move) (cell_moved row Probe 0) cells new place can.apart at
    (λ cell other. cond-false _ _ _ (and_right (is_probe move.kind) (is_same move.wallet cell.address) other))
    (λ cell own. cond-true _ _ _ (ap (λ (k : MoveKind). is_probe k && is_same move.wallet cell.address) kind ∙ own)) default moved

-- or the movement is a debit or a credit, and none is
pub probed-none : (row : PlainRow) (move : Movement) (cells : List CellState) → (move.kind ≡ Debit) ⊎ (move.kind ≡ Credit) → cells ≡ map (move_probed row move) cells
probed-none row move cells is =
    sym (map-identity (move_probed row move) cells (λ cell. cond-false _ _ _ (ap (λ (b : Bool). b && is_same move.wallet cell.address) (other move.kind is))))
  where
    other : (kind : MoveKind) → (kind ≡ Debit) ⊎ (kind ≡ Credit) → is_probe kind ≡ false
    other kind (inl is) = ap is_probe is
    other kind (inr is) = ap is_probe is

-- ---- several

-- what is in front from a place on
module _ (moves : List (Option Movement)) (place : ℕ) (default : Option Movement) (within : place < length moves) where
  front-more : (move : Movement) → get_or moves place default ≡ Some move → front (drop place moves) ≡ move ∷ front (drop (place + 1) moves)
  front-more move is =
      let next : suc place ≡ place + 1 = omega arith in
      rw (drop-cons moves place default within, is) (ap (λ (n : ℕ). move ∷ front (drop n moves)) next)

  pub front-end : get_or moves place default ≡ None → front (drop place moves) ≡ []
  front-end is = rw (drop-cons moves place default within, is) refl

-- the cells before the movements that are left
pub record Probing (row : PlainRow) (seen : Seen) (places : WalletPlaces) (moves left : List Movement) (start cells : List CellState) : Type 0 where
  pub can : CanProbe row seen places left cells
  pub whole : map (moves_probed row left) cells ≡ map (moves_probed row moves) start

module _ {row : PlainRow} {seen : Seen} {places : WalletPlaces} {moves : List Movement} {start cells : List CellState} where
  -- the first of those that are left
  pub probing-one : {move : Movement} {left : List Movement} → Probing row seen places moves (move ∷ left) start cells → CanProbe row seen places (move ∷ []) cells
  probing-one {move} {left} probing =
      let Seen-by : Movement → Type 0 = λ m. any_hit m.wallet (roles_of seen) ≡ true in
      record {
        apart = probing.can.apart;
        at = probing.can.at;
        named = All-cons Seen-by move [] (All-head Seen-by move left probing.can.named) (All-nil Seen-by);
        room = All-weaker (HasRoomFor row (move ∷ left)) (HasRoomFor row (move ∷ [])) (λ cell can. (can.0, tt)) cells probing.can.room;
      }

  -- and the others after it
  pub probing-more : {move : Movement} {left : List Movement} (new : List CellState) → Probing row seen places moves (move ∷ left) start cells
      → new ≡ map (move_probed row move) cells → Probing row seen places moves left start new
  probing-more {move} {left} new probing is =
      let change : CellState → CellState = move_probed row move in
      let keeps : KeepsAddress change = move_probed-address row move in
      record {
        can = subst (CanProbe row seen places left) (sym is)
            (record {
              apart = AreApart-map change cells keeps probing.can.apart;
              at = all-still cells (map change cells) (addresses-kept change cells keeps) probing.can.at;
              named = All-tail (λ (m : Movement). any_hit m.wallet (roles_of seen) ≡ true) move left probing.can.named;
              room = All-map (HasRoomFor row left) change cells
                  (All-weaker (HasRoomFor row (move ∷ left)) (λ (cell : CellState). HasRoomFor row left (change cell)) (λ cell can. can.1) cells probing.can.room);
            });
        whole = ap (map (moves_probed row left)) is ∙ map-map change (moves_probed row left) cells ∙ probing.whole;
      }

  pub probing-end : {left : List Movement} → Probing row seen places moves left start cells → left ≡ [] → cells ≡ map (moves_probed row moves) start
  probing-end probing none =
      sym (ap (λ (l : List Movement). map (moves_probed row l) cells) none ∙ map-identity (moves_probed row []) cells (λ cell. refl)) ∙ probing.whole

  -- those that are left begin with the one at the place
  pub probing-next : (all : List (Option Movement)) (place : ℕ) (default : Option Movement) (move : Movement) → place < length all → get_or all place default ≡ Some move
      → Probing row seen places moves (front (drop place all)) start cells → Probing row seen places moves (move ∷ front (drop (place + 1) all)) start cells
  probing-next all place default move within is probing =
      subst (λ (left : List Movement). Probing row seen places moves left start cells) (front-more all place default within move is) probing
