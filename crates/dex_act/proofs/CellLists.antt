-- Cells of wallets, one of which changes.
use Rattle.std.proofs.Common.{◌≡◌, ℕ, zero, suc, ◌<◌, Bool, true, false, ◌||◌, cond, List, [], ◌∷◌, length, map, set, get_or, Option, Some, None, refl, sym, ap, ◌∙◌, subst, arith}
use Rattle.dex_world.proofs.Common.{Address, PlainRow, Seen, WalletSeen, cond_both, false_from_ne_true, false≢true, get_or-map, is_same, is_same-sym, is_same-true, length-map, list_any, map-id, or_parts, or_right}
use Rattle.dex_types.specs.declared.movements.MoveKind.{MoveKind}
use Rattle.dex_types.specs.Wallets.{amount_at}
use Rattle.dex_world.proofs.MappedLists.{item_at, map-agree, map-map}
use Rattle.dex_wallet.specs.CellState.{CellState}
use Rattle.dex_act.specs.declared.places.WalletPlaces.{WalletPlaces}
use Rattle.dex_act.specs.Wallets.{AreApart, AreAt, AreSeenAt, IsAt, IsRoleAt, cell_moved, is_among, moved_some, role_moved}

-- ---- by address

-- what stands at a place behind the first
pub later : (address : Address) (first : CellState) (others : List CellState) (place : ℕ) → IsAt address (first ∷ others) (suc place) → IsAt address others place
later address first others place at = record { within = omega (arith, at.within); here = at.here }

-- the address of a cell that stands at a place is among theirs
among-at : (address : Address) (cells : List CellState) (place : ℕ) → IsAt address cells place → is_among address cells ≡ true
among-at address [] place at = absurd (omega (arith, at.within))
among-at address (first ∷ others) zero at = ap (λ (b : Bool). b || is_among address others) (at.here first)
among-at address (first ∷ others) (suc place) at =
    or_right (is_same address first.address) (is_among address others) (among-at address others place (later address first others place at))

-- and not that of one in front of it
pub not-first : (address : Address) (first : CellState) (others : List CellState) (place : ℕ) → AreApart (first ∷ others) → IsAt address others place
    → is_same address first.address ≡ false
not-first address first others place apart at =
    false_from_ne_true (is_same address first.address) (λ same.
    false≢true (sym apart.0 ∙ ap (λ (a : Address). is_among a others) (sym (is_same-true address first.address same)) ∙ among-at address others place at))

-- an address is among the cells' where one of their addresses is it
pub is_among-any : (address : Address) (cells : List CellState) → is_among address cells ≡ list_any (is_same address) (map (λ (cell : CellState). cell.address) cells)
is_among-any address [] = refl
is_among-any address (cell ∷ cells) = ap (λ (b : Bool). is_same address cell.address || b) (is_among-any address cells)

-- a change that keeps each address
abbrev pub KeepsAddress : (CellState → CellState) → Type 0
KeepsAddress change = (cell : CellState) → (change cell).address ≡ cell.address

-- changes that agree on each cell
pub map-same : {A : Type 0} (change other : CellState → A) (cells : List CellState) → ((cell : CellState) → change cell ≡ other cell) → map change cells ≡ map other cells
map-same change other cells same = map-agree change other cells (λ k default lt. same (get_or cells k default))

abbrev pub address_in : CellState → Address
address_in cell = cell.address

pub addresses-kept : (change : CellState → CellState) (cells : List CellState) → KeepsAddress change → map address_in (map change cells) ≡ map address_in cells
addresses-kept change cells keeps = map-map change address_in cells ∙ map-same (λ cell. (change cell).address) address_in cells keeps

pub is_among-map : (address : Address) (change : CellState → CellState) (cells : List CellState) → KeepsAddress change → is_among address (map change cells) ≡ is_among address cells
is_among-map address change cells keeps =
    is_among-any address (map change cells) ∙ ap (list_any (is_same address)) (addresses-kept change cells keeps) ∙ sym (is_among-any address cells)

pub AreApart-map : (change : CellState → CellState) (cells : List CellState) → KeepsAddress change → AreApart cells → AreApart (map change cells)
AreApart-map change [] keeps apart = tt
AreApart-map change (first ∷ others) keeps apart = (
  ap (λ (a : Address). is_among a (map change others)) (keeps first) ∙ is_among-map first.address change others keeps ∙ apart.0,
  AreApart-map change others keeps apart.1,
)

-- ---- one cell changed

-- a change that leaves the cells of other addresses
abbrev pub ChangesAt : Address → (CellState → CellState) → Type 0
ChangesAt address change = (cell : CellState) → is_same address cell.address ≡ false → change cell ≡ cell

-- leaves all cells where the address is not among them
pub map-none : (address : Address) (change : CellState → CellState) (cells : List CellState) → ChangesAt address change → is_among address cells ≡ false → map change cells ≡ cells
map-none address change [] stays none = refl
map-none address change (first ∷ others) stays none =
    let each = or_parts (is_same address first.address) (is_among address others) none in
    ap (λ (cell : CellState). cell ∷ map change others) (stays first each.0)
    ∙ ap (λ (cells : List CellState). first ∷ cells) (map-none address change others stays each.1)

-- and else changes the one cell of the address alone
pub map-one : (address : Address) (change : CellState → CellState) (cells : List CellState) (place : ℕ) (default : CellState) → AreApart cells → IsAt address cells place
    → ChangesAt address change → set cells place (change (get_or cells place default)) ≡ map change cells
map-one address change [] place default apart at stays = absurd (omega (arith, at.within))
map-one address change (first ∷ others) zero default apart at stays =
    let is : address ≡ first.address = is_same-true address first.address (at.here default) in
    ap (λ (cells : List CellState). change first ∷ cells)
    (sym (map-none address change others stays (ap (λ (a : Address). is_among a others) is ∙ apart.0)))
map-one address change (first ∷ others) (suc place) default apart at stays =
    let there = later address first others place at in
    ap (λ (cells : List CellState). first ∷ cells) (map-one address change others place default apart.1 there stays)
    ∙ ap (λ (cell : CellState). cell ∷ map change others) (sym (stays first (not-first address first others place apart there)))

-- the cell of an address is changed at its place
pub changed-here : (address : Address) (change moved : CellState → CellState) (cells new : List CellState) (place : ℕ) → AreApart cells → IsAt address cells place
    → ChangesAt address change → ((cell : CellState) → is_same address cell.address ≡ true → change cell ≡ moved cell)
    → (default : CellState) → new ≡ set cells place (moved (get_or cells place default)) → new ≡ map change cells
changed-here address change moved cells new place apart at stays own default set_is =
    set_is ∙ ap (set cells place) (sym (own (get_or cells place default) (at.here default))) ∙ map-one address change cells place default apart at stays

-- ---- movements

pub moved_some-address : (row : PlainRow) (kind : MoveKind) (amount : ℕ) → KeepsAddress (moved_some row kind amount)
moved_some-address row kind zero cell = refl
moved_some-address row kind (suc amount) cell = refl

pub moved_some-some : (row : PlainRow) (kind : MoveKind) (amount : ℕ) (cell : CellState) → 0 < amount → moved_some row kind amount cell ≡ cell_moved row kind amount cell
moved_some-some row kind zero cell some = absurd (omega arith)
moved_some-some row kind (suc amount) cell some = refl

pub role_moved-address : (row : PlainRow) (kind : MoveKind) (role : Option WalletSeen) (amount : ℕ) → KeepsAddress (role_moved row kind role amount)
role_moved-address row kind role amount cell = moved_some-address row kind (amount_at cell.address role amount) cell

-- a role's movement leaves all cells but its own
pub role_moved-others : (row : PlainRow) (kind : MoveKind) (wallet : WalletSeen) (amount : ℕ) → ChangesAt wallet.address (role_moved row kind (Some wallet) amount)
role_moved-others row kind wallet amount cell other =
    let apart : is_same cell.address wallet.address ≡ false = is_same-sym cell.address wallet.address ∙ other in
    ap (λ (b : Bool). moved_some row kind (cond b amount 0) cell) apart

-- and moves that one
pub role_moved-own : (row : PlainRow) (kind : MoveKind) (wallet : WalletSeen) (amount : ℕ) (cell : CellState) → is_same wallet.address cell.address ≡ true → 0 < amount
    → role_moved row kind (Some wallet) amount cell ≡ cell_moved row kind amount cell
role_moved-own row kind wallet amount cell own some =
    let same : is_same cell.address wallet.address ≡ true = is_same-sym cell.address wallet.address ∙ own in
    ap (λ (b : Bool). moved_some row kind (cond b amount 0) cell) same ∙ moved_some-some row kind amount cell some

-- nothing under a role
pub none-at : (address : Address) (role : Option WalletSeen) (amount : ℕ) → amount ≡ 0 → amount_at address role amount ≡ 0
none-at address None amount none = refl
none-at address (Some wallet) amount none = cond_both (is_same address wallet.address) amount 0 (λ (n : ℕ). n ≡ 0) (λ own. none) (λ other. refl)

pub map-identity : (change : CellState → CellState) (cells : List CellState) → ((cell : CellState) → change cell ≡ cell) → map change cells ≡ cells
map-identity change cells same = map-same change (λ cell. cell) cells same ∙ map-id cells

-- lists of the same addresses have the same one at each place
pub same-at : {A : Type 0} (of : A → Address) (xs ys : List A) → map of ys ≡ map of xs → (place : ℕ) (default : A) → place < length xs
    → (place < length ys) × (of (get_or ys place default) ≡ of (get_or xs place default))
same-at of xs ys same place default within =
    let long : length ys ≡ length xs = sym (length-map ys of) ∙ ap (λ (addresses : List Address). length addresses) same ∙ length-map xs of in
    let within_ys : place < length ys = omega (arith, within, long) in (
      within_ys,
      sym (get_or-map of ys place default (of default) within_ys)
          ∙ ap (λ (addresses : List Address). get_or addresses place (of default)) same
          ∙ get_or-map of xs place default (of default) within,
    )

-- so the wallets of roles stand where they stood
module _ (before after : List CellState) (same : map address_in after ≡ map address_in before) where
  role-still : (role : Option Address) (place : ℕ) → IsRoleAt before role place → IsRoleAt after role place
  role-still None place at = tt
  role-still (Some address) place at = record {
    within = (same-at address_in before after same place (item_at before place at.within) at.within).0;
    here = λ default. ap (is_same address) (same-at address_in before after same place default at.within).1 ∙ at.here default;
  }

  pub all-still : {coin pc discount referrer : Option Address} {places : WalletPlaces} → AreAt before coin pc discount referrer places
      → AreAt after coin pc discount referrer places
  all-still {coin} {pc} {discount} {referrer} {places} at = record {
    coin = role-still coin places.coin at.coin;
    pc = role-still pc places.pc at.pc;
    discount = role-still discount places.discount at.discount;
    referrer = role-still referrer places.referrer at.referrer;
  }

-- nothing moves no cell
pub role_moved-nothing : (row : PlainRow) (kind : MoveKind) (role : Option WalletSeen) (amount : ℕ) (cells : List CellState) → amount ≡ 0
    → map (role_moved row kind role amount) cells ≡ cells
role_moved-nothing row kind role amount cells none =
    map-identity (role_moved row kind role amount) cells (λ cell. ap (λ (n : ℕ). moved_some row kind n cell) (none-at cell.address role amount none))

-- and a role's movement keeps all addresses
module _ (row : PlainRow) (kind : MoveKind) (role : Option WalletSeen) (amount : ℕ) (cells new : List CellState) (moved : new ≡ map (role_moved row kind role amount) cells) where
  pub apart-moved : AreApart cells → AreApart new
  apart-moved apart = subst AreApart (sym moved) (AreApart-map (role_moved row kind role amount) cells (role_moved-address row kind role amount) apart)

  same-moved : map address_in new ≡ map address_in cells
  same-moved = ap (map address_in) moved ∙ addresses-kept (role_moved row kind role amount) cells (role_moved-address row kind role amount)

  pub role-moved : (other : Option Address) (place : ℕ) → IsRoleAt cells other place → IsRoleAt new other place
  role-moved = role-still cells new same-moved

  pub seen-moved : (seen : Seen) (places : WalletPlaces) → AreSeenAt cells seen places → AreSeenAt new seen places
  seen-moved seen places at = all-still cells new same-moved at

-- the cell at the place of a role's wallet is moved
pub moved-here : (row : PlainRow) (kind : MoveKind) (role : Option WalletSeen) (wallet : WalletSeen) (amount : ℕ) (cells new : List CellState) (place : ℕ) → role ≡ Some wallet
    → 0 < amount → AreApart cells → IsAt wallet.address cells place
    → (default : CellState) → new ≡ set cells place (cell_moved row kind amount (get_or cells place default)) → new ≡ map (role_moved row kind role amount) cells
moved-here row kind role wallet amount cells new place is some apart at default moved =
    changed-here wallet.address (role_moved row kind (Some wallet) amount) (cell_moved row kind amount) cells new place apart at
    (role_moved-others row kind wallet amount) (λ cell own. role_moved-own row kind wallet amount cell own some) default moved
    ∙ ap (λ (r : Option WalletSeen). map (role_moved row kind r amount) cells) (sym is)
