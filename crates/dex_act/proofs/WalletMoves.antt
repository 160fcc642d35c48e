-- What a row takes from cells and brings to them.
use Rattle.std.proofs.Common.{◌≡◌, ℕ, zero, suc, ◌+◌, ◌<◌, ◌^◌, ◌⊎◌, inl, inr, Bool, true, false, cond, List, map, set, get_or, Option, Some, None, refl, sym, ap, ◌∙◌, subst, arith, ⊎_elim}
use Rattle.dex_world.proofs.Common.{Address, All-map, PlainRow, Seen, WalletSeen, cases_Bool, cond-false, cond-true, false≢true, is_same, is_same-sym, is_same-true}
use Rattle.std.specs.List.{All}
use Rattle.std.proofs.Math.Dec.{eqb-suc-zero}
use Rattle.dex_types.specs.declared.movements.MoveKind.{MoveKind}
use Rattle.dex_types.specs.declared.movements.MoveKind.TheVariants.{Debit, Credit}
use Rattle.dex_types.specs.Wallets.{address_seen, amount_at}
use Rattle.dex_token.specs.TokenAccount.{wallet_words}
use Rattle.dex_wallet.specs.CellState.{CellState}
use Rattle.dex_wallet.specs.TokenAmount.{TokenAmount}
use Rattle.dex_cell.specs.Paying.{parcel_of}
use Rattle.dex_world.proofs.MappedLists.{item_at, map-agree, map-map}
use Rattle.dex_act.specs.declared.places.WalletPlaces.{WalletPlaces}
use Rattle.dex_act.specs.Wallets.{AreApart, CanCredit, CanGet, CanPay, CanPut, CanTake, IsAt, IsOf, IsRoleAt, NamesFor, amount_in, cell_credited, cell_debited, cell_moved, got_at, is_one, moved_some, pc_credited, role_moved}
use Rattle.dex_act.proofs.CellLists.{moved-here, none-at, role_moved-address, role_moved-nothing}

-- ---- parcels

pub parcel_of-some : (mint : Address) (amount : ℕ) → 0 < amount → parcel_of mint amount ≡ Some (record { mint = mint; amount = amount })
parcel_of-some mint zero some = absurd (omega arith)
parcel_of-some mint (suc amount) some = cond-false _ _ _ (eqb-suc-zero amount)

pub amount_in-parcel_of : (mint : Address) (amount : ℕ) → amount_in (parcel_of mint amount) ≡ amount
amount_in-parcel_of mint zero = refl
amount_in-parcel_of mint (suc amount) = ap amount_in (parcel_of-some mint (suc amount) (omega arith))

-- a role's wallet has the whole amount
pub amount-own : (address : Address) (role : Option WalletSeen) (wallet : WalletSeen) (amount : ℕ) → role ≡ Some wallet → is_same wallet.address address ≡ true
    → amount_at address role amount ≡ amount
amount-own address role wallet amount is own =
    ap (λ (r : Option WalletSeen). amount_at address r amount) is
    ∙ cond-true (is_same address wallet.address) amount 0 (is_same-sym address wallet.address ∙ own)

-- a role under which something moves names a wallet, which stands at its place
pub record RoleAt (role : Option WalletSeen) (cells : List CellState) (place : ℕ) : Type 0 where
  pub wallet : WalletSeen
  pub is : role ≡ Some wallet
  pub at : IsAt wallet.address cells place

pub role-at : (role : Option WalletSeen) (amount : ℕ) (cells : List CellState) (place : ℕ) → 0 < amount → NamesFor amount role
    → IsRoleAt cells (address_seen role) place → RoleAt role cells place
role-at role amount cells place some (inl none) at = absurd (omega (arith, some, none))
role-at role amount cells place some (inr named) at =
    record { wallet = named.0; is = named.1; at = subst (λ (r : Option WalletSeen). IsRoleAt cells (address_seen r) place) named.1 at }

-- what was taken from it is a parcel of its mint
pub parcel-here : (mint : Address) (role : Option WalletSeen) (wallet : WalletSeen) (amount : ℕ) (cells : List CellState) (place : ℕ) (default : CellState) (parcel : TokenAmount)
    → role ≡ Some wallet → 0 < amount → IsAt wallet.address cells place
    → parcel ≡ record { mint = (wallet_words (get_or cells place default).bytes).mint; amount = amount }
    → All (λ (cell : CellState). IsOf mint (amount_at cell.address role amount) cell) cells → Some parcel ≡ parcel_of mint amount
parcel-here mint role wallet amount cells place default parcel is some at taken of =
    let here : CellState = get_or cells place default in
    let whole : amount_at here.address role amount ≡ amount = amount-own here.address role wallet amount is (at.here default) in
    let right : mint ≡ (wallet_words here.bytes).mint =
    ⊎_elim (λ (none : amount_at here.address role amount ≡ 0). absurd (omega (arith, whole, none, some)))
    (λ (one : mint ≡ (wallet_words here.bytes).mint). one) (of place default at.within) in
    let of_mint : Address → Option TokenAmount = λ m. Some (record { mint = m; amount = amount }) in
    ap (λ (p : TokenAmount). Some p) taken ∙ ap of_mint (sym right) ∙ sym (parcel_of-some mint amount some)

-- the cell of a role's wallet, with a parcel more
pub credited-here : (row : PlainRow) (role : Option WalletSeen) (given : Option TokenAmount) (parcel : TokenAmount) (cells new : List CellState) (place : ℕ)
    → given ≡ Some parcel → AreApart cells → CanCredit role given cells → IsRoleAt cells (address_seen role) place
    → (default : CellState) → new ≡ set cells place (cell_moved row Credit parcel.amount (get_or cells place default))
    → new ≡ map (role_moved row Credit role (amount_in given)) cells
credited-here row role given parcel cells new place is apart can at default moved =
    let may : CanCredit role (Some parcel) cells = subst (λ (p : Option TokenAmount). CanCredit role p cells) is can in
    let here = role-at role parcel.amount cells place may.0 may.1 at in
    moved-here row Credit role here.wallet parcel.amount cells new place here.is may.0 apart here.at default moved
    ∙ ap (λ (p : Option TokenAmount). map (role_moved row Credit role (amount_in p)) cells) (sym is)

-- a parcel that is put in is one that can be
pub can-credit : (role : Option WalletSeen) (given : Option TokenAmount) (mint : Address) (cells : List CellState) → given ≡ parcel_of mint (amount_in given)
    → NamesFor (amount_in given) role → All (λ (cell : CellState). CanPut mint (amount_at cell.address role (amount_in given)) cell) cells → CanCredit role given cells
can-credit role None mint cells is named can = tt
can-credit role (Some parcel) mint cells is named can = some parcel.amount refl
  where
    some : (amount : ℕ) → amount ≡ parcel.amount → CanCredit role (Some parcel) cells
    some zero none = absurd (let nothing : Some parcel ≡ None = is ∙ ap (parcel_of mint) (sym none) in cc)
    some (suc amount) one =
        let made : Some parcel ≡ Some (record { mint = mint; amount = parcel.amount }) = is ∙ parcel_of-some mint parcel.amount (omega (arith, one)) in
        let right : mint ≡ parcel.mint = cc in
        (omega (arith, one), named, subst (λ (m : Address). All (λ (cell : CellState). CanPut m (amount_at cell.address role parcel.amount) cell) cells) right can)

-- ---- two movements, one of which is nothing

moved-twice : (row : PlainRow) (kind : MoveKind) (first second : ℕ) (cell : CellState) → (first ≡ 0) ⊎ (second ≡ 0)
    → moved_some row kind second (moved_some row kind first cell) ≡ moved_some row kind (first + second) cell
moved-twice row kind first second cell (inl none) =
    let all : second ≡ first + second = omega (arith, none) in
    ap (λ (n : ℕ). moved_some row kind second (moved_some row kind n cell)) none ∙ ap (λ (n : ℕ). moved_some row kind n cell) all
moved-twice row kind first second cell (inr none) =
    let all : first ≡ first + second = omega (arith, none) in
    ap (λ (n : ℕ). moved_some row kind n (moved_some row kind first cell)) none ∙ ap (λ (n : ℕ). moved_some row kind n cell) all

-- after the movement of a role, on all cells
pub moved-together : (row : PlainRow) (kind : MoveKind) (role : Option WalletSeen) (amount : ℕ) (later : Address → ℕ) (cells : List CellState)
    → All (λ (cell : CellState). (amount_at cell.address role amount ≡ 0) ⊎ (later cell.address ≡ 0)) cells
    → map (λ (cell : CellState). moved_some row kind (later cell.address) cell) (map (role_moved row kind role amount) cells)
    ≡ map (λ (cell : CellState). moved_some row kind (amount_at cell.address role amount + later cell.address) cell) cells
moved-together row kind role amount later cells one =
    let moved : CellState → CellState = role_moved row kind role amount in
    map-map moved (λ (cell : CellState). moved_some row kind (later cell.address) cell) cells
    ∙ map-agree (λ (cell : CellState). moved_some row kind (later (moved cell).address) (moved cell))
    (λ (cell : CellState). moved_some row kind (amount_at cell.address role amount + later cell.address) cell) cells (λ k default lt.
    let cell : CellState = get_or cells k default in
    ap (λ (a : Address). moved_some row kind (later a) (moved cell)) (role_moved-address row kind role amount cell)
    ∙ moved-twice row kind (amount_at cell.address role amount) (later cell.address) cell (one k default lt))

-- ---- what wallets pay

-- what holds of each cell holds after the first payment, where it holds of all cells if the second is nothing
pub second-All : (row : PlainRow) (seen : Seen) (coin pc : ℕ) (cells : List CellState) (P : CellState → Type 0) → (coin ≡ 0) ⊎ (pc ≡ 0) → All P cells
    → (pc ≡ 0 → (cell : CellState) → P cell) → All P (map (role_moved row Debit seen.coin coin) cells)
second-All row seen coin pc cells P (inl none) all otherwise = subst (All P) (sym (role_moved-nothing row Debit seen.coin coin cells none)) all
second-All row seen coin pc cells P (inr none) all otherwise = λ k default lt. otherwise none (get_or (map (role_moved row Debit seen.coin coin) cells) k default)

pub second-can : (row : PlainRow) (seen : Seen) (coin pc : ℕ) (cells : List CellState) (places : WalletPlaces) → CanPay seen places coin pc cells
    → All (λ (cell : CellState). CanTake (amount_at cell.address seen.pc pc) cell) (map (role_moved row Debit seen.coin coin) cells)
second-can row seen coin pc cells places can =
    second-All row seen coin pc cells (λ cell. CanTake (amount_at cell.address seen.pc pc) cell) can.one
    (λ k default lt. ⊎_elim (λ none. inl (omega (arith, none))) (λ some. inr (some.0, omega (arith, some.1))) (can.each k default lt))
    (λ none cell. inl (none-at cell.address seen.pc pc none))

pub debited-together : (row : PlainRow) (seen : Seen) (coin pc : ℕ) (cells : List CellState) → (coin ≡ 0) ⊎ (pc ≡ 0)
    → map (role_moved row Debit seen.pc pc) (map (role_moved row Debit seen.coin coin) cells) ≡ map (cell_debited row seen coin pc) cells
debited-together row seen coin pc cells one =
    moved-together row Debit seen.coin coin (λ a. amount_at a seen.pc pc) cells (λ k default lt.
    let address : Address = (get_or cells k default).address in
    ⊎_elim (λ (none : coin ≡ 0). inl (none-at address seen.coin coin none)) (λ (none : pc ≡ 0). inr (none-at address seen.pc pc none)) one)

-- ---- what they are paid

-- two roles of one wallet
pub one-amount : (address : Address) (first second : Option WalletSeen) (a b : ℕ) → is_one first second ≡ true
    → amount_at address first (a + b) ≡ amount_at address first a + amount_at address second b
one-amount address (Some wallet) (Some other) a b one =
    let same : wallet.address ≡ other.address = is_same-true wallet.address other.address one in
    both (is_same address wallet.address) ∙ ap (λ (x : Address). cond (is_same address wallet.address) a 0 + cond (is_same address x) b 0) same
  where
    both : (own : Bool) → cond own (a + b) 0 ≡ cond own a 0 + cond own b 0
    both true = refl
    both false = refl
one-amount address _ _ a b one = absurd (false≢true one)

-- and of two wallets
pub apart-amounts : (address : Address) (first second : Option WalletSeen) (a b : ℕ) → is_one first second ≡ false
    → (amount_at address first a ≡ 0) ⊎ (amount_at address second b ≡ 0)
apart-amounts address None second a b apart = inl refl
apart-amounts address (Some wallet) None a b apart = inr refl
apart-amounts address (Some wallet) (Some other) a b apart =
    ⊎_elim
    (λ (own : is_same address wallet.address ≡ true).
    let is : address ≡ wallet.address = is_same-true address wallet.address own in
    inr (cond-false (is_same address other.address) b 0 (ap (λ (x : Address). is_same x other.address) is ∙ apart)))
    (λ (not : is_same address wallet.address ≡ false). inl (cond-false (is_same address wallet.address) a 0 not))
    (cases_Bool (is_same address wallet.address))

-- what two roles of one wallet get fits together
pub fits-together : (first second : Option WalletSeen) (a b : ℕ) (mint : Address) (cells : List CellState) (place : ℕ) → is_one first second ≡ true
    → IsRoleAt cells (address_seen first) place
    → All (λ (cell : CellState). CanPut mint (amount_at cell.address first a + amount_at cell.address second b) cell) cells → a + b < 2 ^ 64
fits-together None second a b mint cells place one at each = absurd (false≢true one)
fits-together (Some wallet) second a b mint cells place one at each =
    let start : CellState = item_at cells place at.within in
    let cell : CellState = get_or cells place start in
    let whole : amount_at cell.address (Some wallet) (a + b) ≡ a + b = amount-own cell.address (Some wallet) wallet (a + b) refl (at.here start) in
    let split : amount_at cell.address (Some wallet) (a + b) ≡ amount_at cell.address (Some wallet) a + amount_at cell.address second b =
    one-amount cell.address (Some wallet) second a b one in
    ⊎_elim (λ none. omega (arith, whole, split, none)) (λ some. omega (arith, whole, split, some.2)) (each place start at.within)

pub credited-apart : (row : PlainRow) (seen : Seen) (a b : ℕ) (cells : List CellState) → is_one seen.pc seen.referrer ≡ false
    → map (role_moved row Credit seen.referrer b) (map (role_moved row Credit seen.pc a) cells) ≡ map (pc_credited row seen a b) cells
credited-apart row seen a b cells apart =
    moved-together row Credit seen.pc a (λ x. amount_at x seen.referrer b) cells (λ k default lt. apart-amounts (get_or cells k default).address seen.pc seen.referrer a b apart)

-- what can be put into a cell can be after the movement of a role, where one of them is nothing
put-after : (row : PlainRow) (role : Option WalletSeen) (amount : ℕ) (mint : Address) (later : Address → ℕ) (cell : CellState)
    → ((amount_at cell.address role amount ≡ 0) × CanPut mint (later cell.address) cell) ⊎ (later cell.address ≡ 0)
    → CanPut mint (later (role_moved row Credit role amount cell).address) (role_moved row Credit role amount cell)
put-after row role amount mint later cell (inl can) =
    let stays : role_moved row Credit role amount cell ≡ cell = ap (λ (n : ℕ). moved_some row Credit n cell) can.0 in
    subst (λ (x : CellState). CanPut mint (later x.address) x) (sym stays) can.1
put-after row role amount mint later cell (inr none) = inl (ap later (role_moved-address row Credit role amount cell) ∙ none)

-- the second of two roles can get its part
pub second-put : (row : PlainRow) (seen : Seen) (a b : ℕ) (mint : Address) (cells : List CellState) → is_one seen.pc seen.referrer ≡ false
    → All (λ (cell : CellState). CanPut mint (got_at seen a b cell) cell) cells
    → All (λ (cell : CellState). CanPut mint (amount_at cell.address seen.referrer b) cell) (map (role_moved row Credit seen.pc a) cells)
second-put row seen a b mint cells apart each =
    All-map (λ (cell : CellState). CanPut mint (amount_at cell.address seen.referrer b) cell) (role_moved row Credit seen.pc a) cells (λ k default lt.
    let cell : CellState = get_or cells k default in
    put-after row seen.pc a mint (λ x. amount_at x seen.referrer b) cell
    (⊎_elim
    (λ (none : amount_at cell.address seen.pc a ≡ 0).
    let all : got_at seen a b cell ≡ amount_at cell.address seen.referrer b = omega (arith, none) in
    inl (none, subst (λ (n : ℕ). CanPut mint n cell) all (each k default lt)))
    (λ none. inr none)
    (apart-amounts cell.address seen.pc seen.referrer a b apart)))

-- after the base token, the quote token can be brought
pub pc-put : (row : PlainRow) (seen : Seen) (coin pc referrer : ℕ) (coin_mint pc_mint : Address) (cells : List CellState)
    → All (λ (cell : CellState). CanGet coin_mint pc_mint (amount_at cell.address seen.coin coin) (got_at seen pc referrer cell) cell) cells
    → All (λ (cell : CellState). CanPut pc_mint (got_at seen pc referrer cell) cell) (map (role_moved row Credit seen.coin coin) cells)
pc-put row seen coin pc referrer coin_mint pc_mint cells each =
    All-map (λ (cell : CellState). CanPut pc_mint (got_at seen pc referrer cell) cell) (role_moved row Credit seen.coin coin) cells (λ k default lt.
    put-after row seen.coin coin pc_mint (λ x. amount_at x seen.pc pc + amount_at x seen.referrer referrer) (get_or cells k default)
    (⊎_elim (λ can. inl can) (λ can. inr can.0) (each k default lt)))

pub credited-together : (row : PlainRow) (seen : Seen) (coin pc referrer : ℕ) (coin_mint pc_mint : Address) (cells : List CellState)
    → All (λ (cell : CellState). CanGet coin_mint pc_mint (amount_at cell.address seen.coin coin) (got_at seen pc referrer cell) cell) cells
    → map (pc_credited row seen pc referrer) (map (role_moved row Credit seen.coin coin) cells) ≡ map (cell_credited row seen coin pc referrer) cells
credited-together row seen coin pc referrer coin_mint pc_mint cells each =
    moved-together row Credit seen.coin coin (λ x. amount_at x seen.pc pc + amount_at x seen.referrer referrer) cells
    (λ k default lt. ⊎_elim (λ can. inl can.0) (λ can. inr can.0) (each k default lt))
