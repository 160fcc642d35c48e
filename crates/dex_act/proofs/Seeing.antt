-- What a row sees of cells.
use Rattle.std.proofs.Common.{◌≡◌, ℕ, zero, suc, ◌<◌, ◌^◌, Bool, true, false, ◌||◌, List, [], ◌∷◌, get_or, map, Option, Some, None, refl, sym, ap, ◌∙◌, arith}
use Rattle.dex_world.proofs.Common.{Address, All-head, All-tail, All-weaker, Seen, WalletSeen, cond-false, cond-true, cond_both, false≢true, is_same, is_same-refl, is_same-true, role_at, wallet_at}
use Rattle.std.specs.List.{All, list_any}
use Rattle.std.proofs.lemmas.List.{get_or_default}
use Rattle.dex_types.specs.Wallets.{address_seen, amount_at, balance_in, seen_wallets}
use Rattle.dex_wallet.specs.CellState.{CellState, balance_of, seen_of}
use Rattle.dex_world.proofs.NameLaws.{roles-any}
use Rattle.dex_world.proofs.OnceLaws.{each-any}
use Rattle.dex_act.specs.Wallets.{AreApart, Fits, IsAt, IsRight, any_hit, hits, roles_of, wallet_state_of}
use Rattle.dex_act.proofs.CellLists.{later, not-first}

-- ---- one role

-- a wallet that is found has the address
wallet_at-address : (address : Address) (cells : List CellState) (wallet : WalletSeen) → wallet_at address (map wallet_state_of cells) ≡ Some wallet → address ≡ wallet.address
wallet_at-address address [] wallet found = absurd (cc)
wallet_at-address address (first ∷ others) wallet found =
    cond_both (is_same address first.address) (Some (seen_of first)) (wallet_at address (map wallet_state_of others))
    (λ (told : Option WalletSeen). told ≡ Some wallet → address ≡ wallet.address)
    (λ (same : is_same address first.address ≡ true) (here : Some (seen_of first) ≡ Some wallet).
    let is : seen_of first ≡ wallet = cc in
    is_same-true address first.address same ∙ ap (λ (w : WalletSeen). w.address) is)
    (λ other there. wallet_at-address address others wallet there)
    found

-- and is that of the cell that stands there
pub found-there : (address : Address) (cells : List CellState) (place : ℕ) (default : CellState) → AreApart cells → IsAt address cells place
    → wallet_at address (map wallet_state_of cells) ≡ Some (seen_of (get_or cells place default))
found-there address [] place default apart at = absurd (omega (arith, at.within))
found-there address (first ∷ others) zero default apart at = cond-true _ _ _ (at.here default)
found-there address (first ∷ others) (suc place) default apart at =
    let there = later address first others place at in
    cond-false _ _ _ (not-first address first others place apart there) ∙ found-there address others place default apart.1 there

-- so what is seen at a cell's address is the cell
pub role_at-right : (role : Option Address) (cells : List CellState) → AreApart cells → All (λ (cell : CellState). IsRight cell (role_at role (map wallet_state_of cells))) cells
role_at-right None cells apart = λ k default lt wallet is own. absurd (cc)
role_at-right (Some address) cells apart = λ k default lt wallet is own.
    let cell : CellState = get_or cells k default in
    let same : address ≡ cell.address = wallet_at-address address cells wallet is ∙ sym (is_same-true cell.address wallet.address own) in
    let at : IsAt address cells k = record {
      within = lt;
      here = λ other. ap (λ (c : CellState). is_same address c.address) (get_or_default cells k other default lt) ∙ ap (is_same address) (sym same) ∙ is_same-refl address;
    } in
    let both : Some wallet ≡ Some (seen_of cell) = sym is ∙ found-there address cells k default apart at in
    cc

-- ---- all roles

-- the wallets that a row sees are those of its roles
pub any-seen : (address : Address) (seen : Seen)
    → list_any (is_same address) (seen_wallets seen) ≡ any_hit address (roles_of seen)
any-seen address seen = roles-any (address_seen seen.coin) (address_seen seen.pc) (address_seen seen.discount) (address_seen seen.referrer) address

-- what a role moves at an address that is not its own
pub no-hit : (address : Address) (role : Option WalletSeen) (amount : ℕ) → hits address role ≡ false → amount_at address role amount ≡ 0
no-hit address None amount none = refl
no-hit address (Some wallet) amount none = cond-false (is_same address wallet.address) amount 0 none

-- the balance that is seen of a cell is its own
pub balance-hit : (cell : CellState) (roles : List (Option WalletSeen)) → All (IsRight cell) roles → any_hit cell.address roles ≡ true → balance_in cell.address roles ≡ balance_of cell.bytes
balance-hit cell [] right hit = absurd (false≢true hit)
balance-hit cell (None ∷ roles) right hit = balance-hit cell roles (All-tail (IsRight cell) None roles right) hit
balance-hit cell ((Some wallet) ∷ roles) right hit =
    cond_both (is_same cell.address wallet.address) wallet.balance (balance_in cell.address roles) (λ (n : ℕ). n ≡ balance_of cell.bytes)
    (λ own. ap (λ (w : WalletSeen). w.balance) (All-head (IsRight cell) (Some wallet) roles right wallet refl own))
    (λ other. balance-hit cell roles (All-tail (IsRight cell) (Some wallet) roles right) (sym (ap (λ (b : Bool). b || any_hit cell.address roles) other) ∙ hit))

-- what is seen fits, where each role's balance does
pub balance_in-fits : (address : Address) (roles : List (Option WalletSeen)) → All Fits roles → balance_in address roles < 2 ^ 64
balance_in-fits address [] fits = omega arith
balance_in-fits address (None ∷ roles) fits = balance_in-fits address roles (All-tail Fits None roles fits)
balance_in-fits address ((Some wallet) ∷ roles) fits =
    cond_both (is_same address wallet.address) wallet.balance (balance_in address roles) (λ (n : ℕ). n < 2 ^ 64)
    (λ own. All-head Fits (Some wallet) roles fits) (λ other. balance_in-fits address roles (All-tail Fits (Some wallet) roles fits))

-- its roles hit them
pub seen-hit : (seen : Seen) → All (λ (a : Address). any_hit a (roles_of seen) ≡ true) (seen_wallets seen)
seen-hit seen =
    All-weaker (λ (a : Address). list_any (is_same a) (seen_wallets seen) ≡ true) (λ (a : Address). any_hit a (roles_of seen) ≡ true)
    (λ a among. sym (any-seen a seen) ∙ among) (seen_wallets seen) (each-any (seen_wallets seen))
