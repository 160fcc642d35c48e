-- The account of an address among others: where it stands, and what a change of it leaves.
use Rattle.std.proofs.Common.{◌≡◌, ℕ, zero, suc, ◌<◌, true, false, List, [], ◌∷◌, length, map, set, get_or, Some, None, refl, sym, ap, ◌∙◌, subst, arith, ⊎_elim}
use Rattle.std.specs.List.{All}
use Rattle.std.proofs.lemmas.Bool.{cases_Bool, cond-true, cond-false}
use Rattle.std.proofs.lemmas.List.{get_or-map, get_or_default, length-map}
use Rattle.std.proofs.lemmas.List.Elements.{All-nil, All-cons, All-head, All-tail, All-same}
use Rattle.dex_types.specs.declared.addresses.Address.{Address}
use Rattle.dex_types.specs.declared.account_bytes.OrdersAccount.{OrdersAccount}
use Rattle.dex_types.specs.Accounts.{PlainAccount, orders_account_of}
use Rattle.dex_types.specs.Addresses.{is_same}
use Rattle.dex_types.specs.Trader.{Trader, Traders, trader_at, put_trader}
use Rattle.dex_orders.specs.OrdersAccount.{market_of}
use Rattle.dex_orders.specs.StandsFor.{entry_of, trader_of, traders_of}
use Rattle.dex_accounts.specs.Owners.{IsFirst, bytes_at, changed_at, named_in}

-- an account with other bytes
abbrev pub with_change : (List ℕ → List ℕ) → PlainAccount → PlainAccount
with_change change account = record { address = account.address; bytes = change account.bytes }

-- ---- places

later : (address : Address) (first : PlainAccount) (others : List PlainAccount) (place : ℕ) → IsFirst address (first ∷ others) (suc place) → IsFirst address others place
later address first others place is = record {
  within = omega (arith, is.within);
  here = λ default. is.here default;
  before = λ earlier lt default. is.before (suc earlier) (omega arith) default;
}

pub changed_at-first : (address : Address) (change : List ℕ → List ℕ) (accounts : List PlainAccount) (place : ℕ) (default : PlainAccount) → IsFirst address accounts place
    → changed_at address change accounts ≡ set accounts place (with_change change (get_or accounts place default))
changed_at-first address change [] place default is = absurd (omega (arith, is.within))
changed_at-first address change (first ∷ others) zero default is = cond-true _ _ _ (is.here default)
changed_at-first address change (first ∷ others) (suc place) default is =
    cond-false _ _ _ (is.before 0 (omega arith) default)
    ∙ ap (λ (l : List PlainAccount). first ∷ l) (changed_at-first address change others place default (later address first others place is))

pub bytes_at-first : (address : Address) (accounts : List PlainAccount) (place : ℕ) (default : PlainAccount) → IsFirst address accounts place
    → bytes_at address accounts ≡ Some (get_or accounts place default).bytes
bytes_at-first address [] place default is = absurd (omega (arith, is.within))
bytes_at-first address (first ∷ others) zero default is = cond-true _ _ _ (is.here default)
bytes_at-first address (first ∷ others) (suc place) default is =
    cond-false _ _ _ (is.before 0 (omega arith) default) ∙ bytes_at-first address others place default (later address first others place is)

pub bytes_at-none : (address : Address) (accounts : List PlainAccount)
    → ((place : ℕ) → place < length accounts → (default : PlainAccount) → is_same address (get_or accounts place default).address ≡ false) → bytes_at address accounts ≡ None
bytes_at-none address [] none = refl
bytes_at-none address (first ∷ others) none =
    cond-false _ _ _ (none 0 (omega arith) first) ∙ bytes_at-none address others (λ place lt default. none (suc place) (omega arith) default)

-- ---- accounts with their buffers

-- what is known whatever account is named is known where there is one
pub with_some : (P : Type 0) (accounts : List OrdersAccount) (place : ℕ) → place < length accounts → ((default : OrdersAccount) → P) → P
with_some P [] place lt known = absurd (omega arith)
with_some P (first ∷ others) place lt known = known first

-- the bytes at the first place of an address are those of its account
pub bytes_at-here : (address : Address) (accounts : List OrdersAccount) (place : ℕ) (default : OrdersAccount) → IsFirst address (map orders_account_of accounts) place
    → bytes_at address (map orders_account_of accounts) ≡ Some (get_or accounts place default).bytes.items
bytes_at-here address accounts place default first =
    let lt : place < length accounts = omega (arith, first.within, length-map accounts orders_account_of) in
    bytes_at-first address (map orders_account_of accounts) place (orders_account_of default) first
    ∙ ap (λ (a : PlainAccount). Some a.bytes) (get_or-map orders_account_of accounts place default (orders_account_of default) lt)

-- the account of an address stands at its first place
pub owned_here : (address : Address) (accounts : List OrdersAccount) (place : ℕ) (default : OrdersAccount) (bytes : List ℕ) → place < length accounts
    → IsFirst address (map orders_account_of accounts) place → bytes_at address (map orders_account_of accounts) ≡ Some bytes → bytes ≡ (get_or accounts place default).bytes.items
owned_here address accounts place default bytes lt first found =
    let at : Some bytes ≡ Some (get_or (map orders_account_of accounts) place (orders_account_of default)).bytes =
    sym found ∙ bytes_at-first address (map orders_account_of accounts) place (orders_account_of default) first in
    let same : bytes ≡ (get_or (map orders_account_of accounts) place (orders_account_of default)).bytes = cc in
    same ∙ ap (λ (a : PlainAccount). a.bytes) (get_or-map orders_account_of accounts place default (orders_account_of default) lt)

-- other bytes in the account at a place
pub set_plain : (accounts : List OrdersAccount) (place : ℕ) (here default : OrdersAccount) (now : List ℕ) (change : List ℕ → List ℕ) → place < length accounts
    → now ≡ change (get_or accounts place here).bytes.items
    → set (map orders_account_of accounts) place (record { address = (get_or accounts place here).address; bytes = now })
    ≡ set (map orders_account_of accounts) place (record { address = (get_or accounts place default).address; bytes = change (get_or accounts place default).bytes.items })
set_plain accounts place here default now change lt made =
    let e : get_or accounts place here ≡ get_or accounts place default = get_or_default accounts place here default lt in
    let put : OrdersAccount → List ℕ → List PlainAccount = λ a bytes. set (map orders_account_of accounts) place (record { address = a.address; bytes = bytes }) in
    ap (put (get_or accounts place here)) made ∙ ap (λ (a : OrdersAccount). put a (change a.bytes.items)) e

-- ---- what holds of the account

-- the bytes of the account of an address, which stand for a trader
pub record Stands (address : Address) (trader : Trader) (accounts : List PlainAccount) : Type 0 where
  pub bytes : List ℕ
  pub found : bytes_at address accounts ≡ Some bytes
  pub stands : trader_of bytes ≡ trader

pub stands-of : (address : Address) (trader : Trader) (accounts : List PlainAccount) → trader_at address (traders_of accounts) ≡ Some trader → Stands address trader accounts
stands-of address trader [] found = absurd (cc)
stands-of address trader (first ∷ others) found =
    ⊎_elim
    (λ (same : is_same address first.address ≡ true).
    let here : trader_at address (traders_of (first ∷ others)) ≡ Some (trader_of first.bytes) = cond-true _ _ _ same in
    let at : bytes_at address (first ∷ others) ≡ Some first.bytes = cond-true _ _ _ same in
    let is : Some (trader_of first.bytes) ≡ Some trader = sym here ∙ found in
    let stands : trader_of first.bytes ≡ trader = cc in
    let all : Stands address trader (first ∷ others) = record { bytes = first.bytes; found = at; stands = stands } in
    all)
    (λ (apart : is_same address first.address ≡ false).
    let there : trader_at address (traders_of (first ∷ others)) ≡ trader_at address (traders_of others) = cond-false _ _ _ apart in
    let past : bytes_at address (first ∷ others) ≡ bytes_at address others = cond-false _ _ _ apart in
    let rest : Stands address trader others = stands-of address trader others (sym there ∙ found) in
    let all : Stands address trader (first ∷ others) = record { bytes = rest.bytes; found = past ∙ rest.found; stands = rest.stands } in
    all)
    (cases_Bool (is_same address first.address))

-- what holds of each account holds of that one
pub All-bytes_at : (P : List ℕ → Type 0) (address : Address) (accounts : List PlainAccount) (bytes : List ℕ)
    → All (λ (account : PlainAccount). P account.bytes) accounts → bytes_at address accounts ≡ Some bytes → P bytes
All-bytes_at P address [] bytes all found = absurd (cc)
All-bytes_at P address (first ∷ others) bytes all found =
    ⊎_elim
    (λ (same : is_same address first.address ≡ true).
    let at : bytes_at address (first ∷ others) ≡ Some first.bytes = cond-true _ _ _ same in
    let is : Some first.bytes ≡ Some bytes = sym at ∙ found in
    let e : first.bytes ≡ bytes = cc in
    subst P e (All-head (λ (account : PlainAccount). P account.bytes) first others all))
    (λ (apart : is_same address first.address ≡ false).
    let past : bytes_at address (first ∷ others) ≡ bytes_at address others = cond-false _ _ _ apart in
    All-bytes_at P address others bytes (All-tail (λ (account : PlainAccount). P account.bytes) first others all) (sym past ∙ found))
    (cases_Bool (is_same address first.address))

-- and of each account after that one was changed, where it holds of the changed one
pub All-changed_at : (P : List ℕ → Type 0) (address : Address) (change : List ℕ → List ℕ) (accounts : List PlainAccount)
    → All (λ (account : PlainAccount). P account.bytes) accounts → ((bytes : List ℕ) → bytes_at address accounts ≡ Some bytes → P (change bytes))
    → All (λ (account : PlainAccount). P account.bytes) (changed_at address change accounts)
All-changed_at P address change [] all changed = All-nil (λ (account : PlainAccount). P account.bytes)
All-changed_at P address change (first ∷ others) all changed =
    let Q : PlainAccount → Type 0 = λ account. P account.bytes in
    let rest : All Q others = All-tail Q first others all in
    ⊎_elim
    (λ (same : is_same address first.address ≡ true).
    let at : bytes_at address (first ∷ others) ≡ Some first.bytes = cond-true _ _ _ same in
    let now : changed_at address change (first ∷ others) ≡ with_change change first ∷ others = cond-true _ _ _ same in
    All-same Q (changed_at address change (first ∷ others)) (with_change change first ∷ others) now (All-cons Q (with_change change first) others (changed first.bytes at) rest))
    (λ (apart : is_same address first.address ≡ false).
    let past : bytes_at address (first ∷ others) ≡ bytes_at address others = cond-false _ _ _ apart in
    let now : changed_at address change (first ∷ others) ≡ first ∷ changed_at address change others = cond-false _ _ _ apart in
    All-same Q (changed_at address change (first ∷ others)) (first ∷ changed_at address change others) now
    (All-cons Q first (changed_at address change others) (All-head Q first others all)
    (All-changed_at P address change others rest (λ bytes found. changed bytes (past ∙ found)))))
    (cases_Bool (is_same address first.address))

-- the traders after the change
pub traders_of-changed_at : (address : Address) (change : List ℕ → List ℕ) (accounts : List PlainAccount) (bytes : List ℕ) → bytes_at address accounts ≡ Some bytes
    → traders_of (changed_at address change accounts) ≡ put_trader address (trader_of (change bytes)) (traders_of accounts)
traders_of-changed_at address change [] bytes found = refl
traders_of-changed_at address change (first ∷ others) bytes found =
    ⊎_elim
    (λ (same : is_same address first.address ≡ true).
    let at : bytes_at address (first ∷ others) ≡ Some first.bytes = cond-true _ _ _ same in
    let is : Some first.bytes ≡ Some bytes = sym at ∙ found in
    let e : first.bytes ≡ bytes = cc in
    let now : changed_at address change (first ∷ others) ≡ with_change change first ∷ others = cond-true _ _ _ same in
    let put : put_trader address (trader_of (change bytes)) (traders_of (first ∷ others)) ≡ (first.address, trader_of (change bytes)) ∷ traders_of others = cond-true _ _ _ same in
    let entry : List ℕ → Traders = λ b. (first.address, trader_of (change b)) ∷ traders_of others in
    ap traders_of now ∙ ap entry e ∙ sym put)
    (λ (apart : is_same address first.address ≡ false).
    let past : bytes_at address (first ∷ others) ≡ bytes_at address others = cond-false _ _ _ apart in
    let now : changed_at address change (first ∷ others) ≡ first ∷ changed_at address change others = cond-false _ _ _ apart in
    let put : put_trader address (trader_of (change bytes)) (traders_of (first ∷ others)) ≡ entry_of first ∷ put_trader address (trader_of (change bytes)) (traders_of others) = cond-false _ _ _ apart in
    ap traders_of now
    ∙ ap (λ (l : Traders). entry_of first ∷ l) (traders_of-changed_at address change others bytes (sym past ∙ found))
    ∙ sym put)
    (cases_Bool (is_same address first.address))

-- what the change leaves of each account, of that one too, stays
pub named_in-changed_at : (address : Address) (change : List ℕ → List ℕ) (accounts : List PlainAccount)
    → ((bytes : List ℕ) → bytes_at address accounts ≡ Some bytes → market_of (change bytes) ≡ market_of bytes)
    → map named_in (changed_at address change accounts) ≡ map named_in accounts
named_in-changed_at address change [] stays = refl
named_in-changed_at address change (first ∷ others) stays =
    ⊎_elim
    (λ (same : is_same address first.address ≡ true).
    let at : bytes_at address (first ∷ others) ≡ Some first.bytes = cond-true _ _ _ same in
    let now : changed_at address change (first ∷ others) ≡ with_change change first ∷ others = cond-true _ _ _ same in
    let entry : Address → List (Address × Address) = λ market. (first.address, market) ∷ map named_in others in
    ap (map named_in) now ∙ ap entry (stays first.bytes at))
    (λ (apart : is_same address first.address ≡ false).
    let past : bytes_at address (first ∷ others) ≡ bytes_at address others = cond-false _ _ _ apart in
    let now : changed_at address change (first ∷ others) ≡ first ∷ changed_at address change others = cond-false _ _ _ apart in
    ap (map named_in) now
    ∙ ap (λ (l : List (Address × Address)). named_in first ∷ l) (named_in-changed_at address change others (λ bytes found. stays bytes (past ∙ found))))
    (cases_Bool (is_same address first.address))

-- no account gets another address
pub addresses-changed_at : (address : Address) (change : List ℕ → List ℕ) (accounts : List PlainAccount)
    → map (λ (account : PlainAccount). account.address) (changed_at address change accounts) ≡ map (λ (account : PlainAccount). account.address) accounts
addresses-changed_at address change [] = refl
addresses-changed_at address change (first ∷ others) =
    let addresses : List PlainAccount → List Address = map (λ account. account.address) in
    ⊎_elim
    (λ (same : is_same address first.address ≡ true).
    let now : changed_at address change (first ∷ others) ≡ with_change change first ∷ others = cond-true _ _ _ same in
    ap addresses now)
    (λ (apart : is_same address first.address ≡ false).
    let now : changed_at address change (first ∷ others) ≡ first ∷ changed_at address change others = cond-false _ _ _ apart in
    ap addresses now ∙ ap (λ (l : List Address). first.address ∷ l) (addresses-changed_at address change others))
    (cases_Bool (is_same address first.address))

-- the account of the address has the other bytes then
pub bytes_at-changed_at : (address : Address) (change : List ℕ → List ℕ) (accounts : List PlainAccount) (bytes : List ℕ)
    → bytes_at address accounts ≡ Some bytes → bytes_at address (changed_at address change accounts) ≡ Some (change bytes)
bytes_at-changed_at address change [] bytes found = absurd (cc)
bytes_at-changed_at address change (first ∷ others) bytes found =
    ⊎_elim
    (λ (same : is_same address first.address ≡ true).
    let at : bytes_at address (first ∷ others) ≡ Some first.bytes = cond-true _ _ _ same in
    let is : Some first.bytes ≡ Some bytes = sym at ∙ found in
    let e : first.bytes ≡ bytes = cc in
    let now : changed_at address change (first ∷ others) ≡ with_change change first ∷ others = cond-true _ _ _ same in
    let here : bytes_at address (with_change change first ∷ others) ≡ Some (change first.bytes) = cond-true _ _ _ same in
    ap (bytes_at address) now ∙ here ∙ ap (λ (b : List ℕ). Some (change b)) e)
    (λ (apart : is_same address first.address ≡ false).
    let past : bytes_at address (first ∷ others) ≡ bytes_at address others = cond-false _ _ _ apart in
    let now : changed_at address change (first ∷ others) ≡ first ∷ changed_at address change others = cond-false _ _ _ apart in
    let there : bytes_at address (first ∷ changed_at address change others) ≡ bytes_at address (changed_at address change others) = cond-false _ _ _ apart in
    ap (bytes_at address) now ∙ there ∙ bytes_at-changed_at address change others bytes (sym past ∙ found))
    (cases_Bool (is_same address first.address))

-- the accounts with other bytes at the first place of an address are changed at it
pub changed_at-here : (address : Address) (accounts : List OrdersAccount) (place : ℕ) (default : OrdersAccount) (bytes : List ℕ) → IsFirst address (map orders_account_of accounts) place
    → set (map orders_account_of accounts) place (record { address = (get_or accounts place default).address; bytes = bytes })
    ≡ changed_at address (λ was. bytes) (map orders_account_of accounts)
changed_at-here address accounts place default bytes first =
    let plain = map orders_account_of accounts in
    let lt : place < length accounts = omega (arith, first.within, length-map accounts orders_account_of) in
    sym (changed_at-first address (λ was. bytes) plain place (orders_account_of default) first
    ∙ ap (λ (a : PlainAccount). set plain place (with_change (λ was. bytes) a)) (get_or-map orders_account_of accounts place default (orders_account_of default) lt))
