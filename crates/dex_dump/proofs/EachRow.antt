-- What holds of each row that an account, a name or a market gives holds of all rows between the first and the last.
use Rattle.std.proofs.Common.{◌∷◌, ◌++◌, [], List, All, IfSome, ℕ, Option, Some, None, arith, suc, codes, map}
use Rattle.std.specs.List.{flat_map}
use Rattle.dex_types.specs.declared.addresses.Address.{Address}
use Rattle.dex_types.specs.Accounts.{PlainAccount, PlainAccounts, PlainMarketAccounts}
use Rattle.dex_types.specs.Text.{address_text}
use Rattle.dex_dump_rows.specs.Lines.{Fields}
use Rattle.dex_state.specs.Held.{HoldBytes, IsAddress, IsHeld, IsHeldMarket}
use Rattle.dex_dump.specs.DumpText.{account_rows, market_row, market_rows, mint_row, named_rows, orders_row, wallet_row}

-- a fact of each row of what holds bytes
pub record EachRow (P : Fields → Type 0) : Type 0 where
  pub mint : (mint : PlainAccount) → IsHeld mint → P (mint_row mint)
  pub srm : (mint : Address) → IsAddress mint → P (codes "srm" ∷ address_text mint ∷ [])
  pub msrm : (mint : Address) → IsAddress mint → P (codes "msrm" ∷ address_text mint ∷ [])
  pub wallet : (wallet : PlainAccount) → IsHeld wallet → P (wallet_row wallet)
  pub market : (market : PlainMarketAccounts) → IsHeldMarket market → P (market_row market)
  pub orders : (market : Address) → IsAddress market → (account : PlainAccount) → IsHeld account → P (orders_row market account)

-- a fact of all of these rows
abbrev pub AreAll : (Fields → Type 0) → List Fields → Type 0
AreAll P [] = Unit {0}
AreAll P (row ∷ rows) = P row × AreAll P rows

-- of all elements of a list the first, and the others
pub first_of : {A : Type 0} (P : A → Type 0) (x : A) (xs : List A) → All P (x ∷ xs) → P x
first_of P x xs h = h 0 x (omega arith)

pub others_of : {A : Type 0} (P : A → Type 0) (x : A) (xs : List A) → All P (x ∷ xs) → All P xs
others_of P x xs h = λ k d below. h (suc k) d (omega arith)

pub all_append : (P : Fields → Type 0) (xs ys : List Fields) → AreAll P xs → AreAll P ys → AreAll P (xs ++ ys)
all_append P [] ys h k = k
all_append P (x ∷ xs) ys h k = (h.0, all_append P xs ys h.1 k)

all_named : (P : Fields → Type 0) (word : List ℕ) → ((mint : Address) → IsAddress mint → P (word ∷ address_text mint ∷ []))
    → (mint : Option Address) → IfSome mint IsAddress → AreAll P (named_rows word mint)
all_named P word each None is = tt
all_named P word each (Some mint) is = (each mint is, tt)

all_map : {A : Type 0} (P : Fields → Type 0) (Q : A → Type 0) (row : A → Fields) → ((x : A) → Q x → P (row x))
    → (xs : List A) → All Q xs → AreAll P (map row xs)
all_map P Q row each [] h = tt
all_map P Q row each (x ∷ xs) h = (each x (first_of Q x xs h), all_map P Q row each xs (others_of Q x xs h))

all_markets : (P : Fields → Type 0) → EachRow P → (markets : List PlainMarketAccounts) → All IsHeldMarket markets
    → AreAll P (flat_map market_rows markets)
all_markets P each [] h = tt
all_markets P each (market ∷ markets) h =
    let is = first_of IsHeldMarket market markets h in (
      each.market market is,
      all_append P (map (orders_row market.address) market.orders) (flat_map market_rows markets)
          (all_map P IsHeld (orders_row market.address) (each.orders market.address is.address) market.orders is.orders)
          (all_markets P each markets (others_of IsHeldMarket market markets h)),
    )

pub all_accounts : (P : Fields → Type 0) → EachRow P → (accounts : PlainAccounts) → HoldBytes accounts → AreAll P (account_rows accounts)
unfolding account_rows
all_accounts P each accounts h =
    let srms = named_rows (codes "srm") accounts.srm in
    let msrms = named_rows (codes "msrm") accounts.msrm in
    let markets = flat_map market_rows accounts.markets in
    let wallets = map wallet_row accounts.wallets in
    all_append P (map mint_row accounts.mints) (srms ++ (msrms ++ (wallets ++ markets)))
    (all_map P IsHeld mint_row each.mint accounts.mints h.mints)
    (all_append P srms (msrms ++ (wallets ++ markets)) (all_named P (codes "srm") each.srm accounts.srm h.srm)
    (all_append P msrms (wallets ++ markets) (all_named P (codes "msrm") each.msrm accounts.msrm h.msrm)
    (all_append P wallets markets (all_map P IsHeld wallet_row each.wallet accounts.wallets h.wallets) (all_markets P each accounts.markets h.markets))))
