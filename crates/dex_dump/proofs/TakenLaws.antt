-- How often an address stands among the addresses of accounts, and what a line adds.
use Rattle.std.proofs.Common.{◌≡◌, ◌≤◌, ◌+◌, ◌∷◌, ◌++◌, ◌∙◌, ◌⊎◌, ◌||◌, [], ℕ, Bool, List, true, false, not, cond, arith, refl, sym, ap, inl, inr, map}
use Rattle.std.specs.List.{flat_map}
use Rattle.std.proofs.lemmas.Bool.{and_parts, cases_Bool, false≢true, or_parts}
use Rattle.std.proofs.lemmas.List.{map-append}
use Rattle.std.proofs.lemmas.List.Concat.{flat_map-append}
use Rattle.std.proofs.lemmas.List.Folds.{list_any-append}
use Rattle.dex_types.specs.declared.addresses.Address.{Address}
use Rattle.dex_types.specs.Accounts.{PlainAccount, PlainAccounts, PlainMarketAccounts}
use Rattle.dex_types.specs.Addresses.{is_same}
use Rattle.dex_laws.proofs.TraderLaws.{is_same-sym}
use Rattle.dex_state.specs.Addresses.{address_of, addresses_of, all_of_market, market_addresses, times}
use Rattle.dex_state.proofs.Times.{one, times-append, times-cons, times-same}
use Rattle.dex_dump_rows.specs.Lines.{PlainLine}
use Rattle.dex_dump_rows.specs.Lines.PlainLine.{Mint, Srm, Msrm, Wallet, Market, Orders, End}
use Rattle.dex_dump.specs.Reading.{PlainReading, has_room, is_allowed, is_among, taken_by, with_line, with_orders}
use Rattle.dex_dump.proofs.LineLaws.{IsRead}

pub times-none : (address : Address) (xs : List Address) → is_among address xs ≡ false → times address xs ≡ 0
times-none address [] h = refl
times-none address (x ∷ xs) h =
    let parts = or_parts (is_same address x) (is_among address xs) h in
    times-cons address x xs ∙ rw (parts.0, times-none address xs parts.1) refl

-- ---- one address more

either-found : (here before : Bool) → cond here true before ≡ (before || (here || false))
either-found true true = refl
either-found true false = refl
either-found false true = refl
either-found false false = refl

-- an address is among these and one more
pub found-more : (address other : Address) (list : List Address) → cond (is_same other address) true (is_among address list) ≡ is_among address (list ++ other ∷ [])
found-more address other list =
    ap (λ (here : Bool). cond here true (is_among address list)) (is_same-sym other address) ∙ either-found (is_same address other) (is_among address list)
    ∙ sym (list_any-append (is_same address) list (other ∷ []))

-- ---- addresses that are new

-- no two of these are the same
abbrev pub AreApart : List Address → Type 0
AreApart [] = Unit {0}
AreApart (x ∷ xs) = (is_among x xs ≡ false) × AreApart xs

-- none of these is taken
abbrev pub AreFree : List Address → List Address → Type 0
AreFree taken [] = Unit {0}
AreFree taken (x ∷ xs) = (is_among x taken ≡ false) × AreFree taken xs

times-apart : (address : Address) (xs : List Address) → AreApart xs → times address xs ≤ 1
times-apart address [] h = omega arith
times-apart address (x ∷ xs) h = elim (cases_Bool (is_same address x)) [
  | inl same ↦
      let none = times-same address x xs same ∙ times-none x xs h.0 in
      let first : one address x ≡ 1 = rw same refl in
      omega (arith, times-cons address x xs)
  | inr other ↦
      let rest = times-apart address xs h.1 in
      let first : one address x ≡ 0 = rw other refl in
      omega (arith, times-cons address x xs)
]

-- an address is none of the new ones, or it is not taken
either : (address : Address) (taken xs : List Address) → AreFree taken xs → (times address xs ≡ 0) ⊎ (times address taken ≡ 0)
either address taken [] h = inl refl
either address taken (x ∷ xs) h = elim (cases_Bool (is_same address x)) [
  | inl same ↦ inr (times-same address x taken same ∙ times-none x taken h.0)
  | inr other ↦
      let first : one address x ≡ 0 = rw other refl in
      elim (either address taken xs h.1) [
        | inl none ↦ inl (times-cons address x xs ∙ rw (first, none) refl)
        | inr free ↦ inr free
      ]
]

pub times-new : (address : Address) (taken xs : List Address) → AreFree taken xs → AreApart xs → times address taken ≤ 1
    → times address (taken ++ xs) ≤ 1
times-new address taken xs free apart once =
    let few = times-apart address xs apart in
    elim (either address taken xs free) [
      | inl none ↦ omega (arith, times-append address taken xs)
      | inr none ↦ omega (arith, times-append address taken xs)
    ]

-- ---- what accounts have more

-- the accounts have these addresses more
abbrev pub AddsOnly : PlainAccounts → List Address → PlainAccounts → Type 0
AddsOnly accounts new next = (address : Address) → times address (addresses_of next) ≡ times address (addresses_of accounts) + times address new

abbrev in_markets : Address → List PlainMarketAccounts → ℕ
in_markets address markets = times address (flat_map all_of_market markets)

pub parts : (address : Address) (accounts : PlainAccounts) → times address (addresses_of accounts)
    ≡ times address (map address_of accounts.mints) + (times address (map address_of accounts.wallets) + in_markets address accounts.markets)
parts address accounts =
    times-append address (map address_of accounts.mints) (map address_of accounts.wallets ++ flat_map all_of_market accounts.markets)
    ∙ ap (λ (n : ℕ). times address (map address_of accounts.mints) + n) (times-append address (map address_of accounts.wallets) (flat_map all_of_market accounts.markets))

pushed : (address : Address) (xs : List PlainAccount) (x : PlainAccount)
    → times address (map address_of (xs ++ x ∷ [])) ≡ times address (map address_of xs) + times address (x.address ∷ [])
pushed address xs x = ap (times address) (map-append address_of xs (x ∷ [])) ∙ times-append address (map address_of xs) (x.address ∷ [])

orders-added : (most : ℕ) (address name : Address) (account : PlainAccount) (markets : List PlainMarketAccounts) → has_room most name markets ≡ true
    → in_markets address (with_orders name account markets) ≡ in_markets address markets + times address (account.address ∷ [])
orders-added most address name account [] h = absurd (false≢true h)
orders-added most address name account (market ∷ markets) h = elim (cases_Bool (is_same name market.address)) [
  | inl here ↦
      let grown : PlainMarketAccounts = record market { orders = market.orders ++ account ∷ [] } in
      let new = times-append address (all_of_market grown) (flat_map all_of_market markets) in
      let old = times-append address (all_of_market market) (flat_map all_of_market markets) in
      let mine = times-append address (market_addresses market) (map address_of market.orders) in
      let more = times-append address (market_addresses market) (map address_of grown.orders) in
      let last = pushed address market.orders account in
      rw here (omega arith)
  | inr other ↦
      let room : has_room most name markets ≡ true = rw other at h in
      let rest = orders-added most address name account markets room in
      let new = times-append address (all_of_market market) (flat_map all_of_market (with_orders name account markets)) in
      let old = times-append address (all_of_market market) (flat_map all_of_market markets) in
      rw other (omega arith)
]

module _ (accounts : PlainAccounts) where
  pub mint-adds : (mint : PlainAccount) → AddsOnly accounts (mint.address ∷ []) (with_line accounts (Mint mint))
  mint-adds mint address =
      omega (arith, parts address accounts, parts address (with_line accounts (Mint mint)), pushed address accounts.mints mint)

  -- with other mints of the same addresses
  pub wallet-adds : (mints : List PlainAccount) (wallet : PlainAccount) → map address_of mints ≡ map address_of accounts.mints
      → AddsOnly accounts (wallet.address ∷ []) (record accounts { mints = mints; wallets = accounts.wallets ++ wallet ∷ [] })
  wallet-adds mints wallet same address =
      let next = record accounts { mints = mints; wallets = accounts.wallets ++ wallet ∷ [] } in
      omega (arith, parts address accounts, parts address next, pushed address accounts.wallets wallet, ap (times address) same)

  -- a market without open-orders accounts
  pub market-adds : (market : PlainMarketAccounts) → market.orders ≡ [] → AddsOnly accounts (market_addresses market) (with_line accounts (Market market))
  market-adds market none address =
      let bare : flat_map all_of_market (market ∷ []) ≡ market_addresses market = rw none refl in
      let all : in_markets address (accounts.markets ++ market ∷ []) ≡ in_markets address accounts.markets + times address (market_addresses market) =
      ap (times address) (flat_map-append all_of_market accounts.markets (market ∷ []))
      ∙ times-append address (flat_map all_of_market accounts.markets) (flat_map all_of_market (market ∷ []))
      ∙ ap (λ (xs : List Address). in_markets address accounts.markets + times address xs) bare in
      omega (arith, parts address accounts, parts address (with_line accounts (Market market)), all)

  pub orders-add : (most : ℕ) (name : Address) (account : PlainAccount) → has_room most name accounts.markets ≡ true
      → AddsOnly accounts (account.address ∷ []) (with_line accounts (Orders name account))
  orders-add most name account room address =
      let next = with_line accounts (Orders name account) in
      omega (arith, parts address accounts, parts address next, orders-added most address name account accounts.markets room)

-- a line adds the addresses that it takes
pub line-adds : (reading : PlainReading) (line : PlainLine) → IsRead line → is_allowed reading line ≡ true
    → AddsOnly reading.accounts (taken_by line) (with_line reading.accounts line)
line-adds reading (Mint mint) read allowed = mint-adds reading.accounts mint
line-adds reading (Srm mint) read allowed = λ address. omega arith
line-adds reading (Msrm mint) read allowed = λ address. omega arith
line-adds reading (Wallet wallet) read allowed = wallet-adds reading.accounts reading.accounts.mints wallet refl
line-adds reading (Market market) read allowed = market-adds reading.accounts market read.1
line-adds reading (Orders market account) read allowed =
    orders-add reading.accounts reading.limits.orders market account
    (and_parts (not (is_among account.address reading.taken)) (has_room reading.limits.orders market reading.accounts.markets) allowed).1
line-adds reading End read allowed = λ address. omega arith
