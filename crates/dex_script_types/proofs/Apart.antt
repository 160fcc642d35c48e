-- Of accepted accounts no two markets and no two wallets have one address.
use Rattle.std.proofs.Common.{◌≡◌, ◌+◌, ◌≤◌, false, List, [], ◌∷◌, ◌++◌, map, arith, refl}
use Rattle.dex_world.proofs.Common.{Address, All-cons, All-nil, PlainAccount, PlainAccounts, PlainMarketAccounts, false_from_ne_true, is_same, is_same-refl}
use Rattle.std.specs.List.{All, AllPairs, flat_map}
use Rattle.std.proofs.lemmas.List.Kept.{AllPairs-cons}
use Rattle.dex_market.specs.MarketAccount.{market_words}
use Rattle.dex_state.specs.Addresses.{address_of, addresses_of, all_of_market, parts_of, times}
use Rattle.dex_types.specs.declared.limits.Limits.{Limits}
use Rattle.dex_state.specs.Accepted.{AreAccepted}
use Rattle.dex_state.proofs.Times.{one, times-append, times-cons}

-- no two of these are the same address
abbrev pub AreDistinct : List Address → Type 0
AreDistinct addresses = AllPairs (λ (one other : Address). is_same one other ≡ false) addresses

-- ---- how often an address is among them

-- one address is not more often among the markets than among all accounts
times-markets : (address : Address) (markets : List PlainMarketAccounts)
    → times address (map (λ (accounts : PlainMarketAccounts). accounts.address) markets) ≤ times address (flat_map all_of_market markets)
times-markets address [] = omega arith
times-markets address (first ∷ markets) =
    omega (
      arith,
      times-cons address first.address (map (λ (accounts : PlainMarketAccounts). accounts.address) markets),
      times-append address (all_of_market first) (flat_map all_of_market markets),
      times-cons address first.address (parts_of (market_words first.market).terms ++ map address_of first.orders),
      times-markets address markets,
    )

module _ (accounts : PlainAccounts) (address : Address) (once : times address (addresses_of accounts) ≤ 1) where
  few : times address (map address_of accounts.wallets) + times address (flat_map all_of_market accounts.markets) ≤ 1
  few =
      omega (
        arith,
        once,
        times-append address (map address_of accounts.mints) (map address_of accounts.wallets ++ flat_map all_of_market accounts.markets),
        times-append address (map address_of accounts.wallets) (flat_map all_of_market accounts.markets),
      )

  pub market-once : times address (map (λ (market : PlainMarketAccounts). market.address) accounts.markets) ≤ 1
  market-once = omega (arith, few, times-markets address accounts.markets)

  pub wallet-once : times address (map address_of accounts.wallets) ≤ 1
  wallet-once = omega (arith, few)

-- ---- so they are apart

-- an address that stands nowhere among others is none of them
none-of : (address : Address) (others : List Address) → times address others ≡ 0 → All (λ (other : Address). is_same address other ≡ false) others
none-of address [] none = All-nil (λ (other : Address). is_same address other ≡ false)
none-of address (first ∷ others) none =
    let counted = times-cons address first others in
    All-cons (λ (other : Address). is_same address other ≡ false) first others
    (false_from_ne_true (is_same address first) (λ same. let once : one address first ≡ 1 = rw same refl in omega (arith, none, counted, once)))
    (none-of address others (omega (arith, none, counted)))

-- addresses of which each stands once are distinct
distinct : (addresses : List Address) → ((address : Address) → times address addresses ≤ 1) → AreDistinct addresses
distinct [] once = λ i j d before within. absurd (omega (arith, before, within))
distinct (first ∷ others) once =
    let here : one first first ≡ 1 = rw (is_same-refl first) refl in
    AllPairs-cons (λ (one other : Address). is_same one other ≡ false) first others
    (none-of first others (omega (arith, once first, times-cons first first others, here)))
    (distinct others (λ address. omega (arith, once address, times-cons address first others)))

pub markets-distinct : {limits : Limits} (accounts : PlainAccounts) → AreAccepted limits accounts → AreDistinct (map (λ (market : PlainMarketAccounts). market.address) accounts.markets)
markets-distinct accounts accepted = distinct (map (λ (market : PlainMarketAccounts). market.address) accounts.markets) (λ address. market-once accounts address (accepted.once address))

pub wallets-distinct : {limits : Limits} (accounts : PlainAccounts) → AreAccepted limits accounts → AreDistinct (map (λ (account : PlainAccount). account.address) accounts.wallets)
wallets-distinct accounts accepted = distinct (map (λ (account : PlainAccount). account.address) accounts.wallets) (λ address. wallet-once accounts address (accepted.once address))
