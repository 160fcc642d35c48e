-- among accepted accounts no open-orders account of a market stands twice
use Rattle.std.proofs.Common.{◌≡◌, ℕ, zero, suc, ◌+◌, ◌<◌, ◌≤◌, Bool, true, false, cond, List, [], ◌∷◌, ◌++◌, length, get_or, map, None, refl, ap, arith, ◌⊎◌, inl, inr}
use Rattle.std.proofs.lemmas.List.Sums.{sum_by-append, sum_by-cons}
use Rattle.std.specs.List.{All, flat_map}
use Rattle.dex_types.specs.declared.addresses.Address.{Address}
use Rattle.dex_types.specs.Accounts.{PlainAccount, PlainAccounts, PlainMarketAccounts}
use Rattle.dex_types.specs.Addresses.{is_same}
use Rattle.dex_types.specs.Soundness.{AreDistinct}
use Rattle.dex_types.specs.Trader.{trader_at}
use Rattle.dex_laws.proofs.TraderLaws.{is_same-refl}
use Rattle.dex_orders.specs.StandsFor.{traders_of}
use Rattle.dex_state.specs.Addresses.{address_of, all_of_market, market_addresses, times}
use Rattle.dex_types.specs.declared.limits.Limits.{Limits}
use Rattle.dex_state.specs.Accepted.{AreAccepted}

-- one where it is so
abbrev one : Bool → ℕ
one b = cond b 1 0

times-cons : (address x : Address) (xs : List Address) → times address (x ∷ xs) ≡ one (is_same address x) + times address xs
times-cons address x xs = sum_by-cons (λ (y : Address). one (is_same address y)) x xs

times-append : (address : Address) (xs ys : List Address) → times address (xs ++ ys) ≡ times address xs + times address ys
times-append address xs ys = sum_by-append (λ (y : Address). one (is_same address y)) xs ys

by_test : (b : Bool) → (b ≡ true) ⊎ (b ≡ false)
by_test true = inl refl
by_test false = inr refl

-- an address that does not stand there has no trader
none-at : (address : Address) (accounts : List PlainAccount) → times address (map address_of accounts) ≡ 0 → trader_at address (traders_of accounts) ≡ None
none-at address [] none = refl
none-at address (account ∷ accounts) none =
    let more = times-cons address account.address (map address_of accounts) in
    elim (by_test (is_same address account.address)) [
      | inl same ↦ absurd (omega (arith, more, ap one same))
      | inr apart ↦ rw apart (none-at address accounts (omega arith))
    ]

pub distinct-of : (accounts : List PlainAccount) → ((address : Address) → times address (map address_of accounts) ≤ 1) → AreDistinct (traders_of accounts)
distinct-of [] once = tt
distinct-of (account ∷ accounts) once = (
  none-at account.address accounts
      (omega (arith, once account.address, times-cons account.address account.address (map address_of accounts), ap one (is_same-refl account.address))),
  distinct-of accounts (λ address. omega (arith, once address, times-cons address account.address (map address_of accounts))),
)

-- a market's addresses are among those of all markets
among-all : (address : Address) (markets : List PlainMarketAccounts) (k : ℕ) (d : PlainMarketAccounts) → k < length markets
    → times address (all_of_market (get_or markets k d)) ≤ times address (flat_map all_of_market markets)
among-all address [] k d lt = absurd (omega arith)
among-all address (market ∷ markets) zero d lt = omega (arith, times-append address (all_of_market market) (flat_map all_of_market markets))
among-all address (market ∷ markets) (suc k) d lt =
    omega (arith, times-append address (all_of_market market) (flat_map all_of_market markets), among-all address markets k d (omega arith))

pub accounts-distinct : {limits : Limits} (accounts : PlainAccounts) → AreAccepted limits accounts → All (λ (market : PlainMarketAccounts). AreDistinct (traders_of market.orders)) accounts.markets
accounts-distinct accounts accepted k d lt =
    let market : PlainMarketAccounts = get_or accounts.markets k d in
    distinct-of market.orders
    (λ address.
    omega (
      arith,
      accepted.once address,
      times-append address (map address_of accounts.mints) (map address_of accounts.wallets ++ flat_map all_of_market accounts.markets),
      times-append address (map address_of accounts.wallets) (flat_map all_of_market accounts.markets),
      among-all address accounts.markets k d lt,
      times-append address (market_addresses market) (map address_of market.orders),
    ))
