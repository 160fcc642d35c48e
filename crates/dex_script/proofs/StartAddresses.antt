-- Every address of the accounts so far is taken, and none is taken twice.
use Rattle.std.proofs.Common.{◌≡◌, ◌∙◌, ◌≤◌, ◌+◌, ◌∷◌, ◌++◌, ◌==◌, [], List, true, false, ap, arith, inl, inr, length, map, refl, get_or}
use Rattle.std.specs.List.{list_any}
use Rattle.std.proofs.lemmas.Bool.{cases_Bool, eqb-false, false≢true, or_from, or_parts}
use Rattle.dex_types.specs.declared.addresses.Address.{Address}
use Rattle.dex_types.specs.Accounts.{PlainAccount, PlainAccounts}
use Rattle.dex_types.specs.Addresses.{is_same}
use Rattle.dex_laws.proofs.TraderLaws.{is_same-sym}
use Rattle.dex_market.specs.MarketAccount.{MarketWords}
use Rattle.dex_make.specs.declared.market.MarketSet.{MarketSet}
use Rattle.dex_make.specs.declared.parts.MarketPart.{MarketPart}
use Rattle.dex_make.specs.declared.parts.MarketPart.TheVariants.{CoinVault, PcVault, RequestQueue, EventQueue, Bids, Asks, VaultOwner}
use Rattle.dex_make.specs.Derived.{derived, number_of}
use Rattle.dex_make.specs.MarketBytes.{made_accounts}
use Rattle.dex_make.specs.MarketSet.{listing_of}
use Rattle.dex_make.proofs.PartLaws.{part_apart, parts_apart}
use Rattle.dex_sound.specs.Made.{made_market}
use Rattle.dex_accounts.specs.StandsFor.{StandsFor}
use Rattle.dex_state.specs.Addresses.{address_of, addresses_of, market_addresses, parts_of, times}
use Rattle.dex_dump.specs.Reading.{is_among}
use Rattle.dex_state.proofs.Times.{one, times-append, times-cons, times-same}
use Rattle.dex_dump.proofs.TakenLaws.{AreApart, AreFree, parts, times-new, times-none}
use Rattle.dex_script_types.specs.Known.{has_account}
use Rattle.dex_script.specs.Known.{is_any_among, made_addresses}

pub record AreTaken (start : PlainAccounts) (taken : List Address) : Type 0 where
  pub all : (address : Address) → times address (addresses_of start) ≤ times address taken
  pub once : (address : Address) → times address taken ≤ 1

pub taken-once : (start : PlainAccounts) (taken : List Address) → AreTaken start taken → (address : Address) → times address (addresses_of start) ≤ 1
taken-once start taken are address = omega (arith, are.all address, are.once address)

-- the accounts have no more addresses than these beside those of the accounts before
pub taken-more : (start next : PlainAccounts) (taken new : List Address) → AreTaken start taken
    → ((address : Address) → times address (addresses_of next) ≤ times address (addresses_of start) + times address new)
    → AreFree taken new → AreApart new → AreTaken next (taken ++ new)
taken-more start next taken new are adds free apart = record {
  all = λ address. omega (arith, are.all address, adds address, times-append address taken new);
  once = λ address. times-new address taken new free apart (are.once address);
}

-- ---- an address that is not taken is none of a mint

named-there : (address : Address) (accounts : List PlainAccount) → has_account address accounts ≡ true → 1 ≤ times address (map address_of accounts)
named-there address [] h = absurd (false≢true h)
named-there address (account ∷ accounts) h =
    let all = times-cons address account.address (map address_of accounts) in
    elim (cases_Bool (is_same address account.address)) [
      | inl here ↦
          let first : one address account.address ≡ 1 = rw here refl in
          omega arith
      | inr other ↦
          let rest = named-there address accounts (rw other at h) in
          omega arith
    ]

pub new-is-other : (start : PlainAccounts) (taken : List Address) (new mint : Address) → AreTaken start taken → is_among new taken ≡ false
    → has_account mint start.mints ≡ true → is_same new mint ≡ false
new-is-other start taken new mint are free known = elim (cases_Bool (is_same new mint)) [
  | inl same ↦
      let none : times new taken ≡ 0 = times-none new taken free in
      let swapped = times-same new mint taken same in
      absurd (omega (arith, parts mint start, named-there mint start.mints known, are.all mint))
  | inr other ↦ other
]

-- ---- the addresses that a market row declares

pub are-free : (taken new : List Address) → is_any_among new taken ≡ false → AreFree taken new
are-free taken [] h = tt
are-free taken (x ∷ xs) h =
    let parts = or_parts (is_among x taken) (is_any_among xs taken) h in
    (parts.0, are-free taken xs parts.1)

-- each part's address is free
pub part-free : (taken : List Address) (market : Address) → AreFree taken (made_addresses market) → (part : MarketPart)
    → is_among (derived market part) taken ≡ false
part-free taken market free CoinVault = free.1.0
part-free taken market free PcVault = free.1.1.0
part-free taken market free RequestQueue = free.1.1.1.0
part-free taken market free EventQueue = free.1.1.1.1.0
part-free taken market free Bids = free.1.1.1.1.1.0
part-free taken market free Asks = free.1.1.1.1.1.1.0
part-free taken market free VaultOwner = free.1.1.1.1.1.1.1.0

module _ (market : Address) (wide : length market.0 ≡ 32) where
  -- a part is none of these others
  part-among : (part : MarketPart) (others : List MarketPart) → list_any (λ (other : MarketPart). number_of part == number_of other) others ≡ false
      → is_among (derived market part) (map (derived market) others) ≡ false
  part-among part [] none = refl
  part-among part (other ∷ others) none =
      let parts = or_parts (number_of part == number_of other) (list_any (λ (o : MarketPart). number_of part == number_of o) others) none in
      let apart = parts_apart market wide part other (λ same. eqb-false (number_of part) (number_of other) parts.0 (ap number_of same)) in
      or_from (is_same (derived market part) (derived market other)) (is_among (derived market part) (map (derived market) others))
      apart (part-among part others parts.1)

  own-among : get_or market.0 31 0 ≡ 0 → (parts : List MarketPart) → is_among market (map (derived market) parts) ≡ false
  own-among last [] = refl
  own-among last (part ∷ parts) =
      or_from (is_same market (derived market part)) (is_among market (map (derived market) parts))
      (is_same-sym market (derived market part) ∙ part_apart market wide last part) (own-among last parts)

  pub made-apart : get_or market.0 31 0 ≡ 0 → AreApart (made_addresses market)
  made-apart last =
      let own = own-among last (CoinVault ∷ PcVault ∷ RequestQueue ∷ EventQueue ∷ Bids ∷ Asks ∷ VaultOwner ∷ []) in
      let coin_vault = part-among CoinVault (PcVault ∷ RequestQueue ∷ EventQueue ∷ Bids ∷ Asks ∷ VaultOwner ∷ []) refl in
      let pc_vault = part-among PcVault (RequestQueue ∷ EventQueue ∷ Bids ∷ Asks ∷ VaultOwner ∷ []) refl in
      let requests = part-among RequestQueue (EventQueue ∷ Bids ∷ Asks ∷ VaultOwner ∷ []) refl in
      let events = part-among EventQueue (Bids ∷ Asks ∷ VaultOwner ∷ []) refl in
      let bids = part-among Bids (Asks ∷ VaultOwner ∷ []) refl in
      let asks = part-among Asks (VaultOwner ∷ []) refl in
      (own, (coin_vault, (pc_vault, (requests, (events, (bids, (asks, (part-among VaultOwner [] refl, tt))))))))

-- what the account of a made market names is among them
pub made-within : (set : MarketSet) → StandsFor (made_accounts set) (made_market (listing_of set) []) → (address : Address)
    → times address (market_addresses (made_accounts set)) ≤ times address (made_addresses set.address)
made-within set stands address =
    let own = set.address in
    let named : List Address = own ∷ derived own CoinVault ∷ derived own PcVault ∷ derived own RequestQueue ∷ derived own EventQueue ∷ derived own Bids ∷ derived own Asks ∷ [] in
    let same : market_addresses (made_accounts set) ≡ named = ap (λ (w : MarketWords). own ∷ parts_of w.terms) stands.terms.words in
    omega (arith, ap (times address) same, times-append address named (derived own VaultOwner ∷ []))
