-- The wallets that are named have no flaw exactly where they are token accounts of different addresses.
use Rattle.std.proofs.Common.{◌≡◌, ◌⊎◌, ◌↔◌, ◌∙◌, ◌&&◌, ◌||◌, ℕ, Bool, true, false, List, Option, Some, None, refl, sym, ap, inl, inr}
use Rattle.std.specs.Prelude.{is_some}
use Rattle.std.specs.Option.{option_map}
use Rattle.std.proofs.lemmas.Bool.{false≢true}
use Rattle.dex_fields.proofs.Rules.{cond_none, mapped_none, none_or, or_none}
use Rattle.dex_types.specs.declared.addresses.Address.{Address}
use Rattle.dex_types.specs.Addresses.{is_same}
use Rattle.dex_laws.proofs.TraderLaws.{is_same-refl, is_same-sym}
use Rattle.dex_token.specs.Faults.{wallet_fault}
use Rattle.dex_token.specs.TokenAccount.{IsWallet}
use Rattle.dex_token.proofs.TokenRules.{none_from_wallet, wallet_from_none}
use Rattle.dex_purse.specs.declared.lent_wallets.Roles.{Roles}
use Rattle.dex_purse.specs.declared.lent_wallets.Slot.{Slot}
use Rattle.dex_purse.specs.declared.lent_wallets.Slot.TheVariants.{First, Second, Third, Fourth}
use Rattle.dex_purse.specs.Purse.{AreApart, AreWallets, IsNamed, Purse, names, wallet_at}
use Rattle.dex_check.specs.declared.flaw.Flaw.{Flaw}
use Rattle.dex_check.specs.declared.flaw.Flaw.TheVariants.{Twice}
use Rattle.dex_check.specs.Wallets.{fault_at, first_fault, first_twice, flaw_at, flaw_of_both, is_named, twice_flaw, wallet_flaw, wallets_flaw}

-- ---- one of four tests

some-holds : (a b c d : Bool) → (((a || b) || c) || d) ≡ true → (a ≡ true) ⊎ ((b ≡ true) ⊎ ((c ≡ true) ⊎ (d ≡ true)))
some-holds true b c d is = inl refl
some-holds false true c d is = inr (inl refl)
some-holds false false true d is = inr (inr (inl refl))
some-holds false false false d is = inr (inr (inr is))

holds-some : (a b c d : Bool) → (a ≡ true) ⊎ ((b ≡ true) ⊎ ((c ≡ true) ⊎ (d ≡ true))) → (((a || b) || c) || d) ≡ true
holds-some true b c d is = refl
holds-some false true c d is = refl
holds-some false false true d is = refl
holds-some false false false d (inl is) = absurd (false≢true is)
holds-some false false false d (inr (inl is)) = absurd (false≢true is)
holds-some false false false d (inr (inr (inl is))) = absurd (false≢true is)
holds-some false false false d (inr (inr (inr is))) = is

both-hold : (a b : Bool) → a ≡ true → b ≡ true → (a && b) ≡ true
both-hold a b first second = rw (first, second) refl

both-held : (a b : Bool) → (a && b) ≡ true → (a ≡ true) × (b ≡ true)
both-held true b is = (refl, is)
both-held false b is = absurd (false≢true is)

-- ---- one wallet, and two

wallet-from : (named : Bool) (address : Address) (bytes : List ℕ) → wallet_flaw named address bytes ≡ None → named ≡ true → IsWallet bytes
wallet-from true address bytes none is = wallet_from_none bytes (mapped_none (fault_at address) (wallet_fault bytes) none)
wallet-from false address bytes none is = absurd (false≢true is)

wallet-none : (named : Bool) (address : Address) (bytes : List ℕ) → (named ≡ true → IsWallet bytes) → wallet_flaw named address bytes ≡ None
wallet-none true address bytes is = ap (option_map (fault_at address)) (none_from_wallet bytes (is refl))
wallet-none false address bytes is = refl

apart-from : (both : Bool) (one other : Address) → twice_flaw both one other ≡ None → both ≡ true → is_same one other ≡ false
apart-from true one other none is = (cond_none (is_same one other) (Twice other) None none).0
apart-from false one other none is = absurd (false≢true is)

twice-none : (both : Bool) (one other : Address) → (both ≡ true → is_same one other ≡ false) → twice_flaw both one other ≡ None
twice-none true one other is = rw (is refl) refl
twice-none false one other is = refl

-- ---- all of them

module _ (roles : Roles) (purse : Purse) where
  named : (slot : Slot) → IsNamed slot roles → is_named slot roles ≡ true
  named slot is = holds-some (names slot roles.coin) (names slot roles.pc) (names slot roles.discount) (names slot roles.referrer) is

  is-named : (slot : Slot) → is_named slot roles ≡ true → IsNamed slot roles
  is-named slot is = some-holds (names slot roles.coin) (names slot roles.pc) (names slot roles.discount) (names slot roles.referrer) is

  address : Slot → Address
  address slot = (wallet_at slot purse).address

  pair : (one other : Slot) → flaw_of_both one other roles purse ≡ None → IsNamed one roles → IsNamed other roles
      → is_same (wallet_at one purse).address (wallet_at other purse).address ≡ false
  pair one other none first second =
      apart-from (is_named one roles && is_named other roles) (wallet_at one purse).address (wallet_at other purse).address none
      (both-hold (is_named one roles) (is_named other roles) (named one first) (named other second))

  no-pair : (one other : Slot) → (IsNamed one roles → IsNamed other roles → is_same (wallet_at one purse).address (wallet_at other purse).address ≡ false)
      → flaw_of_both one other roles purse ≡ None
  no-pair one other apart =
      twice-none (is_named one roles && is_named other roles) (wallet_at one purse).address (wallet_at other purse).address
      (λ is.
      let both = both-held (is_named one roles) (is_named other roles) is in
      apart (is-named one both.0) (is-named other both.1))

  at : (slot : Slot) → flaw_at slot roles purse ≡ None → IsNamed slot roles → IsWallet (wallet_at slot purse).bytes
  at slot none is = wallet-from (is_named slot roles) (wallet_at slot purse).address (wallet_at slot purse).bytes none (named slot is)

  are-wallets : first_fault roles purse ≡ None → AreWallets roles purse
  are-wallets none slot =
      let three = or_none _ _ none in
      let two = or_none _ _ three.0 in
      let one = or_none _ _ two.0 in
      by-slot one.0 one.1 two.1 three.1 slot
    where
      by-slot : flaw_at First roles purse ≡ None → flaw_at Second roles purse ≡ None → flaw_at Third roles purse ≡ None → flaw_at Fourth roles purse ≡ None
          → (slot : Slot) → IsNamed slot roles → IsWallet (wallet_at slot purse).bytes
      by-slot a b c d First = at First a
      by-slot a b c d Second = at Second b
      by-slot a b c d Third = at Third c
      by-slot a b c d Fourth = at Fourth d

  -- two places that are named have different addresses
  abbrev Apart : Slot → Slot → Type 0
  Apart one other = IsNamed one roles → IsNamed other roles → is_same (wallet_at one purse).address (wallet_at other purse).address ≡ false

  are-apart : first_twice roles purse ≡ None → AreApart roles purse
  are-apart none =
      let p34 = or_none _ _ none in
      let p24 = or_none _ _ p34.0 in
      let p14 = or_none _ _ p24.0 in
      let p23 = or_none _ _ p14.0 in
      let p12 = or_none _ _ p23.0 in
      by-slots (pair First Second p12.0) (pair First Third p12.1) (pair Second Third p23.1) (pair First Fourth p14.1) (pair Second Fourth p24.1) (pair Third Fourth p34.1)
    where
      turned : (one other : Slot) → Apart one other → Apart other one
      turned one other apart first second = is_same-sym (wallet_at other purse).address (wallet_at one purse).address ∙ apart second first

      by-slots : Apart First Second → Apart First Third → Apart Second Third → Apart First Fourth → Apart Second Fourth → Apart Third Fourth → AreApart roles purse
      by-slots p12 p13 p23 p14 p24 p34 First First = λ first second. is_same-refl (wallet_at First purse).address
      by-slots p12 p13 p23 p14 p24 p34 First Second = p12
      by-slots p12 p13 p23 p14 p24 p34 First Third = p13
      by-slots p12 p13 p23 p14 p24 p34 First Fourth = p14
      by-slots p12 p13 p23 p14 p24 p34 Second First = turned First Second p12
      by-slots p12 p13 p23 p14 p24 p34 Second Second = λ first second. is_same-refl (wallet_at Second purse).address
      by-slots p12 p13 p23 p14 p24 p34 Second Third = p23
      by-slots p12 p13 p23 p14 p24 p34 Second Fourth = p24
      by-slots p12 p13 p23 p14 p24 p34 Third First = turned First Third p13
      by-slots p12 p13 p23 p14 p24 p34 Third Second = turned Second Third p23
      by-slots p12 p13 p23 p14 p24 p34 Third Third = λ first second. is_same-refl (wallet_at Third purse).address
      by-slots p12 p13 p23 p14 p24 p34 Third Fourth = p34
      by-slots p12 p13 p23 p14 p24 p34 Fourth First = turned First Fourth p14
      by-slots p12 p13 p23 p14 p24 p34 Fourth Second = turned Second Fourth p24
      by-slots p12 p13 p23 p14 p24 p34 Fourth Third = turned Third Fourth p34
      by-slots p12 p13 p23 p14 p24 p34 Fourth Fourth = λ first second. is_same-refl (wallet_at Fourth purse).address

  no-fault : AreWallets roles purse → (slot : Slot) → flaw_at slot roles purse ≡ None
  no-fault are slot =
      wallet-none (is_named slot roles) (wallet_at slot purse).address (wallet_at slot purse).bytes (λ is. are slot (is-named slot is))

  no-flaw : AreWallets roles purse → AreApart roles purse → wallets_flaw roles purse ≡ None
  no-flaw are apart =
      none_or (first_fault roles purse) (first_twice roles purse)
      (none_or _ _ (none_or _ _ (none_or _ _ (no-fault are First) (no-fault are Second)) (no-fault are Third)) (no-fault are Fourth))
      (none_or _ _
      (none_or _ _ (none_or _ _ (none_or _ _ (none_or _ _ (no-pair First Second (apart First Second)) (no-pair First Third (apart First Third)))
      (no-pair Second Third (apart Second Third))) (no-pair First Fourth (apart First Fourth))) (no-pair Second Fourth (apart Second Fourth)))
      (no-pair Third Fourth (apart Third Fourth)))

  pub exactly-wallets : (wallets_flaw roles purse ≡ None) ↔ (AreWallets roles purse × AreApart roles purse)
  exactly-wallets = (
    λ none. let parts = or_none (first_fault roles purse) (first_twice roles purse) none in (are-wallets parts.0, are-apart parts.1),
    λ is. no-flaw is.0 is.1,
  )

none-of : {X : Type 0} (o : Option X) → (is_some o ≡ false) ↔ (o ≡ None)
none-of None = (λ none. refl, λ none. refl)
none-of (Some x) = (λ none. absurd cc, λ none. absurd cc)

pub exactly-told : (told : Option Flaw) (roles : Roles) (purse : Purse) → told ≡ wallets_flaw roles purse
    → (is_some told ≡ false) ↔ (AreWallets roles purse × AreApart roles purse)
exactly-told told roles purse is = (
  λ none. (exactly-wallets roles purse).0 (sym is ∙ (none-of told).0 none),
  λ are. (none-of told).1 (is ∙ (exactly-wallets roles purse).1 are),
)
