-- The account that a row names first, as a trader of the market.
use Rattle.std.proofs.Common.{◌≡◌, ℕ, ◌<◌, true, false, List, [], ◌∷◌, length, Option, Some, None, refl, sym, ap, ◌∙◌, subst, arith, ⊎_elim, get_or, inl, inr}
use Rattle.std.specs.List.{All}
use Rattle.std.proofs.lemmas.Bool.{cases_Bool, cond-true, cond-false}
use Rattle.dex_types.specs.declared.addresses.Address.{Address}
use Rattle.dex_types.specs.Accounts.{PlainAccount}
use Rattle.dex_types.specs.Addresses.{is_same}
use Rattle.dex_types.specs.Requests.{open_party, party_of}
use Rattle.dex_types.specs.Trader.{Trader, trader_at}
use Rattle.dex_types.specs.Why.{named_first}
use Rattle.dex_orders.specs.OrdersAccount.{IsOpen, IsOrders}
use Rattle.dex_orders.specs.StandsFor.{trader_of, traders_of}
use Rattle.dex_accounts.specs.Owners.{bytes_at}
use Rattle.dex_accounts.proofs.OwnerLaws.{All-bytes_at}
use Rattle.dex_accounts.proofs.PartLaws.{trader_of-open}
use Rattle.dex_settle.proofs.TraderLaws.{trader_of-blank, trader_of-closed}
use Rattle.dex_decide.specs.Named.{IsActing, account_by, account_with, named_in, party_in}

-- the trader that bytes stand for, where there are some
abbrev pub trader_with : Option (List ℕ) → Option Trader
trader_with None = None
trader_with (Some bytes) = Some (trader_of bytes)

pub trader_at-bytes : (address : Address) (accounts : List PlainAccount) → trader_at address (traders_of accounts) ≡ trader_with (bytes_at address accounts)
trader_at-bytes address [] = refl
trader_at-bytes address (first ∷ others) =
    ⊎_elim
    (λ (same : is_same address first.address ≡ true).
    let here : trader_at address (traders_of (first ∷ others)) ≡ Some (trader_of first.bytes) = cond-true _ _ _ same in
    let at : bytes_at address (first ∷ others) ≡ Some first.bytes = cond-true _ _ _ same in
    here ∙ sym (ap trader_with at))
    (λ (apart : is_same address first.address ≡ false).
    let there : trader_at address (traders_of (first ∷ others)) ≡ trader_at address (traders_of others) = cond-false _ _ _ apart in
    let past : bytes_at address (first ∷ others) ≡ bytes_at address others = cond-false _ _ _ apart in
    there ∙ trader_at-bytes address others ∙ sym (ap trader_with past))
    (cases_Bool (is_same address first.address))

party_with : (address : Address) (bytes : Option (List ℕ)) → open_party address (trader_with bytes) ≡ party_in (account_with address bytes)
party_with address None = refl
party_with address (Some bytes) = refl

-- the party that a row names is the account that it names first, where that is open
pub party-named : (named : List Address) (accounts : List PlainAccount) → party_of named (traders_of accounts) ≡ party_in (named_in named accounts)
party-named [] accounts = refl
party-named (address ∷ others) accounts =
    ap (open_party address) (trader_at-bytes address accounts) ∙ party_with address (bytes_at address accounts)

-- a list that is not empty has a first element
pub split_first : (named : List Address) (default : Address) → 0 < length named → (others : List Address) × (named ≡ get_or named 0 default ∷ others)
split_first [] default some = absurd (omega (arith, some))
split_first (first ∷ others) default some = (others, refl)

-- the account that is named first has the first address, and is the trader there
pub record IsNamed (named : List Address) (accounts : List PlainAccount) (account : PlainAccount) : Type 0 where
  pub others : List Address
  pub first : named ≡ account.address ∷ others
  pub at : bytes_at account.address accounts ≡ Some account.bytes
  pub trader : trader_at account.address (traders_of accounts) ≡ Some (trader_of account.bytes)
  pub party : party_of named (traders_of accounts) ≡ open_party account.address (Some (trader_of account.bytes))

named-at : (address : Address) (others : List Address) (accounts : List PlainAccount) (bytes : Option (List ℕ)) (account : PlainAccount)
    → bytes_at address accounts ≡ bytes → account_with address bytes ≡ Some account → IsNamed (address ∷ others) accounts account
named-at address others accounts None account at first = absurd (cc)
named-at address others accounts (Some bytes) account at first =
    let here : PlainAccount = account_by address bytes in
    let whole : IsNamed (address ∷ others) accounts here = record {
      others = others;
      first = refl;
      at = at;
      trader = trader_at-bytes address accounts ∙ ap trader_with at;
      party = ap (open_party address) (trader_at-bytes address accounts ∙ ap trader_with at);
    } in
    let same : here ≡ account = cc in
    subst (IsNamed (address ∷ others) accounts) same whole

pub is-named : (named : List Address) (accounts : List PlainAccount) (account : PlainAccount) → named_in named accounts ≡ Some account → IsNamed named accounts account
is-named [] accounts account first = absurd (cc)
is-named (address ∷ others) accounts account first = named-at address others accounts (bytes_at address accounts) account refl first

-- it is accepted, as all are
pub accepted-named : (named : List Address) (accounts : List PlainAccount) (account : PlainAccount) → All (λ (a : PlainAccount). IsOrders a.bytes) accounts
    → named_in named accounts ≡ Some account → IsOrders account.bytes
accepted-named named accounts account all first =
    All-bytes_at IsOrders account.address accounts account.bytes all (is-named named accounts account first).at

-- it acts, where it is open
pub acts-open : (named : List Address) (accounts : List PlainAccount) (address : Address) (bytes : List ℕ)
    → named_in named accounts ≡ Some (account_by address bytes) → IsOpen bytes → IsActing named accounts address bytes
acts-open named accounts address bytes first is_open =
    let account : PlainAccount = account_by address bytes in
    record {
      accepted = is_open;
      first = first;
      party = (is-named named accounts account first).party ∙ ap (λ (t : Trader). open_party address (Some t)) (trader_of-open bytes is_open);
    }

-- without one, and with one that is not open, there is no party
pub no-account : (named : List Address) (accounts : List PlainAccount) → named_in named accounts ≡ None → party_of named (traders_of accounts) ≡ None
no-account named accounts none = party-named named accounts ∙ ap party_in none

pub not-open : (named : List Address) (accounts : List PlainAccount) (address : Address) (bytes : List ℕ)
    → named_in named accounts ≡ Some (account_by address bytes) → (IsOpen bytes → ⊥) → IsOrders bytes → party_of named (traders_of accounts) ≡ None
not-open named accounts address bytes first other (inl blank) =
    let account : PlainAccount = account_by address bytes in
    (is-named named accounts account first).party ∙ ap (λ (t : Trader). open_party address (Some t)) (trader_of-blank bytes blank)
not-open named accounts address bytes first other (inr (inl is_open)) = absurd (other is_open)
not-open named accounts address bytes first other (inr (inr closed)) =
    let account : PlainAccount = account_by address bytes in
    (is-named named accounts account first).party ∙ ap (λ (t : Trader). open_party address (Some t)) (trader_of-closed bytes closed)

-- and where none is named, none stands there
none-at : (address : Address) (bytes : Option (List ℕ)) → account_with address bytes ≡ None → trader_with bytes ≡ None
none-at address None none = refl
none-at address (Some bytes) none = absurd (cc)

pub none-first : (named : List Address) (accounts : List PlainAccount) → named_in named accounts ≡ None → named_first named (traders_of accounts) ≡ None
none-first [] accounts none = refl
none-first (address ∷ others) accounts none = trader_at-bytes address accounts ∙ none-at address (bytes_at address accounts) none
