-- One more open-orders account of a market.
use Rattle.std.proofs.Common.{◌≡◌, ◌∙◌, ◌<◌, ◌∷◌, ◌++◌, [], ℕ, List, Some, true, ap, arith, inl, inr, length, map}
use Rattle.std.proofs.lemmas.Bool.{cases_Bool, lt-ltb}
use Rattle.std.proofs.lemmas.List.{map-append}
use Rattle.std.proofs.lemmas.Option.{none-some, same_Some}
use Rattle.dex_types.specs.declared.addresses.Address.{Address}
use Rattle.dex_types.specs.Accounts.{PlainAccount, PlainMarketAccounts}
use Rattle.dex_types.specs.Addresses.{is_same}
use Rattle.dex_make.specs.Blanks.{blank_account}
use Rattle.dex_make.specs.MarketBytes.{made_accounts}
use Rattle.dex_dump.specs.Reading.{has_room}
use Rattle.dex_script.specs.Known.{orders_at}
use Rattle.dex_script.proofs.MarketLaws.{with_one}
use Rattle.dex_script.proofs.Started.{IsMade}

-- a market that has fewer accounts than it may have has room
pub has-room : (most : ℕ) (name : Address) (count : ℕ) (markets : List PlainMarketAccounts) → orders_at name markets ≡ Some count → count < most
    → has_room most name markets ≡ true
has-room most name count [] found few = absurd (none-some count found)
has-room most name count (market ∷ markets) found few = elim (cases_Bool (is_same name market.address)) [
  | inl here ↦
      let size : length market.orders ≡ count = same_Some (length market.orders) count (rw here at found) in
      rw here (lt-ltb (length market.orders) most (omega (arith, few, size)))
  | inr other ↦ rw other (has-room most name count markets (rw other at found) few)
]

-- a made market with one more blank account is one
pub made-grown : (address : Address) (market : PlainMarketAccounts) → IsMade market → IsMade (with_one (blank_account address) market)
made-grown address market made =
    let bare = made_accounts made.set in
    let more : map blank_account (made.addresses ++ address ∷ []) ≡ map blank_account made.addresses ++ blank_account address ∷ [] =
    map-append blank_account made.addresses (address ∷ []) in
    record {
      set = made.set;
      addresses = made.addresses ++ address ∷ [];
      made = made.made;
      trade = made.trade;
      is =
          ap (λ (os : List PlainAccount). record bare { orders = os }) more
          ∙ ap (with_one (blank_account address)) made.is;
      stands = made.stands;
    }
