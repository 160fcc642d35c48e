-- the open account of an address is what one of the open-orders accounts says
use Rattle.std.proofs.Common.{◌≡◌, Bool, true, false, cond, eqb, List, [], ◌∷◌, Option, Some, refl}
use Rattle.std.specs.List.{All}
use Rattle.std.proofs.lemmas.Bool.{eqb-true}
use Rattle.std.proofs.lemmas.List.Elements.{All-head, All-tail}
use Rattle.dex_fields.specs.declared.open_orders.TheConstants.{ACCOUNT_FLAGS}
use Rattle.dex_fields.specs.Bytes.{number_in}
use Rattle.dex_types.specs.declared.addresses.Address.{Address}
use Rattle.dex_types.specs.Accounts.{PlainAccount}
use Rattle.dex_types.specs.Addresses.{is_same}
use Rattle.dex_types.specs.Trader.{Account, Trader, Blank, Closed, Open, trader_at}
use Rattle.dex_orders.specs.OrdersAccount.{account_of}
use Rattle.dex_orders.specs.StandsFor.{trader_of, traders_of}

open-by : (opened closed : Bool) (account wanted : Account) → cond opened (Open account) (cond closed Closed Blank) ≡ Open wanted → (opened ≡ true) × (account ≡ wanted)
open-by true closed account wanted is = (refl, cc)
open-by false true account wanted is = absurd (cc)
open-by false false account wanted is = absurd (cc)

-- an account that is open, with a fact that holds of it
pub record OpenFrom (P : PlainAccount → Type 0) (account : Account) : Type 0 where
  pub from : PlainAccount
  pub holds : P from
  pub flags : number_in from.bytes ACCOUNT_FLAGS ≡ 5
  pub is : account_of from.bytes ≡ account

-- what is found is here or later
found-by : {R : Type 0} (test : Bool) (here : Trader) (rest : Option Trader) (account : Account) → cond test (Some here) rest ≡ Some (Open account)
    → (here ≡ Open account → R) → (rest ≡ Some (Open account) → R) → R
found-by true here rest account is now later = now cc
found-by false here rest account is now later = later is

pub open-from : (P : PlainAccount → Type 0) (owner : Address) (account : Account) (accounts : List PlainAccount) → All P accounts
    → trader_at owner (traders_of accounts) ≡ Some (Open account) → OpenFrom P account
open-from P owner account [] all found = absurd (cc)
open-from P owner account (first ∷ accounts) all found =
    found-by (is_same owner first.address) (trader_of first.bytes) (trader_at owner (traders_of accounts)) account found
    (λ trader.
    let parts = open-by (eqb (number_in first.bytes ACCOUNT_FLAGS) 5) (eqb (number_in first.bytes ACCOUNT_FLAGS) 256) (account_of first.bytes) account trader in
    record { from = first; holds = All-head P first accounts all; flags = eqb-true (number_in first.bytes ACCOUNT_FLAGS) 5 parts.0; is = parts.1 })
    (λ later. open-from P owner account accounts (All-tail P first accounts all) later)
