-- What a check tells of a market's accounts.
use Rattle.std.specs.Prelude.{◌≡◌, ◌≤◌, List, [], ◌∷◌, Option, Some, None, map, slice_get}
use Rattle.dex_types.specs.declared.addresses.Address.{Address}
use Rattle.dex_types.specs.Accounts.{PlainAccount, PlainMarketAccounts}
use Rattle.dex_accounts.specs.Accepted.{IsAccepted}
use Rattle.dex_accounts.specs.Decoded.{AreSound}
use Rattle.dex_lent.specs.Flat.{accounts_in}
use Rattle.dex_step.specs.Acting.{accounts_with}
use Rattle.dex_state.specs.Addresses.{address_of, times}
use Rattle.dex_dump.specs.Checks.{FirstFails, market_checks}
use Rattle.dex_audit.specs.Findings.{market_findings}
use Rattle.dex_audit_rules.specs.declared.finding.Finding.{Finding}
use Rattle.dex_check.specs.declared.flaw.Flaw.{Flaw}
use Rattle.dex_check.specs.declared.flaw.Flaw.TheVariants.{Fault, Found, Twice}
use Rattle.dex_check.specs.declared.market_slices.MarketSlices.{MarketSlices}

-- the accounts of a market that a caller has
abbrev pub accounts_of : MarketSlices → PlainMarketAccounts
accounts_of m =
    accounts_with m.address m.authority m.market.now m.coin_vault.now m.pc_vault.now m.requests.now m.events.now
    m.bids.now m.asks.now (accounts_in m.orders.now)

-- no two of these accounts have one address
abbrev pub AreOnce : List PlainAccount → Type 0
AreOnce accounts = (address : Address) → times address (map address_of accounts) ≤ 1

-- two of these accounts have this address, or no two have one
abbrev pub TellsTwice : Option Address → List PlainAccount → Type 0
TellsTwice None accounts = AreOnce accounts
TellsTwice (Some address) accounts = 2 ≤ times address (map address_of accounts)

-- this is the first finding of an audit of the market alone
abbrev pub TellsFound : Option Finding → PlainMarketAccounts → Type 0
TellsFound told accounts = told ≡ slice_get (market_findings (accounts ∷ [])) 0

-- what a check tells: the accounts are accepted and those of a sound market; or the first of the accounts that is not
-- accepted, with its fault; or all are, and two open-orders accounts have this address; or no two have one, and this is
-- the first finding of an audit
abbrev pub Tells : Option Flaw → PlainMarketAccounts → Type 0
Tells None accounts = IsAccepted accounts × AreSound accounts
Tells (Some (Fault account fault)) accounts = FirstFails (market_checks accounts) account fault
Tells (Some (Twice address)) accounts = IsAccepted accounts × (2 ≤ times address (map address_of accounts.orders))
Tells (Some (Found finding)) accounts =
    IsAccepted accounts × AreOnce accounts.orders × TellsFound (Some finding) accounts
