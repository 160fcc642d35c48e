-- What was gathered for an audit.
use Rattle.std.specs.Prelude.{◌≡◌, List, map}
use Rattle.dex_types.specs.Accounts.{PlainMarketAccounts}
use Rattle.dex_audit_rules.specs.declared.gathered.Gathered.{Gathered}
use Rattle.dex_audit_rules.specs.Books.{gathered_in, plain_gathered}

-- this was gathered of these markets
abbrev pub AreGathered : List Gathered → List PlainMarketAccounts → Type 0
AreGathered gathered markets = map plain_gathered gathered ≡ map gathered_in markets
