-- What an audit finds in shards.
use Rattle.std.specs.Prelude.{◌<◌, ℕ, List}
use Rattle.std.specs.List.{Contains}
use Rattle.dex_types.specs.Accounts.{PlainMarketAccounts}
use Rattle.dex_audit.specs.Findings.{told}
use Rattle.dex_audit_rules.specs.declared.finding.Finding.{Finding}
use Rattle.dex_audit_rules.specs.declared.market.Rule.{Rule}
use Rattle.dex_parts.specs.Shards.{Sharding, markets_in}

-- one of the first so many shards has the finding, of its markets alone
abbrev pub IsFoundIn : Sharding → ℕ → Rule → List PlainMarketAccounts → Finding → Type 0
IsFoundIn sharding count rule markets finding =
    (shard : ℕ) × (shard < count) × Contains (told rule (markets_in sharding shard markets)) finding
