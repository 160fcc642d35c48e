-- What an audit finds of the mints, rule 12: a mint's supply is the sum of its wallets and vaults.
use Rattle.std.specs.Prelude.{List}
use Rattle.std.specs.List.{flat_map}
use Rattle.dex_types.specs.Accounts.{PlainAccount, PlainAccounts}
use Rattle.dex_token.specs.MintAccount.{mint_words}
use Rattle.dex_state.specs.Conserved.{held_of}
use Rattle.dex_audit_rules.specs.declared.finding.Finding.{Finding}
use Rattle.dex_audit_rules.specs.Funds.{differs}

-- rule 12 for one mint: its supply is not what the accounts hold of it
abbrev pub supply_off : PlainAccounts → PlainAccount → List Finding
supply_off accounts mint = differs 12 mint.address 36 (mint_words mint.bytes).supply (held_of mint.address accounts)

-- the findings of the mints
abbrev pub supplies_off : PlainAccounts → List Finding
supplies_off accounts = flat_map (supply_off accounts) accounts.mints
