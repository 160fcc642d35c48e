-- The lines that a run writes where it has no report, dump, script or summary.
use Rattle.std.specs.Prelude.{ℕ, ◌==◌, List, [], ◌∷◌, ◌++◌, length, codes, Option, Some, None, if◌then◌else◌}
use Rattle.std.specs.Fmt.{decimal}
use Rattle.std.specs.List.{flat_map}
use Rattle.dex_types.specs.declared.addresses.Address.{Address}
use Rattle.dex_types.specs.Text.{address_text, spaced}
use Rattle.dex_audit_rules.specs.declared.finding.Finding.{Finding}
use Rattle.dex_dump.specs.declared.faults.DumpFault.{DumpFault}
use Rattle.dex_migrate.specs.declared.faults.MigrateFault.{MigrateFault}
use Rattle.dex_migrate.specs.declared.faults.MigrateWhat.{MigrateWhat}
use Rattle.dex_migrate.specs.declared.faults.MigrateWhat.TheVariants.{Bids, Asks, Events}
use Rattle.dex_refusal_lines.specs.declared.lines.ScriptRefused.{ScriptRefused}

-- a line and its line feed
abbrev pub line : List ℕ → List ℕ
line text = text ++ 10 ∷ []

-- the name of a fault of a row of a script, by its number
abbrev pub script_fault_name : ℕ → List ℕ
script_fault_name kind =
    if kind == 1 then codes "BadCsv" else (if kind == 2 then codes "UnknownRow" else (if kind == 3 then codes "FieldCount"
    else (if kind == 4 then codes "BadNumber" else (if kind == 5 then codes "BadLabel" else (if kind == 6 then codes "UnknownLabel"
    else (if kind == 7 then codes "Duplicate" else (if kind == 8 then codes "OverLimit" else (if kind == 9 then codes "SetupRefused"
    else (if kind == 10 then codes "BadSwap" else codes "NoBatch")))))))))

-- a setup code after a space, and nothing for 0
abbrev pub code_text : ℕ → List ℕ
code_text code = if code == 0 then [] else spaced (decimal code)

-- the line that names the first faulty row of a script, with the lowest of its faults
abbrev pub script_refused : ScriptRefused → List ℕ
script_refused fault = line (codes "script refused row" ++ spaced (decimal fault.row) ++ codes ":" ++ spaced (decimal fault.kind)
    ++ spaced (script_fault_name fault.kind) ++ code_text fault.code)

-- the name of a fault of a dump, by its number
abbrev pub dump_fault_name : ℕ → List ℕ
dump_fault_name kind =
    if kind == 1 then codes "Grammar" else (if kind == 2 then codes "Size" else (if kind == 3 then codes "Padding"
    else (if kind == 4 then codes "Flags" else (if kind == 5 then codes "Field" else (if kind == 6 then codes "Slab"
    else (if kind == 7 then codes "Ring" else (if kind == 8 then codes "Event" else (if kind == 9 then codes "Slots"
    else codes "Token"))))))))

-- the address of an account, or `-` where there is none
abbrev pub account_text : Option Address → List ℕ
account_text None = codes "-"
account_text (Some address) = address_text address

-- the line that names the first faulty row of a dump, with the account, the place of the fault and its two values
abbrev pub dump_refused : DumpFault → List ℕ
dump_refused fault = line (codes "dump refused row" ++ spaced (decimal fault.row) ++ codes ":" ++ spaced (decimal fault.fault.kind)
    ++ spaced (dump_fault_name fault.fault.kind) ++ spaced (account_text fault.account) ++ spaced (decimal fault.fault.place)
    ++ spaced (decimal fault.fault.found) ++ spaced (decimal fault.fault.wanted))

-- the line of a finding
abbrev pub finding_line : Finding → List ℕ
finding_line finding = line (codes "finding" ++ spaced (decimal finding.kind) ++ spaced (address_text finding.account)
    ++ spaced (decimal finding.place) ++ spaced (decimal finding.found) ++ spaced (decimal finding.wanted))

-- what is recorded of an audit with findings: each of them, and how many there are
abbrev pub audit_failed : List Finding → List ℕ
audit_failed found = flat_map finding_line found ++ line (codes "audit failed" ++ spaced (decimal (length found)))

-- what is recorded of an audit without a finding: how many markets and wallets there are
abbrev pub audit_ok : ℕ → ℕ → List ℕ
audit_ok markets wallets = line (codes "audit ok" ++ spaced (decimal markets) ++ spaced (decimal wallets))

-- the word for what did not fit in a migration
abbrev pub what_text : MigrateWhat → List ℕ
what_text Bids = codes "bids"
what_text Asks = codes "asks"
what_text Events = codes "events"

-- the line that names what does not fit
abbrev pub migrate_refused : MigrateFault → List ℕ
migrate_refused fault = line (codes "migrate refused" ++ spaced (address_text fault.market) ++ spaced (what_text fault.what)
    ++ spaced (decimal fault.needed) ++ spaced (decimal fault.given))
