-- The numbers of a flaw.
use Rattle.std.specs.Prelude.{Option, Some, None, replicate}
use Rattle.dex_types.specs.declared.addresses.Address.{Address}
use Rattle.dex_types.specs.declared.faults.AccountFault.{AccountFault}
use Rattle.dex_audit_rules.specs.declared.finding.Finding.{Finding}
use Rattle.dex_check.specs.declared.flaw.Flaw.{Flaw}
use Rattle.dex_check.specs.declared.flaw.Flaw.TheVariants.{Fault, Found, Twice}
use Rattle.dex_abi.specs.declared.flaws.FlawNumbers.{FlawNumbers}
use Rattle.dex_abi.specs.declared.numbers.Wide.{Wide}
use Rattle.dex_abi.specs.Numbers.{wide}

-- no flaw: all are 0
abbrev pub no_flaw : FlawNumbers
no_flaw =
    let zero : Wide = record { low = 0; high = 0 } in
    record { what = 0; kind = 0; place = 0; found = zero; wanted = zero; account = replicate 32 0 }

-- an account's fault
abbrev pub fault_numbers : Address → AccountFault → FlawNumbers
fault_numbers account fault =
    record {
      what = 1;
      kind = fault.kind;
      place = fault.place;
      found = wide fault.found;
      wanted = wide fault.wanted;
      account = account.0;
    }

-- a finding
abbrev pub finding_numbers : Finding → FlawNumbers
finding_numbers finding =
    record {
      what = 3;
      kind = finding.kind;
      place = finding.place;
      found = wide finding.found;
      wanted = wide finding.wanted;
      account = finding.account.0;
    }

-- an address that two accounts have
abbrev pub twice_numbers : Address → FlawNumbers
twice_numbers account = record no_flaw { what = 2; account = account.0 }

-- the numbers of a flaw, or of none
abbrev pub flaw_numbers : Option Flaw → FlawNumbers
flaw_numbers None = no_flaw
flaw_numbers (Some (Fault account fault)) = fault_numbers account fault
flaw_numbers (Some (Twice account)) = twice_numbers account
flaw_numbers (Some (Found finding)) = finding_numbers finding
