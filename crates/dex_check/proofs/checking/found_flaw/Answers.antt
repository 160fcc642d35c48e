use Rattle.std.proofs.Common.{Option, subst}
use Rattle.dex_types.specs.Accounts.{market_accounts_of}
use Rattle.dex_audit_rules.specs.declared.finding.Finding.{Finding}
use Rattle.dex_check.specs.Flaws.{TellsFound}
use Rattle.dex_check.proofs.FlawLaws.{sound-from}
use Rattle.dex_check.proofs.checking.found_flaw.Goals as goal

pub returns-in-None : goal.returns-in-None
returns-in-None c =
    let accounts = market_accounts_of c.args.market.now in (
      c.requires.accepted,
      sound-from c.markets_without_findings_are_sound.ensures.exactly accounts c.requires.held c.requires.accepted c.requires.once
          (subst (λ (told : Option Finding). TellsFound told accounts) c.in-None.is c.in_ok-first_finding.ensures),
    )
