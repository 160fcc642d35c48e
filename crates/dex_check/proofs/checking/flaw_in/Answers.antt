use Rattle.std.proofs.Common.{Option, IfOk, subst, sym}
use Rattle.dex_state.specs.Held.{IsHeldMarket}
use Rattle.dex_types.specs.Accounts.{PlainMarketAccounts}
use Rattle.dex_check.specs.declared.flaw.Flaw.{Flaw}
use Rattle.dex_check.specs.Flaws.{Tells}
use Rattle.dex_check.proofs.checking.flaw_in.Goals as goal

pub first_flaw-requires : goal.first_flaw-requires
first_flaw-requires c = subst IsHeldMarket (sym c.in_ok-copy.ensures.copy) c.in_ok-copy.ensures.held

pub returns-clause-flaw : goal.returns-clause-flaw
returns-clause-flaw c =
    subst (λ (accounts : PlainMarketAccounts). IfOk c.first_flaw.result (λ (told : Option Flaw). Tells told accounts)) c.in_ok-copy.ensures.copy c.first_flaw.ensures
