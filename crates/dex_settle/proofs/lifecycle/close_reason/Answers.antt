use Rattle.std.proofs.Common.{sym, ap, ⊎_elim}
use Rattle.dex_settle.specs.Refusing.{close_reason}
use Rattle.dex_settle.proofs.TraderLaws.{trader_of-blank, trader_of-closed}
use Rattle.dex_settle.proofs.lifecycle.close_reason.Goals as goal

pub returns-in-Blank : goal.returns-in-Blank
returns-in-Blank c = record {
  reason = ⊎_elim
      (λ is. sym (ap (close_reason c.args.signer) (trader_of-blank c.args.account.now (c.state_of.ensures.blank.0 is))))
      (λ is. sym (ap (close_reason c.args.signer) (trader_of-closed c.args.account.now (c.state_of.ensures.closed.0 is))))
      c.in-Blank.is;
  opened = λ h. absurd cc;
  empty = λ h. absurd cc;
}
