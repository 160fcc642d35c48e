use Rattle.dex_audit_rules.proofs.market.tell_holdings.Goals as goal

pub returns : goal.returns
returns c = λ m of. c.tell_misheld.ensures m (c.in_ok-own.ensures.of m of)
