use Rattle.dex_audit_rules.proofs.market.tell_sums.Goals as goal

pub returns : goal.returns
returns c = λ m of. c.tell_totals.ensures m (c.in_ok-own.ensures.of m of)
