use Rattle.std.proofs.Common.{sym, subst, ap, ◌∙◌}
use Rattle.dex_market.specs.RequestQueue.{IsRequestQueue, next_sequence}
use Rattle.dex_fields.specs.Empty.{empty_account}
use Rattle.dex_make.proofs.RequestLaws.{IsRequestQueue-made, next_sequence-made}
use Rattle.dex_make.proofs.market.write_requests.Goals as goal

pub returns-clause-bytes : goal.returns-clause-bytes
returns-clause-bytes c = c.write_empty_account.ensures.bytes ∙ ap (λ n. empty_account n 9) c.requires

pub returns-clause-accepted : goal.returns-clause-accepted
returns-clause-accepted c = subst IsRequestQueue (sym (returns-clause-bytes c)) IsRequestQueue-made

pub returns-clause-next : goal.returns-clause-next
returns-clause-next c = ap next_sequence (returns-clause-bytes c) ∙ next_sequence-made
