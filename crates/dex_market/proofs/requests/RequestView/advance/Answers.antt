use Rattle.std.proofs.Common.{sym, subst}
use Rattle.dex_market.specs.RequestQueue.{IsRequestQueue}
use Rattle.dex_market.proofs.QueueWrites.{IsRequestQueue-with_next}
use Rattle.dex_market.proofs.requests.RequestView.advance.Goals as goal

pub returns-clause-accepted : goal.returns-clause-accepted
returns-clause-accepted c =
    subst IsRequestQueue (sym c.put_u64.ensures.bytes) (IsRequestQueue-with_next c.args.self.now.bytes.now _ c.requires.accepted)
