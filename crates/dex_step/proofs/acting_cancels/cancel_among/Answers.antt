use Rattle.std.proofs.Common.{◌≡◌, ℕ, List, Some, rules, subst, sym, ◌∙◌}
use Rattle.dex_cancel.specs.Cancelling.{named_by}
use Rattle.dex_step.specs.CancelActs.{CanCancel, cancel_bytes}
use Rattle.dex_step.proofs.acting_cancels.cancel_among.Goals as goal

pub bytes_of-held-requires : goal.bytes_of-held-requires
bytes_of-held-requires g c =
    let found = c.requires.found in
    search (rules, found)

pub cancel_on_bytes-requires : goal.cancel_on_bytes-requires
cancel_on_bytes-requires g c =
    let both : Some c.requires.account ≡ Some c.bytes_of-held.result.now = sym c.requires.found ∙ c.bytes_of-held.ensures in
    let same : c.requires.account ≡ c.bytes_of-held.result.now = cc in
    let can = subst (λ (b : List ℕ). CanCancel (named_by c.args.what.now) c.args.owner b (cancel_bytes c.args.sizes c.args.bids.now c.args.asks.now c.args.events.now)) same c.requires.can in
    search (rules, can)
