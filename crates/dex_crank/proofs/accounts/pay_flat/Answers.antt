use Rattle.std.proofs.Common.{◌≡◌, ℕ, ◌+◌, ◌-◌, List, sym, ap, ◌∙◌, subst, arith}
use Rattle.dex_types.specs.QueuedEvent.{decoded_event}
use Rattle.dex_lent.specs.Flat.{accounts_in}
use Rattle.dex_lent.proofs.FlatLaws.{changed-as, here-data, here-written}
use Rattle.dex_accounts.specs.Owners.{changed_at}
use Rattle.dex_crank.specs.PaidBytes.{CanTake, paid_in}
use Rattle.dex_crank.proofs.accounts.pay_flat.Goals as goal

pub pay-requires : goal.pay-requires
pay-requires c =
    subst (CanTake (decoded_event c.args.event.now))
    (here-data c.args.event.now.owner c.args.bytes.now c.requires.bytes c.data_at-at.result _ c.data_at-at.ensures c.requires.found (omega arith)) c.requires.can_take

pub returns : goal.returns
returns c =
    let bytes = c.args.bytes.now in
    let owner = c.args.event.now.owner in
    let at = c.data_at-at.result in
    let size : at + 3228 - at ≡ 3228 = omega arith in
    let change = paid_in (decoded_event c.args.event.now) in
    here-written owner bytes c.pay.new.bytes at (at + 3228 - at) c.data_at-at.ensures size c.pay.auto.bytes
    ∙ ap (λ (written : List ℕ). changed_at owner (λ old. written) (accounts_in bytes))
    (c.pay.ensures ∙ ap change (sym (here-data owner bytes c.requires.bytes at (at + 3228 - at) c.data_at-at.ensures c.requires.found size)))
    ∙ changed-as owner change (accounts_in bytes) c.requires.bytes c.requires.found
