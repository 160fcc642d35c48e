use Rattle.std.proofs.Common.{◌≡◌, ◌<◌, length, map, set, sym, ap, ◌∙◌, subst, arith}
use Rattle.std.proofs.lemmas.List.{get_or-map, length-map}
use Rattle.dex_types.specs.Accounts.{PlainAccount, orders_account_of}
use Rattle.dex_types.specs.QueuedEvent.{decoded_event}
use Rattle.dex_accounts.specs.Owners.{changed_at}
use Rattle.dex_crank.specs.PaidBytes.{CanTake, paid_in}
use Rattle.dex_accounts.proofs.OwnerLaws.{changed_at-first, owned_here, with_change, with_some}
use Rattle.dex_crank.proofs.accounts.pay_owned.Goals as goal

pub pay_at-requires-clause-can_take : goal.pay_at-requires-clause-can_take
pay_at-requires-clause-can_take c = λ default.
    let within : c.place_of-place.result < length c.args.accounts.now = omega (arith, c.place_of-place.ensures.within, length-map c.args.accounts.now orders_account_of) in
    subst (CanTake (decoded_event c.args.event.now))
    (owned_here c.args.event.now.owner c.args.accounts.now c.place_of-place.result default c.requires.bytes within c.place_of-place.ensures c.requires.found) c.requires.can_take

pub returns : goal.returns
returns c =
    let accounts = c.args.accounts.now in
    let place = c.place_of-place.result in
    let owner = c.args.event.now.owner in
    let change = paid_in (decoded_event c.args.event.now) in
    let within : place < length accounts = omega (arith, c.place_of-place.ensures.within, length-map accounts orders_account_of) in
    with_some (map orders_account_of c.pay_at.new.accounts ≡ changed_at owner change (map orders_account_of accounts)) accounts place within (λ default.
    c.pay_at.ensures default
    ∙ sym (changed_at-first owner change (map orders_account_of accounts) place (orders_account_of default) c.place_of-place.ensures
    ∙ ap (λ (a : PlainAccount). set (map orders_account_of accounts) place (with_change change a)) (get_or-map orders_account_of accounts place default (orders_account_of default) within)))
