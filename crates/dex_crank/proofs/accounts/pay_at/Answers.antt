use Rattle.std.proofs.Common.{◌∙◌}
use Rattle.std.proofs.lemmas.List.{map-set}
use Rattle.dex_types.specs.Accounts.{orders_account_of}
use Rattle.dex_types.specs.QueuedEvent.{decoded_event}
use Rattle.dex_crank.specs.PaidBytes.{paid_in}
use Rattle.dex_accounts.proofs.OwnerLaws.{set_plain}
use Rattle.dex_crank.proofs.accounts.pay_at.Goals as goal

pub returns : goal.returns
returns c = λ default.
    map-set orders_account_of c.args.accounts.now c.args.place _
    ∙ set_plain c.args.accounts.now c.args.place c.index-accounts-place.result default c.pay_buffer.new.bytes.items (paid_in (decoded_event c.args.event.now))
    c.requires.within c.pay_buffer.ensures
