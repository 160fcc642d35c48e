use Rattle.std.proofs.Common.{◌≡◌, List, ℕ, true, false, None, IsSome, get_or, sym, ap, ◌∙◌, subst}
use Rattle.dex_orders.specs.OrdersAccount.{IsOpen, account_of, removed}
use Rattle.dex_types.specs.QueuedEvent.{decoded_event}
use Rattle.dex_types.specs.Soundness.{is_final}
use Rattle.dex_crank.proofs.PaymentLaws.{paid-held, paid-open, paid_in-final, paid_in-more}
use Rattle.dex_crank.proofs.accounts.pay.Goals as goal

pub free_slot-requires-clause-accepted : goal.free_slot-requires-clause-accepted
free_slot-requires-clause-accepted c = subst IsOpen (sym c.pay_funds.ensures) (paid-open (decoded_event c.args.event.now) c.args.bytes.now c.requires)

pub free_slot-requires-clause-taken : goal.free_slot-requires-clause-taken
free_slot-requires-clause-taken c =
    subst (λ (b : List ℕ). IsSome (get_or (account_of b).slots c.args.event.now.slot None)) (sym c.pay_funds.ensures)
    (paid-held (decoded_event c.args.event.now) c.args.bytes.now c.requires)

pub returns-then-is_final : goal.returns-then-is_final
returns-then-is_final c =
    let event = decoded_event c.args.event.now in
    let final : is_final event ≡ true = sym c.is_final.ensures ∙ c.if-is_final.true in
    c.free_slot.ensures ∙ ap (λ (b : List ℕ). removed b event.slot) c.pay_funds.ensures ∙ paid_in-final event c.args.bytes.now final

pub returns-else-is_final : goal.returns-else-is_final
returns-else-is_final c =
    let event = decoded_event c.args.event.now in
    let more : is_final event ≡ false = sym c.is_final.ensures ∙ c.if-is_final.false in
    c.pay_funds.ensures ∙ paid_in-more event c.args.bytes.now more
