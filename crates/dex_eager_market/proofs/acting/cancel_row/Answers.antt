use Rattle.std.proofs.Common.{◌∙◌, ◌+◌, ◌^◌, ap, sym, arith}
use Rattle.dex_types.specs.declared.addresses.Address.{Address}
use Rattle.dex_cancel.specs.Cancelling.{named_by}
use Rattle.dex_eager.specs.Eager.{Eager, EagerStep, by_account, eager_cancel}
use Rattle.dex_eager_market.specs.Acting.{acted}
use Rattle.dex_eager_market.specs.States.{eager_of}
use Rattle.dex_eager_market.proofs.Trades.{can-list, kept-more}
use Rattle.dex_eager_market.proofs.acting.cancel_row.Goals as goal

pub cancel-requires : goal.cancel-requires
cancel-requires c = can-list (2 ^ 124) c.args.state.now c.requires

pub returns-in-Some-clause-does : goal.returns-in-Some-clause-does
returns-in-Some-clause-does c =
    let e : Eager = eager_of c.args.state.now in
    let act : Address → EagerStep = eager_cancel (named_by c.args.what) e in
    c.cancel.ensures.does
    ∙ sym (ap (λ (s : EagerStep). s.market) (ap (by_account act e) (sym c.deref.ensures.value) ∙ c.acting.ensures act ∙ ap (acted act e) c.in-Some.is))

pub returns-in-None-clause-does : goal.returns-in-None-clause-does
returns-in-None-clause-does c =
    let e : Eager = eager_of c.args.state.now in
    let act : Address → EagerStep = eager_cancel (named_by c.args.what) e in
    sym (ap (λ (s : EagerStep). s.market) (ap (by_account act e) (sym c.deref.ensures.value) ∙ c.acting.ensures act ∙ ap (acted act e) c.in-None.is))

pub returns-in-Some-clause-kept : goal.returns-in-Some-clause-kept
returns-in-Some-clause-kept c = λ bound kept. kept-more bound (bound + 2 ^ 82) c.cancel.new.state (omega arith) (c.cancel.ensures.kept bound kept)

pub returns-in-None-clause-kept : goal.returns-in-None-clause-kept
returns-in-None-clause-kept c = λ bound kept. kept-more bound (bound + 2 ^ 82) c.args.state.now (omega arith) kept
