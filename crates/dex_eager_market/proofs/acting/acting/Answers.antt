use Rattle.std.proofs.Common.{◌<◌, ◌≡◌, ◌∙◌, true, false, get_or, length, map, ap, sym, rules}
use Rattle.std.proofs.lemmas.List.{nil_from_length}
use Rattle.dex_eager.specs.Eager.{by_account, has_account}
use Rattle.dex_eager_market.specs.Accounts.{entry_of}
use Rattle.dex_eager_market.specs.States.{eager_of}
use Rattle.dex_eager_market.proofs.Acts.{acts-named, no_address}
use Rattle.dex_eager_market.proofs.acting.acting.Goals as goal

pub returns-then-is_empty : goal.returns-then-is_empty
returns-then-is_empty c = λ act.
    let none : length c.args.named.now ≡ 0 = search rules in
    ap (by_account act (eager_of c.args.state.now)) (nil_from_length c.args.named.now none)

pub returns-then-not-has_account : goal.returns-then-not-has_account
returns-then-not-has_account c = λ act.
    let some : 0 < length c.args.named.now = search rules in
    acts-named act (eager_of c.args.state.now) c.args.named.now no_address false some
    (ap (λ l. has_account (get_or c.args.named.now 0 no_address) (map entry_of l)) (sym c.deref.ensures.value) ∙ sym c.has_account.ensures ∙ c.if-not-has_account.true)

pub returns : goal.returns
returns c = λ act.
    let some : 0 < length c.args.named.now = search rules in
    acts-named act (eager_of c.args.state.now) c.args.named.now no_address true some
    (ap (λ l. has_account (get_or c.args.named.now 0 no_address) (map entry_of l)) (sym c.deref.ensures.value) ∙ sym c.has_account.ensures ∙ c.if-not-has_account.false)
