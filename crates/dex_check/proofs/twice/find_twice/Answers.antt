use Rattle.std.proofs.Common.{List, get_or, map, sym, subst, ◌∙◌, ◌≤◌, arith}
use Rattle.std.proofs.lemmas.List.{length-map, take_all}
use Rattle.dex_types.specs.declared.addresses.Address.{Address}
use Rattle.dex_types.specs.Accounts.{orders_account_of}
use Rattle.dex_state.specs.Addresses.{address_of, times}
use Rattle.dex_check.proofs.FlawLaws.{address-at, once-more, taken-more, twice-there}
use Rattle.dex_check.proofs.twice.find_twice.Goals as goal

pub loop-place-preserved : goal.loop-place-preserved
loop-place-preserved c =
    let accounts = c.args.accounts.now in
    let address = (get_or accounts c.loop-place.place c.index-accounts-place.result).address in
    record {
      taken =
          taken-more (map address_of (map orders_account_of accounts)) c.loop-place.place address c.loop-place.taken c.push.new.self
          (omega (arith, length-map (map orders_account_of accounts) address_of, length-map accounts orders_account_of))
          (address-at accounts c.loop-place.place c.index-accounts-place.result address (omega arith)) c.loop-place.invariant.taken c.in_ok-push.ensures;
      once = once-more address c.loop-place.taken c.push.new.self (sym c.has.ensures ∙ c.if-has.false) c.in_ok-push.ensures c.loop-place.invariant.once;
    }

pub returns-then-has : goal.returns-then-has
returns-then-has c =
    let accounts = c.args.accounts.now in
    let address = (get_or accounts c.loop-place.place c.index-accounts-place.result).address in
    twice-there (map address_of (map orders_account_of accounts)) c.loop-place.place address c.loop-place.taken
    (omega (arith, length-map (map orders_account_of accounts) address_of, length-map accounts orders_account_of))
    (address-at accounts c.loop-place.place c.index-accounts-place.result address (omega arith)) c.loop-place.invariant.taken (sym c.has.ensures ∙ c.if-has.true)

pub returns : goal.returns
returns c =
    let accounts = c.args.accounts.now in
    let all = map address_of (map orders_account_of accounts) in
    λ address.
    subst (λ (l : List Address). times address l ≤ 1)
    (c.loop-place.invariant.taken
    ∙ take_all c.loop-place.place all (omega (arith, length-map (map orders_account_of accounts) address_of, length-map accounts orders_account_of)))
    (c.loop-place.invariant.once address)
