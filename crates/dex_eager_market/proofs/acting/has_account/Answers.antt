use Rattle.std.proofs.Common.{◌∙◌, true, false, ap, map, sym, arith}
use Rattle.std.proofs.lemmas.List.{drop_all}
use Rattle.dex_eager.specs.Eager.{has_account}
use Rattle.dex_eager_market.specs.Accounts.{entry_of}
use Rattle.dex_eager_market.proofs.Changes.{no_account}
use Rattle.dex_eager_market.proofs.Lists.{account-more}
use Rattle.dex_eager_market.proofs.acting.has_account.Goals as goal

pub returns-then-is_same : goal.returns-then-is_same
returns-then-is_same c =
    sym (c.loop-place.invariant ∙ account-more c.args.owner c.args.accounts.now c.loop-place.place no_account true (omega arith) (sym c.is_same.ensures ∙ c.if-is_same.true))

pub loop-place-preserved : goal.loop-place-preserved
loop-place-preserved c =
    c.loop-place.invariant ∙ account-more c.args.owner c.args.accounts.now c.loop-place.place no_account false (omega arith) (sym c.is_same.ensures ∙ c.if-is_same.false)

pub returns : goal.returns
returns c = sym (c.loop-place.invariant ∙ ap (λ l. has_account c.args.owner (map entry_of l)) (drop_all c.loop-place.place c.args.accounts.now (omega arith)))
