use Rattle.std.proofs.Common.{rules, ◌∙◌, ◌^◌, List, get_or, sym, ap, subst, arith}
use Rattle.std.proofs.lemmas.List.Edits.{map_over_more}
use Rattle.std.proofs.lemmas.List.Elements.{All-get_or}
use Rattle.dex_eager_market.specs.declared.accounts.Account.{Account}
use Rattle.dex_eager_market.specs.Accounts.{IsWithin, changed}
use Rattle.dex_eager_market.proofs.Changes.{get-rest, no_account}
use Rattle.dex_eager_market.proofs.accounts.change_worth.Goals as goal

pub changed-requires-clause-account : goal.changed-requires-clause-account
changed-requires-clause-account c =
    let place = c.loop-place.place in
    let here = ap (λ (l : List Account). get_or l place no_account) c.loop-place.invariant ∙ get-rest (changed c.args.owner c.args.change) c.args.accounts.now place no_account (omega arith) in
    subst (IsWithin (2 ^ 126)) (sym here) (All-get_or (IsWithin (2 ^ 126)) c.args.accounts.now place no_account (omega arith) c.requires.accounts)

pub loop-place-preserved : goal.loop-place-preserved
loop-place-preserved c = search (rules, map_over_more (changed c.args.owner c.args.change), c.changed.ensures)
