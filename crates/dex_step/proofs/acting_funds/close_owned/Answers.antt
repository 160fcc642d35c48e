use Rattle.std.proofs.Common.{List, ℕ, get_or, map, rules, ap, ◌∙◌, arith}
use Rattle.std.proofs.lemmas.List.{map-set, with_items_is}
use Rattle.dex_types.specs.Accounts.{orders_account_of}
use Rattle.dex_accounts.specs.Owners.{changed_at}
use Rattle.dex_accounts.proofs.OwnerLaws.{changed_at-here}
use Rattle.dex_step.specs.FundBytes.{CanClose, HasClosed}
use Rattle.dex_step.proofs.FundLaws.{here-can, here-changed}
use Rattle.dex_step.proofs.acting_funds.close_owned.Goals as goal

pub close-requires-clause-accepted : goal.close-requires-clause-accepted
close-requires-clause-accepted c =
    let can = here-can c.args.owner c.args.accounts.now c.place_of-place.result c.index-accounts-place.result c.place_of-place.ensures CanClose c.requires in
    search (rules, can)

pub close-requires-clause-empty : goal.close-requires-clause-empty
close-requires-clause-empty c =
    let can = here-can c.args.owner c.args.accounts.now c.place_of-place.result c.index-accounts-place.result c.place_of-place.ensures CanClose c.requires in
    search (rules, can)

pub returns : goal.returns
returns c =
    let accounts = c.args.accounts.now in
    let place = c.place_of-place.result in
    let index = c.index-accounts-place.result in
    let first = c.place_of-place.ensures in
    let did = c.close in
    let left = with_items_is (get_or accounts place index).bytes did.new.bytes (omega (arith, did.auto.bytes, c.deref_mut.ensures.len)) in
    here-changed c.args.owner accounts place index first CanClose HasClosed _ did.new.bytes c.requires
    (map-set orders_account_of accounts place _ ∙ changed_at-here c.args.owner accounts place index _ first
    ∙ ap (λ (b : List ℕ). changed_at c.args.owner (λ was. b) (map orders_account_of accounts)) left)
    (search rules)
