use Rattle.std.proofs.Common.{List, ℕ, get_or, map, rules, ap, ◌∙◌, arith}
use Rattle.std.proofs.lemmas.List.{map-set, with_items_is}
use Rattle.dex_types.specs.Accounts.{orders_account_of}
use Rattle.dex_accounts.specs.Owners.{changed_at}
use Rattle.dex_accounts.proofs.OwnerLaws.{changed_at-here}
use Rattle.dex_step.specs.FundBytes.{CanSettle, HasSettled}
use Rattle.dex_step.proofs.FundLaws.{here-can, here-changed}
use Rattle.dex_step.proofs.acting_funds.settle_owned.Goals as goal

pub settle_on_bytes-requires : goal.settle_on_bytes-requires
settle_on_bytes-requires c =
    let can = here-can c.args.owner c.args.accounts.now c.place_of-place.result c.index-accounts-place.result c.place_of-place.ensures (CanSettle c.args.plan.now c.args.market.now) c.requires in
    search (rules, can)

pub returns : goal.returns
returns c =
    let accounts = c.args.accounts.now in
    let place = c.place_of-place.result in
    let index = c.index-accounts-place.result in
    let first = c.place_of-place.ensures in
    let did = c.settle_on_bytes in
    let left = with_items_is (get_or accounts place index).bytes did.new.account (omega (arith, did.auto.account, c.deref_mut.ensures.len)) in
    here-changed c.args.owner accounts place index first (CanSettle c.args.plan.now c.args.market.now) (HasSettled c.args.plan.now c.args.market.now c.settle_on_bytes.new.market) _ did.new.account c.requires
    (map-set orders_account_of accounts place _ ∙ changed_at-here c.args.owner accounts place index _ first
    ∙ ap (λ (b : List ℕ). changed_at c.args.owner (λ was. b) (map orders_account_of accounts)) left)
    (search rules)
