use Rattle.std.proofs.Common.{get_or, ◌≡◌, ◌<◌, List, ℕ, length, map, refl, rules, ap, ◌∙◌, subst, arith}
use Rattle.std.proofs.lemmas.List.{length-map, map-set, with_items_is}
use Rattle.dex_types.specs.Accounts.{orders_account_of}
use Rattle.dex_accounts.specs.Owners.{changed_at}
use Rattle.dex_accounts.proofs.OwnerLaws.{changed_at-here, owned_here}
use Rattle.dex_step.specs.OrderActs.{CanOrder, order_bytes}
use Rattle.dex_step.proofs.ActLaws.{order-bytes-same, ordered-same}
use Rattle.dex_step.proofs.acting_orders.order_owned.Goals as goal

pub place_of-place-requires : goal.place_of-place-requires
place_of-place-requires c =
    let found = c.requires.found in
    search (rules, found)

pub order_on_bytes-requires : goal.order_on_bytes-requires
order_on_bytes-requires c =
    let accounts = c.args.accounts.now in
    let place = c.place_of-place.result in
    let lt : place < length accounts = omega (arith, c.place_of-place.ensures.within, length-map accounts orders_account_of) in
    let is : c.requires.account ≡ (get_or accounts place c.index-accounts-place.result).bytes.items =
    owned_here c.args.taker.account accounts place c.index-accounts-place.result c.requires.account lt c.place_of-place.ensures c.requires.found in
    let can : CanOrder c.args.plan.now c.args.taker
    (order_bytes c.args.market.now c.args.requests.now c.args.events.now (get_or accounts place c.index-accounts-place.result).bytes.items
    c.args.own.now c.args.opposite.now) =
    subst (λ (b : List ℕ). CanOrder c.args.plan.now c.args.taker
    (order_bytes c.args.market.now c.args.requests.now c.args.events.now b c.args.own.now c.args.opposite.now)) is c.requires.can in
    search (rules, can)

pub returns : goal.returns
returns c =
    let accounts = c.args.accounts.now in
    let place = c.place_of-place.result in
    let here = get_or accounts place c.index-accounts-place.result in
    let did = c.order_on_bytes in
    let lt : place < length accounts = omega (arith, c.place_of-place.ensures.within, length-map accounts orders_account_of) in
    let is : c.requires.account ≡ here.bytes.items =
    owned_here c.args.taker.account accounts place c.index-accounts-place.result c.requires.account lt c.place_of-place.ensures c.requires.found in
    let left = with_items_is here.bytes did.new.account (omega (arith, did.auto.account, c.deref_mut.ensures.len)) in
    let done = ordered-same _ _ _ _ _ _ did.ensures
    (order-bytes-same _ _ _ _ _ _ _ _ _ _ _ _ (search rules) (search rules) (search rules) (search (rules, is)) (search rules) (search rules))
    (order-bytes-same _ _ _ _ _ _ _ _ _ _ _ _
    refl
    refl
    refl
    refl
    refl
    refl) in
    record {
      was = c.requires.account;
      now = did.new.account;
      found = c.requires.found;
      changed =
          map-set orders_account_of accounts place _ ∙ changed_at-here c.args.taker.account accounts place c.index-accounts-place.result _ c.place_of-place.ensures
          ∙ ap (λ (b : List ℕ). changed_at c.args.taker.account (λ was. b) (map orders_account_of accounts)) left;
      done = done;
    }
