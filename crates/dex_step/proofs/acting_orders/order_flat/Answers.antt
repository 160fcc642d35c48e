use Rattle.std.proofs.Common.{◌≡◌, ℕ, ◌+◌, ◌-◌, List, refl, sym, subst, rules, arith}
use Rattle.dex_lent.proofs.FlatLaws.{here-data, here-written}
use Rattle.dex_step.specs.OrderActs.{CanOrder, order_bytes}
use Rattle.dex_step.proofs.ActLaws.{order-bytes-same, ordered-same}
use Rattle.dex_step.proofs.acting_orders.order_flat.Goals as goal

pub data_at-at-requires : goal.data_at-at-requires
data_at-at-requires c =
    let found = c.requires.found in
    search (rules, found)

pub order_on_bytes-requires : goal.order_on_bytes-requires
order_on_bytes-requires c =
    let at = c.data_at-at.result in
    subst (λ (b : List ℕ). CanOrder c.args.plan.now c.args.taker (order_bytes c.args.market.now c.args.requests.now c.args.events.now b c.args.own.now c.args.opposite.now))
    (here-data c.args.taker.account c.args.accounts.now c.requires.account at (at + 3228 - at) c.data_at-at.ensures c.requires.found (omega arith)) c.requires.can

pub returns : goal.returns
returns c =
    let at = c.data_at-at.result in
    let size : at + 3228 - at ≡ 3228 = omega arith in
    let did = c.order_on_bytes in
    let is = here-data c.args.taker.account c.args.accounts.now c.requires.account at (at + 3228 - at) c.data_at-at.ensures c.requires.found size in
    record {
      was = c.requires.account;
      now = did.new.account;
      found = c.requires.found;
      changed = here-written c.args.taker.account c.args.accounts.now did.new.account at (at + 3228 - at) c.data_at-at.ensures size did.auto.account;
      done = ordered-same _ _ _ _ _ _ did.ensures (order-bytes-same _ _ _ _ _ _ _ _ _ _ _ _ refl refl refl (sym is) refl refl) refl;
    }
