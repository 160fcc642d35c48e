use Rattle.std.proofs.Common.{◌≡◌, ◌+◌, ◌-◌, subst, rules, arith}
use Rattle.dex_lent.proofs.FlatLaws.{here-data, here-written}
use Rattle.dex_orders.specs.OrdersAccount.{IsBlank}
use Rattle.dex_step.proofs.acting_funds.init_flat.Goals as goal

pub data_at-at-requires : goal.data_at-at-requires
data_at-at-requires c =
    let found = c.requires.found in
    search (rules, found)

pub init-requires : goal.init-requires
init-requires c =
    let at = c.data_at-at.result in
    let can = subst (IsBlank) (here-data c.args.owner c.args.accounts.now c.requires.account at (at + 3228 - at) c.data_at-at.ensures c.requires.found (omega arith)) c.requires.can in
    search (rules, can)

pub returns : goal.returns
returns c =
    let at = c.data_at-at.result in
    let size : at + 3228 - at ≡ 3228 = omega arith in
    let did = c.init in
    let is = here-data c.args.owner c.args.accounts.now c.requires.account at (at + 3228 - at) c.data_at-at.ensures c.requires.found size in
    record {
      was = c.requires.account;
      now = did.new.bytes;
      found = c.requires.found;
      changed = here-written c.args.owner c.args.accounts.now did.new.bytes at (at + 3228 - at) c.data_at-at.ensures size did.auto.bytes;
      has = record { opened = search rules; market_is = search rules; words = search rules };
    }
