use Rattle.std.proofs.Common.{◌≡◌, ℕ, ◌+◌, ◌-◌, List, sym, subst, rules, arith}
use Rattle.dex_lent.proofs.FlatLaws.{here-data, here-written}
use Rattle.dex_step.specs.FundBytes.{CanSettle, HasSettled}
use Rattle.dex_step.proofs.acting_funds.settle_flat.Goals as goal

pub data_at-at-requires : goal.data_at-at-requires
data_at-at-requires c =
    let found = c.requires.found in
    search (rules, found)

pub settle_on_bytes-requires : goal.settle_on_bytes-requires
settle_on_bytes-requires c =
    let at = c.data_at-at.result in
    let can = subst (CanSettle c.args.plan.now c.args.market.now) (here-data c.args.owner c.args.accounts.now c.requires.account at (at + 3228 - at) c.data_at-at.ensures c.requires.found (omega arith)) c.requires.can in
    search (rules, can)

pub returns : goal.returns
returns c =
    let at = c.data_at-at.result in
    let size : at + 3228 - at ≡ 3228 = omega arith in
    let did = c.settle_on_bytes in
    let is = here-data c.args.owner c.args.accounts.now c.requires.account at (at + 3228 - at) c.data_at-at.ensures c.requires.found size in
    record {
      was = c.requires.account;
      now = did.new.account;
      found = c.requires.found;
      changed = here-written c.args.owner c.args.accounts.now did.new.account at (at + 3228 - at) c.data_at-at.ensures size did.auto.account;
      has = subst (λ (b : List ℕ). HasSettled c.args.plan.now c.args.market.now did.new.market b did.new.account) (sym is) did.ensures;
    }
