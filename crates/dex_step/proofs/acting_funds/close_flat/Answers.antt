use Rattle.std.proofs.Common.{◌≡◌, ◌+◌, ◌-◌, subst, rules, arith}
use Rattle.dex_lent.proofs.FlatLaws.{here-data, here-written}
use Rattle.dex_step.specs.FundBytes.{CanClose}
use Rattle.dex_step.proofs.acting_funds.close_flat.Goals as goal

pub data_at-at-requires : goal.data_at-at-requires
data_at-at-requires c =
    let found = c.requires.found in
    search (rules, found)

pub close-requires-clause-accepted : goal.close-requires-clause-accepted
close-requires-clause-accepted c =
    let at = c.data_at-at.result in
    let can = subst (CanClose) (here-data c.args.owner c.args.accounts.now c.requires.account at (at + 3228 - at) c.data_at-at.ensures c.requires.found (omega arith)) c.requires.can in
    search (rules, can)

pub close-requires-clause-empty : goal.close-requires-clause-empty
close-requires-clause-empty c =
    let at = c.data_at-at.result in
    let can = subst (CanClose) (here-data c.args.owner c.args.accounts.now c.requires.account at (at + 3228 - at) c.data_at-at.ensures c.requires.found (omega arith)) c.requires.can in
    search (rules, can)

pub returns : goal.returns
returns c =
    let at = c.data_at-at.result in
    let size : at + 3228 - at ≡ 3228 = omega arith in
    let did = c.close in
    let is = here-data c.args.owner c.args.accounts.now c.requires.account at (at + 3228 - at) c.data_at-at.ensures c.requires.found size in
    record {
      was = c.requires.account;
      now = did.new.bytes;
      found = c.requires.found;
      changed = here-written c.args.owner c.args.accounts.now did.new.bytes at (at + 3228 - at) c.data_at-at.ensures size did.auto.bytes;
      has = search (rules, is);
    }
