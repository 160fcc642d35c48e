use Rattle.std.proofs.Common.{sym, ◌∙◌}
use Rattle.dex_index.proofs.NearLaws.{changed-near, found-near}
use Rattle.dex_index.proofs.ordering.order_indexed.Goals as goal

pub order_among-requires : goal.order_among-requires
order_among-requires c = record {
  account = c.requires.account;
  found = found-near c.args.index.now c.args.taker.account c.args.accounts.now c.near-near.ensures ∙ c.requires.found;
  can = c.requires.can;
}

pub returns : goal.returns
returns c =
    let did = c.order_among.ensures in
    record {
      was = did.was;
      now = did.now;
      found = sym (found-near c.args.index.now c.args.taker.account c.args.accounts.now c.near-near.ensures) ∙ did.found;
      changed = changed-near c.args.index.now c.args.taker.account c.args.accounts.now c.near-near.ensures (λ old. did.now) c.order_among.new.accounts did.changed;
      done = did.done;
    }
