use Rattle.std.proofs.Common.{◌∙◌}
use Rattle.dex_parts.specs.Joins.{links_of}
use Rattle.dex_parts.proofs.LinkLaws.{within-numbers}
use Rattle.dex_parts.proofs.shards.labels_among.Goals as goal

pub join_rows-requires : goal.join_rows-requires
join_rows-requires c = record {
  within = within-numbers c.args.markets c.args.wallets c.deref_mut.result.now (links_of c.args.markets c.args.places.now) (c.deref_mut.ensures.value ∙ c.in_ok-labels.ensures)
      c.requires.joined;
}
