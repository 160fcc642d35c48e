use Rattle.std.proofs.Common.{List, ap, arith, length, ℕ, ◌∙◌}
use Rattle.dex_parts.proofs.LinkLaws.{labels-long}
use Rattle.dex_parts.proofs.shards.shards_among.Goals as goal

pub split_at-requires : goal.split_at-requires
split_at-requires c =
    omega (
      arith,
      ap (λ (labels : List ℕ). length labels) (c.deref.ensures.value ∙ c.in_ok-labels.ensures),
      labels-long c.args.markets c.args.wallets c.args.places.now,
    )
