use Rattle.std.proofs.Common.{length}
use Rattle.dex_parts.proofs.JoinLaws.{wallet-within}
use Rattle.dex_parts.proofs.joins.join_wallet.Goals as goal

pub join-requires : goal.join-requires
join-requires c = record { within = wallet-within (length c.args.labels.now) c.args.markets c.args.market c.args.place c.requires.within c.if-place-lt-NO_WALLET.true }
