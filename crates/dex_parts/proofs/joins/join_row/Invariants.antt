use Rattle.std.proofs.Common.{length}
use Rattle.dex_parts.specs.Joins.{row_links, wallet_links}
use Rattle.dex_parts.proofs.JoinLaws.{AreLeft}
use Rattle.dex_parts.proofs.joins.join_row.Given as goal

abbrev pub invariant-wallets : goal.invariant-wallets
invariant-wallets l = AreLeft l.initial.labels l.labels (row_links l.markets l.at) (wallet_links l.markets l.at.market l.left)

abbrev pub decreases-wallets : goal.decreases-wallets
decreases-wallets l = length l.left
