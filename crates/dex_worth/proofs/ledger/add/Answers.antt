use Rattle.std.proofs.Common.{rules}
use Rattle.std.proofs.lemmas.List.Edits.{map_over_more}
use Rattle.dex_worth.specs.Entries.{with_moved}
use Rattle.dex_worth.proofs.ledger.add.Goals as goal

pub loop-place-preserved : goal.loop-place-preserved
loop-place-preserved c = search (rules, map_over_more (with_moved c.args.more), c.with_moved-account.ensures)
