use Rattle.std.proofs.Common.{map}
use Rattle.dex_types.specs.Accounts.{orders_account_of}
use Rattle.dex_index.proofs.ReachedLaws.{each-leads}
use Rattle.dex_index.proofs.index.AccountIndex.of.Goals as goal

pub returns-then-accounts-le-FEW : goal.returns-then-accounts-le-FEW
returns-then-accounts-le-FEW c = each-leads (map orders_account_of c.args.accounts.now) 0
