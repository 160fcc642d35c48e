use Rattle.dex_check.proofs.WalletLaws.{exactly-told}
use Rattle.dex_check.specs.Wallets.{purse_of}
use Rattle.dex_check.proofs.wallets.check_wallets.Goals as goal

pub returns-clause-exact : goal.returns-clause-exact
returns-clause-exact c = exactly-told c.first_flaw.result c.args.roles.now (purse_of c.args.wallets.now) c.first_flaw.ensures
