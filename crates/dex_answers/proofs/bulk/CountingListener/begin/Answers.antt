use Rattle.dex_types.specs.Accounts.{accounts_of}
use Rattle.dex_answers.proofs.HeardLaws.{none-counted}
use Rattle.dex_answers.proofs.bulk.CountingListener.begin.Goals as goal

pub returns : goal.returns
returns c = λ script start rows. none-counted (accounts_of c.args._start.now)
