use Rattle.dex_answers.proofs.HeardLaws.{told-behind}
use Rattle.dex_answers.proofs.replay.ReportingListener.hear.Goals as goal

pub returns : goal.returns
returns c = λ before part whole left outcome next rows markets wallets heard.
    told-behind c.take.new.self before part whole left outcome next (rw (markets, wallets) at (c.in_ok-take.ensures left heard))
