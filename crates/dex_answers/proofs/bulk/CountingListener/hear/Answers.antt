use Rattle.std.proofs.Common.{◌∙◌}
use Rattle.dex_answers.proofs.HeardLaws.{counted-behind}
use Rattle.dex_answers.proofs.bulk.CountingListener.hear.Goals as goal

pub returns : goal.returns
returns c = λ before part whole left outcome next rows markets wallets heard.
    rw (c.deref.ensures.value, markets, heard) at c.in_ok-take.ensures ∙ counted-behind before part whole left outcome next
