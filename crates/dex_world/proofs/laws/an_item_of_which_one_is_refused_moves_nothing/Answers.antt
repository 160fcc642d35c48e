use Rattle.dex_world.proofs.QuietLaws.{item-quiet}
use Rattle.dex_world.proofs.laws.an_item_of_which_one_is_refused_moves_nothing.Goals as goal

pub returns-clause-markets : goal.returns-clause-markets
returns-clause-markets c = λ item world some. (item-quiet item world some).markets

pub returns-clause-wallets : goal.returns-clause-wallets
returns-clause-wallets c = λ item world some. (item-quiet item world some).wallets
