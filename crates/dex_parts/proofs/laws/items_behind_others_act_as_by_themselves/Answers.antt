use Rattle.dex_replay.proofs.ActedTo.{items-append}
use Rattle.dex_parts.proofs.TogetherLaws.{behind-others}
use Rattle.dex_parts.proofs.laws.items_behind_others_act_as_by_themselves.Goals as goal

pub returns-clause-cut : goal.returns-clause-cut
returns-clause-cut c = λ items later world. items-append items later world

pub returns-clause-behind : goal.returns-clause-behind
returns-clause-behind c = λ items world. behind-others items world
