use Rattle.dex_laws.proofs.BestFirstLaws.{meet-IsBestFirst, meet-none_better}
use Rattle.dex_laws.proofs.matching.the_best_orders_are_met_first.Goals as goal

pub returns-clause-events : goal.returns-clause-events
returns-clause-events c = meet-IsBestFirst

pub returns-clause-left : goal.returns-clause-left
returns-clause-left c = meet-none_better
