use Rattle.dex_sound.proofs.CrankLaws.{consumable-limit, consumable-length, consumable-names, consumable-stops, consumable-all}
use Rattle.dex_sound.proofs.cranks.a_crank_consumes_what_it_may.Goals as goal

pub returns-clause-limit : goal.returns-clause-limit
returns-clause-limit c = consumable-limit

pub returns-clause-within : goal.returns-clause-within
returns-clause-within c = consumable-length

pub returns-clause-names : goal.returns-clause-names
returns-clause-names c = consumable-names

pub returns-clause-stops : goal.returns-clause-stops
returns-clause-stops c = consumable-stops

pub returns-clause-all_named : goal.returns-clause-all_named
returns-clause-all_named c = consumable-all
