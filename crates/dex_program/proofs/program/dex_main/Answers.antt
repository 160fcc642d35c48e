use Rattle.dex_commands.proofs.Endings.{all-complete}
use Rattle.dex_commands.proofs.Listed.{listed}
use Rattle.dex_program.proofs.Endings.{legal, ordered}
use Rattle.dex_program.proofs.program.dex_main.Goals as goal

pub returns-clause-listed_order : goal.returns-clause-listed_order
returns-clause-listed_order g c = listed _ _ _ _ c.by_words.ensures

pub returns-clause-one_legal_history : goal.returns-clause-one_legal_history
returns-clause-one_legal_history g c = legal _ _ _ _ c.by_words.ensures

pub returns-clause-one_order : goal.returns-clause-one_order
returns-clause-one_order g c = ordered _ _ _ _ c.by_words.ensures

pub returns-clause-completes : goal.returns-clause-completes
returns-clause-completes g c = all-complete _ _ _ _ c.by_words.ensures
