use Rattle.dex_words.proofs.CommandLaws.{one-spelling}
use Rattle.dex_words.proofs.laws.a_command_has_one_spelling.Goals as goal

pub returns : goal.returns
returns c = one-spelling
