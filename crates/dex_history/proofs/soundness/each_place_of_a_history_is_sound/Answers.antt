use Rattle.std.proofs.Common.{take}
use Rattle.dex_history.proofs.HistoryLaws.{IsLegal-front}
use Rattle.dex_history.proofs.PriceLaws.{calls-sound}
use Rattle.dex_history.proofs.soundness.each_place_of_a_history_is_sound.Goals as goal

pub returns-clause-places : goal.returns-clause-places
returns-clause-places c = λ m calls count sound legal. calls-sound (take count calls) m sound (IsLegal-front count calls m legal)

pub returns-clause-end : goal.returns-clause-end
returns-clause-end c = λ m calls. calls-sound calls m
