use Rattle.std.proofs.Common.{take}
use Rattle.std.proofs.lemmas.List.Elements.{All-nil}
use Rattle.dex_sound.proofs.MadeLaws.{made_market-sound}
use Rattle.dex_sound.specs.Made.{made_market}
use Rattle.dex_history.proofs.CrossLaws.{none-after, none-stepped}
use Rattle.dex_history.proofs.HistoryLaws.{IsLegal-front}
use Rattle.dex_history.proofs.crossing.no_bid_comes_to_cross_an_ask.Goals as goal

pub returns-clause-row : goal.returns-clause-row
returns-clause-row c = none-stepped

pub returns-clause-places : goal.returns-clause-places
returns-clause-places c = λ m calls count sound none legal. none-after (take count calls) m sound none (IsLegal-front count calls m legal)

pub returns-clause-end : goal.returns-clause-end
returns-clause-end c = λ m calls. none-after calls m

pub returns-clause-made : goal.returns-clause-made
returns-clause-made c =
    λ listing addresses calls count can legal.
    none-after (take count calls) (made_market listing addresses) (made_market-sound listing addresses can) (All-nil _)
    (IsLegal-front count calls (made_market listing addresses) legal)
