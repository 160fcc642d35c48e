use Rattle.dex_history.proofs.HistoryLaws.{IsLegal-front}
use Rattle.std.proofs.Common.{ap, take}
use Rattle.dex_eager.proofs.DelayLaws.{delay-market, delay-fills, delay-worth}
use Rattle.dex_eager.proofs.delay.delay_changes_no_trade.Goals as goal

pub returns-clause-places : goal.returns-clause-places
returns-clause-places c =
    λ m first second early late sound legal other same.
    delay-market (take early first) (take late second) m sound (IsLegal-front early first m legal) (IsLegal-front late second m other) same

pub returns-clause-place_fills : goal.returns-clause-place_fills
returns-clause-place_fills c =
    λ m first second early late sound legal other same.
    delay-fills (take early first) (take late second) m sound (IsLegal-front early first m legal) (IsLegal-front late second m other) same

pub returns-clause-bids : goal.returns-clause-bids
returns-clause-bids c = λ m first second sound legal other same. ap (λ e. e.bids) (delay-market first second m sound legal other same)

pub returns-clause-asks : goal.returns-clause-asks
returns-clause-asks c = λ m first second sound legal other same. ap (λ e. e.asks) (delay-market first second m sound legal other same)

pub returns-clause-fills : goal.returns-clause-fills
returns-clause-fills c = λ m first second sound legal other same. delay-fills first second m sound legal other same

pub returns-clause-takings : goal.returns-clause-takings
returns-clause-takings c = λ m first second sound legal other same. ap (λ e. e.takings) (delay-market first second m sound legal other same)

pub returns-clause-worth : goal.returns-clause-worth
returns-clause-worth c = λ m first second owner trader sound legal other same found. delay-worth first second m owner trader sound legal other same found
