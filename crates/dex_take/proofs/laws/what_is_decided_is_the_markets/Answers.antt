use Rattle.std.proofs.Common.{ap, ◌∙◌}
use Rattle.dex_take.specs.TakeGiven.{TakeRead, take_given}
use Rattle.dex_take.specs.Taking.{meeting_in}
use Rattle.dex_take.proofs.TakeAmounts.{given-of, meeting-of, read-of}
use Rattle.dex_take.proofs.TakeReasons.{reason-given}
use Rattle.dex_take.proofs.laws.what_is_decided_is_the_markets.Goals as goal

pub returns-clause-meeting : goal.returns-clause-meeting
returns-clause-meeting c side t parts m are =
    ap (λ (r : TakeRead). meeting_in side t r) (read-of side (take_given side parts) m (given-of side parts m are)) ∙ meeting-of side t m

pub returns-clause-reason : goal.returns-clause-reason
returns-clause-reason c side t parts m seen sound are = reason-given side t (take_given side parts) m seen sound (given-of side parts m are)
