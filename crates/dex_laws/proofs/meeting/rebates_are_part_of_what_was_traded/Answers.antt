use Rattle.dex_laws.proofs.DemandLaws.{meet-rebates}
use Rattle.dex_laws.proofs.meeting.rebates_are_part_of_what_was_traded.Goals as goal

pub returns : goal.returns
returns c = meet-rebates
