use Rattle.dex_parts.proofs.NumberLaws.{replay-with}
use Rattle.dex_parts.proofs.laws.rows_counted_anew_leave_the_same.Goals as goal

pub returns : goal.returns
returns c = replay-with
