use Rattle.dex_make.proofs.PartLaws.{part_apart, parts_apart}
use Rattle.dex_make.proofs.laws.parts_have_addresses_of_their_own.Goals as goal

pub returns-clause-apart : goal.returns-clause-apart
returns-clause-apart c = parts_apart

pub returns-clause-own : goal.returns-clause-own
returns-clause-own c = part_apart
