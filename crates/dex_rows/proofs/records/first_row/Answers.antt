use Rattle.std.proofs.Common.{[], refl}
use Rattle.dex_rows.specs.Lines.{behind_ends}
use Rattle.dex_rows.proofs.PlainLaws.{no_row}
use Rattle.dex_rows.proofs.records.first_row.Goals as goal

pub returns-clause-stopped : goal.returns-clause-stopped
unfolding behind_ends
returns-clause-stopped c = no_row [] refl
