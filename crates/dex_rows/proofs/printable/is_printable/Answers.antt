use Rattle.dex_rows.specs.Printable.{is_printable}
use Rattle.dex_rows.proofs.PrintableLemmas.{field_every}
use Rattle.dex_rows.proofs.printable.is_printable.Goals as goal

pub returns-clause-every : goal.returns-clause-every
unfolding is_printable
returns-clause-every c = field_every _ c.args.text.now c.has_printable_bytes.ensures
