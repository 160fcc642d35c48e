use Rattle.std.proofs.Common.{rules}
use Rattle.dex_fields.specs.Bytes.{with_number}
use Rattle.dex_make.proofs.market_bytes.write_terms.Goals as goal

pub returns : goal.returns
unfolding with_number
returns c = search rules
