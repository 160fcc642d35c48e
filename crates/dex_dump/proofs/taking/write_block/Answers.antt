use Rattle.std.proofs.Common.{◌∙◌, sym}
use Rattle.dex_dump.proofs.ZeroLaws.{block-of-zeros}
use Rattle.dex_dump.proofs.taking.write_block.Goals as goal

pub returns-then-is_blank : goal.returns-then-is_blank
returns-then-is_blank c =
    rw (block-of-zeros c.args.block.now c.if-block-eq-ZEROS.true (sym c.is_blank.ensures ∙ c.if-is_blank.true)) c.push_zeros.ensures
