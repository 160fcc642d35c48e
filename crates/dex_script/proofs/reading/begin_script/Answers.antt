use Rattle.std.proofs.Common.{◌∙◌, sym}
use Rattle.dex_script.proofs.BegunLaws.{told-plain}
use Rattle.dex_script.proofs.reading.begin_script.Goals as goal

pub returns-else-branch-clause-told : goal.returns-else-branch-clause-told
returns-else-branch-clause-told c =
    told-plain c.args.limits.now c.args.batch c.args.bytes.now c.requires c.new.result c.new-rows.result c.new.ensures c.new-rows.ensures
    (sym c.in_ok-begins_with_dump.ensures ∙ c.if-branch.false) c.read_first.result c.read_first.ensures.read c.read_first.ensures.refused
