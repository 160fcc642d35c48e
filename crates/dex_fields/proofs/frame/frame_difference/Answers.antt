use Rattle.std.proofs.Common.{rules}
use Rattle.dex_fields.specs.Frame.{frame_difference}
use Rattle.dex_fields.proofs.FrameLaw.{frame_none_iff}
use Rattle.dex_fields.proofs.frame.frame_difference.Goals as goal

pub returns-clause-first : goal.returns-clause-first
unfolding frame_difference
returns-clause-first c = search rules

pub returns-clause-none : goal.returns-clause-none
returns-clause-none c = frame_none_iff c.args.bytes.now c.or.result c.requires (returns-clause-first c)
