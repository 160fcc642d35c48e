use Rattle.std.proofs.Common.{arith}
use Rattle.dex_script_types.proofs.ItemCounts.{begun-all}
use Rattle.dex_script_types.proofs.script.items_among.Goals as goal

pub loop-place-init : goal.loop-place-init
loop-place-init c = omega (arith, begun-all c.args.places.now)
