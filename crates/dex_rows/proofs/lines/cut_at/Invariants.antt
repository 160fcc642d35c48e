use Rattle.std.proofs.Common.{◌≡◌, ◌≤◌, ◌-◌, length}
use Rattle.dex_rows.proofs.LineLemmas.{InLine}
use Rattle.dex_rows.proofs.lines.cut_at.Given as goal

abbrev pub invariant-bytes : goal.invariant-bytes
invariant-bytes l = (length l.fields ≡ 12) × (l.at ≤ length l.text) × InLine l.text l.start l.at l.count l.fields

abbrev pub decreases-bytes : goal.decreases-bytes
decreases-bytes l = length l.text - l.at
