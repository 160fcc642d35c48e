use Rattle.dex_dump.proofs.PieceLaws.{zeros-behind}
use Rattle.dex_dump.proofs.pieces.Pieces.push_zeros.Goals as goal

pub returns : goal.returns
returns c =
    zeros-behind _ _ _ _ c.in_ok-push.ensures.items c.in_ok-end_last.ensures.next c.in_ok-end_last.ensures.text
