use Rattle.std.proofs.Common.{◌+◌, sym, ap, ◌∙◌, arith}
use Rattle.dex_fields.specs.Frame.{difference_from}
use Rattle.dex_fields.proofs.FrameLaw.{difference_at, difference_end}
use Rattle.dex_fields.proofs.frame.first_difference.Goals as goal

pub returns-then-found-wanted : goal.returns-then-found-wanted
returns-then-found-wanted c =
    let start = c.args.field.at in
    sym (difference_at start c.loop-i.i c.piece-piece.result.now c.args.text.now (omega arith) (omega arith) c.if-found-wanted.true)
    ∙ c.loop-i.invariant
    ∙ ap (λ bytes. difference_from start bytes c.args.text.now) c.piece-piece.ensures.value

pub returns : goal.returns
returns c =
    let start = c.args.field.at in
    sym (difference_end (start + c.loop-i.i) c.loop-i.i c.piece-piece.result.now c.args.text.now (omega arith))
    ∙ c.loop-i.invariant
    ∙ ap (λ bytes. difference_from start bytes c.args.text.now) c.piece-piece.ensures.value
