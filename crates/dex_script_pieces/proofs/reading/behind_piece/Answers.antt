use Rattle.std.proofs.Common.{◌∙◌, Ok, ap, sym}
use Rattle.dex_script.specs.Drafts.{PlainDraft}
use Rattle.dex_script_pieces.proofs.Behind.{next-read}
use Rattle.dex_script_pieces.proofs.reading.behind_piece.Goals as goal

pub join-requires-clause-alike : goal.join-requires-clause-alike
join-requires-clause-alike c =
    (next-read c.args.reader c.args.number.now c.args.piece c.in_ok-read.read c.requires.underway c.requires.read
    (sym c.into_reader.ensures ∙ c.in_ok-read.was) (c.is_next.ensures c.if-is_next.true)).1

pub returns-in-Ok-clause-told : goal.returns-in-Ok-clause-told
returns-in-Ok-clause-told c =
    (next-read c.args.reader c.args.number.now c.args.piece c.in_ok-read.read c.requires.underway c.requires.read
    (sym c.into_reader.ensures ∙ c.in_ok-read.was) (c.is_next.ensures c.if-is_next.true)).0
    ∙ ap (λ (d : PlainDraft). Ok d) (sym c.in-Ok.ensures)
