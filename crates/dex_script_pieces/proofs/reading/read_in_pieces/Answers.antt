use Rattle.std.proofs.Common.{◌∙◌, All, List, subst, sym}
use Rattle.dex_statement.specs.Words.{Fields}
use Rattle.dex_script.specs.Drafts.{PlainDraft}
use Rattle.dex_script.specs.Pieces.{IsUnderway}
use Rattle.dex_script.specs.Scripts.{draft_after}
use Rattle.dex_script.specs.Telling.{TellsDraft}
use Rattle.dex_script_pieces.specs.Pieces.{HasRead}
use Rattle.dex_script_pieces.proofs.Behind.{pieces-read}
use Rattle.dex_script_pieces.proofs.reading.read_in_pieces.Goals as goal

pub behind_pieces-requires-clause-underway : goal.behind_pieces-requires-clause-underway
behind_pieces-requires-clause-underway g c = subst IsUnderway (sym c.in_ok-reader.ensures.made) c.requires.underway

pub behind_pieces-requires-clause-read : goal.behind_pieces-requires-clause-read
behind_pieces-requires-clause-read g c =
    let after = c.with_markets_by.new.how.pieces.items in
    subst (λ (draft : PlainDraft). All (HasRead draft) after) (sym c.in_ok-reader.ensures.made)
    (pieces-read c.args.reader c.in-Ok.pieces.items after c.in-Ok.ensures.beside c.with_markets_by.ensures.ran).0

pub returns : goal.returns
returns g c =
    let after = c.with_markets_by.new.how.pieces.items in
    let read = pieces-read c.args.reader c.in-Ok.pieces.items after c.in-Ok.ensures.beside c.with_markets_by.ensures.ran in
    subst (λ (draft : PlainDraft). TellsDraft c.behind_pieces.result (draft_after draft c.args.number c.args.rows)) c.in_ok-reader.ensures.made
    (subst (λ (rows : List Fields). TellsDraft c.behind_pieces.result (draft_after c.in_ok-reader.reader c.args.number rows))
    (read.1 ∙ c.in-Ok.ensures.rows) c.behind_pieces.ensures)
