use Rattle.std.proofs.Common.{◌≡◌, arith, max, subst, sym}
use Rattle.dex_types.specs.Accounts.{accounts_of}
use Rattle.dex_script_types.specs.Facts.{IsScript}
use Rattle.dex_script.specs.Drafts.{PlainDraft}
use Rattle.dex_script.specs.Pieces.{HaveSamePlaces, part_of}
use Rattle.dex_script.specs.Telling.{draft_of}
use Rattle.dex_script.proofs.PieceLaws.{placed-there}
use Rattle.dex_script.proofs.reader.Reader.into_part.Goals as goal

pub invariant_of-script : goal.invariant_of-script
invariant_of-script c =
    let draft = draft_of c.self.inside.draft in
    let start = accounts_of c.args.start in
    let places = c.self.inside.places.items in
    let lanes : c.max.result ≡ max 1 draft.script.lanes = omega (arith, c.max.ensures) in
    let is : IsScript (part_of draft start) = subst (λ (d : PlainDraft). IsScript (part_of d start)) (sym c.self.view_is) c.requires.script in
    let same : HaveSamePlaces draft.script.start start =
    subst (λ (d : PlainDraft). HaveSamePlaces d.script.start start) (sym c.self.view_is) c.requires.places in
    let reading = c.self.invariant.0 in
    rw (c.in_ok-push_piece.ensures, lanes)
    (is, placed-there draft.script.start start same draft.script.rows places reading.placed, reading.beside)
