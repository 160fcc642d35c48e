use Rattle.std.proofs.Common.{◌≡◌, ◌∙◌, ◌++◌, List, ap, map, subst, sym}
use Rattle.std.proofs.lemmas.List.{append_assoc, map-append}
use Rattle.dex_types.specs.declared.rows.Row.{Row}
use Rattle.dex_types.specs.Rows.{row_of}
use Rattle.dex_script.specs.Drafts.{PlainDraft}
use Rattle.dex_script.specs.Pieces.{AreAlike}
use Rattle.dex_script.specs.Telling.{draft_of}
use Rattle.dex_script.proofs.PieceLaws.{joined-reading}
use Rattle.dex_script.proofs.reader.Reader.join.Goals as goal

-- the rows of both, the pieces of the one after the rows of the other
rows-joined : (before rows others more : List Row) → map row_of (((before ++ rows) ++ others) ++ more) ≡ map row_of (before ++ rows) ++ map row_of (others ++ more)
rows-joined before rows others more = ap (map row_of) (append_assoc (before ++ rows) others more) ∙ map-append row_of (before ++ rows) (others ++ more)

pub invariant_of-result : goal.invariant_of-result
invariant_of-result c =
    let one = c.self.inside.draft in
    let other = c.piece.inside.draft in
    let draft = draft_of one in
    let piece = draft_of other in
    let alike : AreAlike draft piece =
    subst (λ (d : PlainDraft). AreAlike draft d) (sym c.piece.view_is) (subst (λ (d : PlainDraft). AreAlike d c.args.piece) (sym c.self.view_is) c.requires.alike) in
    let both = joined-reading draft piece c.self.inside.places.items c.piece.inside.places.items alike c.self.invariant.0 c.piece.invariant.0 in
    rw (c.in_ok-append.ensures, c.in_ok-push_piece.ensures, c.in_ok-append-2.ensures.items, rows-joined one.before one.rows.items other.before other.rows.items)
    (record { placed = both.placed; beside = both.beside; quiet = both.quiet; few = both.few }, c.self.invariant.1)
