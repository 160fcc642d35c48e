use Rattle.std.proofs.Common.{subst}
use Rattle.dex_script.specs.Drafts.{PlainDraft}
use Rattle.dex_script.specs.Names.{FindsAmong}
use Rattle.dex_script.specs.Telling.{start_of}
use Rattle.dex_script.proofs.NameLaws.{by-names}
use Rattle.dex_script.proofs.reader.Reader.first_places_of.Goals as goal

pub returns-clause-places : goal.returns-clause-places
returns-clause-places c =
    let start = start_of c.self.inside.draft.start in
    subst (λ (d : PlainDraft). FindsAmong d.script.start c.args.parties.now c.places_of-found.result) c.self.view_is
    (by-names c.in_ok-names.names start c.args.parties.now c.places_of-found.result
    c.in_ok-names.ensures c.places_of-found.ensures)
