use Rattle.std.proofs.Common.{IfSome, Option, subst}
use Rattle.dex_script.specs.declared.names.Names.{Names}
use Rattle.dex_script.specs.Drafts.{PlainDraft}
use Rattle.dex_script.specs.Names.{AreNames, FindsAmong}
use Rattle.dex_script.specs.Telling.{start_of}
use Rattle.dex_script.proofs.NameLaws.{by-names}
use Rattle.dex_script.proofs.reader.Reader.places_of.Goals as goal

pub returns-in-Some-clause-places : goal.returns-in-Some-clause-places
returns-in-Some-clause-places c =
    let start = start_of c.self.inside.draft.start in
    let are =
    subst (λ (known : Option Names). IfSome known (λ names. AreNames names start)) c.in-Some.is c.self.invariant.1 in
    subst (λ (d : PlainDraft). FindsAmong d.script.start c.args.parties.now c.places_of.result) c.self.view_is
    (by-names c.in-Some.names start c.args.parties.now c.places_of.result are c.places_of.ensures)
