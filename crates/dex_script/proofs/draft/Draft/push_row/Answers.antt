use Rattle.std.proofs.Common.{◌∙◌, List, map, subst, sym}
use Rattle.std.proofs.lemmas.List.{map-append}
use Rattle.dex_types.specs.Rows.{PlainRow, row_of}
use Rattle.dex_script_types.specs.Places.{AreBeside, ArePlaced}
use Rattle.dex_script.specs.Telling.{start_of}
use Rattle.dex_script.proofs.FaultLaws.{differ}
use Rattle.dex_script.proofs.draft.Draft.push_row.Goals as goal

pub returns-clause-reading : goal.returns-clause-reading
returns-clause-reading c =
    let self = c.args.self.now in
    let start = start_of self.start in
    let front = map row_of self.before in
    let were = map-append row_of self.before self.rows.items in
    let are = map-append row_of self.before c.push_placed.new.rows.items in
    record {
      placed =
          subst (λ (rows : List PlainRow). ArePlaced start rows c.push_placed.new.places.items) (sym are)
          (c.push_placed.ensures.placed start front c.requires.at
          (subst (λ (rows : List PlainRow). ArePlaced start rows c.args.places.now.items) were c.requires.reading.placed));
      beside =
          subst (λ (rows : List PlainRow). AreBeside rows c.push_placed.new.places.items) (sym are)
          (c.push_placed.ensures.beside start front c.requires.at
          (subst (λ (rows : List PlainRow). AreBeside rows c.args.places.now.items) were c.requires.reading.beside));
      quiet = λ early. absurd (differ (sym c.requires.late ∙ early));
      few = c.requires.reading.few;
    }
