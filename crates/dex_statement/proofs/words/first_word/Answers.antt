use Rattle.std.proofs.Common.{◌∙◌, sym}
use Rattle.dex_statement.proofs.WordLaws.{behind_shorter, cut_behind, uncut}
use Rattle.dex_statement.proofs.words.first_word.Goals as goal

pub returns-in-None-clause-words : goal.returns-in-None-clause-words
returns-in-None-clause-words c = uncut _ c.args.field.now (sym c.first_space.ensures ∙ c.in-None.is)

pub returns-in-Some : goal.returns-in-Some
returns-in-Some c =
    let found = sym c.first_space.ensures ∙ c.in-Some.is in
    record {
      words = cut_behind _ c.args.field.now c.in-Some.place found;
      shorter = behind_shorter _ c.args.field.now c.in-Some.place found;
    }
