use Rattle.std.proofs.Common.{◌≡◌, ◌∙◌, Some, ap, refl, sym}
use Rattle.dex_script.specs.Drafts.{PlainDraft}
use Rattle.dex_script.specs.Rows.{with_instruction}
use Rattle.dex_script.specs.Telling.{draft_of, start_of}
use Rattle.dex_script.proofs.NameLaws.{found-in, known-in, unknown-in}
use Rattle.dex_script.proofs.reader.Reader.add_instruction.Goals as goal

pub add_known-requires-clause-at : goal.add_known-requires-clause-at
add_known-requires-clause-at c =
    let start = c.args.self.now.script.start in
    let same : start_of c.self.inside.draft.start ≡ start = ap (λ (d : PlainDraft). d.script.start) (c.self.view_is ∙ c.in_ok-at.ensures.same) in
    found-in start _ c.args.words.now _ _ (Some c.in-Some.at) same
    c.words.view_is c.in-Some.is c.in_ok-at.ensures.places

pub returns-in-Some : goal.returns-in-Some
unfolding with_instruction
returns-in-Some c =
    let start = c.args.self.now.script.start in
    let same : draft_of c.self.inside.draft ≡ c.args.self.now = c.self.view_is ∙ c.in_ok-at.ensures.same in
    let found = known-in start start c.args.words.now _ _ c.in-Some.at refl c.words.view_is c.in-Some.is c.in_ok-at.ensures.places in
    rw (found, sym same) c.add_known.ensures.row

pub returns-in-None : goal.returns-in-None
unfolding with_instruction
returns-in-None c =
    let start = c.args.self.now.script.start in
    let none = unknown-in start start c.args.words.now _ _ refl c.words.view_is c.in-None.is c.in_ok-at.ensures.places in
    (rw none refl, c.in_ok-at.ensures.same)
