use Rattle.std.proofs.Common.{◌≡◌, ◌∙◌, Some, ap, refl, sym}
use Rattle.dex_script.specs.Drafts.{PlainDraft}
use Rattle.dex_script.specs.Rows.{with_two}
use Rattle.dex_script.specs.Telling.{draft_of}
use Rattle.dex_script.proofs.NameLaws.{found-in, known-in, unknown-in}
use Rattle.dex_script.proofs.reader.Reader.add_two.Goals as goal

pub add_legs-requires-clause-first : goal.add_legs-requires-clause-first
add_legs-requires-clause-first c =
    let same =
    ap (λ (d : PlainDraft). d.script.start)
    (c.self.view_is ∙ c.in_ok-second_at.ensures.same ∙ c.in_ok-first_at.ensures.same) in
    found-in c.args.self.now.script.start _ c.args.first.now _ _ (Some c.in-Some.first_at) same
    c.first.view_is c.in-Some.is c.in_ok-first_at.ensures.places

pub add_legs-requires-clause-second : goal.add_legs-requires-clause-second
add_legs-requires-clause-second c =
    let same = ap (λ (d : PlainDraft). d.script.start) (c.self.view_is ∙ c.in_ok-second_at.ensures.same) in
    found-in c.places_of.new.self.script.start _ c.args.second.now _ _ (Some c.in-Some-2.second_at) same
    c.second.view_is c.in-Some-2.is
    c.in_ok-second_at.ensures.places

pub returns-in_default : goal.returns-in_default
unfolding with_two
returns-in_default c =
    let start = c.args.self.now.script.start in
    let first = unknown-in start start c.args.first.now _ _ refl c.first.view_is c.in_default.is c.in_ok-first_at.ensures.places in
    (rw first refl, c.in_ok-first_at.ensures.same)

pub returns-in_default-2 : goal.returns-in_default-2
unfolding with_two
returns-in_default-2 c =
    let start = c.args.self.now.script.start in
    let same : c.places_of.new.self ≡ c.args.self.now = c.in_ok-first_at.ensures.same in
    let first = known-in start start c.args.first.now _ _ c.in-Some.first_at refl c.first.view_is c.in-Some.is c.in_ok-first_at.ensures.places in
    let second = unknown-in _ start c.args.second.now _ _ (ap (λ (d : PlainDraft). d.script.start) (sym same)) c.second.view_is c.in_default-2.is
    c.in_ok-second_at.ensures.places in
    (rw (first, second) refl, c.in_ok-second_at.ensures.same ∙ same)

pub returns : goal.returns
unfolding with_two
returns c =
    let start = c.args.self.now.script.start in
    let same : c.places_of.new.self ≡ c.args.self.now = c.in_ok-first_at.ensures.same in
    let both : draft_of c.self.inside.draft ≡ c.args.self.now = c.self.view_is ∙ c.in_ok-second_at.ensures.same ∙ same in
    let first = known-in start start c.args.first.now _ _ c.in-Some.first_at refl c.first.view_is c.in-Some.is c.in_ok-first_at.ensures.places in
    let second = known-in _ start c.args.second.now _ _ c.in-Some-2.second_at (ap (λ (d : PlainDraft). d.script.start) (sym same)) c.second.view_is
    c.in-Some-2.is c.in_ok-second_at.ensures.places in
    rw (first, second, sym both) c.add_legs.ensures.row
