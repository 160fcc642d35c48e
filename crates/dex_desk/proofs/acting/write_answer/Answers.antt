use Rattle.std.proofs.Common.{◌≡◌, ◌∙◌, ◌++◌, ℕ, List, [], OnOk, Option, Some, ap, get_or, subst, sym}
use Rattle.std.proofs.lemmas.List.{append-nil}
use Rattle.dex_types.specs.declared.movements.Entry.{Entry}
use Rattle.dex_types.specs.Rows.{row_of}
use Rattle.dex_state.specs.declared.outcome.MarketJournal.{MarketJournal}
use Rattle.dex_desk.specs.Replies.{entry_of, line_told}
use Rattle.dex_desk.proofs.AnswerLaws.{entry-found, entry-none, journal-found, no-journal}
use Rattle.dex_desk.proofs.acting.write_answer.Goals as goal

-- nothing is written
none : (text answer : List ℕ) → answer ≡ [] → text ≡ text ++ answer
none text answer is = sym (append-nil text) ∙ ap (λ (l : List ℕ). text ++ l) (sym is)

pub returns-in_default : goal.returns-in_default
returns-in_default c =
    none c.args.text.now.items _ (no-journal c.args.journals.now (row_of c.args.row.now) (sym c.place_of_journal.ensures ∙ c.in_default.is))

pub returns-in_default-place_of_entry : goal.returns-in_default-place_of_entry
returns-in_default-place_of_entry c =
    let row = row_of c.args.row.now in
    let journal = c.index-journals-place.result in
    let here = journal-found c.args.journals.now row c.in-Some.place journal (sym c.place_of_journal.ensures ∙ c.in-Some.is) in
    let same = ap (λ (j : MarketJournal). line_told (Some (entry_of row.number j.entries.items))) (sym c.index-journals-place.is) in
    let missing = ap (λ (e : Option Entry). line_told (Some e))
    (ap (entry_of row.number) (sym c.deref.ensures.value) ∙ entry-none c.deref.result.now row.number (sym c.place_of_entry.ensures ∙ c.in_default-place_of_entry.is)) in
    none c.args.text.now.items _ (here ∙ same ∙ missing)

pub returns : goal.returns
returns c =
    let row = row_of c.args.row.now in
    let journal = c.index-journals-place.result in
    let here = journal-found c.args.journals.now row c.in-Some.place journal (sym c.place_of_journal.ensures ∙ c.in-Some.is) in
    let same = ap (λ (j : MarketJournal). line_told (Some (entry_of row.number j.entries.items))) (sym c.index-journals-place.is) in
    let found = ap (λ (e : Option Entry). line_told (Some e))
    (ap (entry_of row.number) (sym c.deref.ensures.value)
    ∙ entry-found c.deref.result.now row.number c.in-Some-place_of_entry.place c.index.result.now (sym c.place_of_entry.ensures ∙ c.in-Some-place_of_entry.is)
    ∙ ap (λ (e : Entry). Some e) (sym (c.index.ensures ∙ ap (λ (es : List Entry). get_or es c.in-Some-place_of_entry.place c.index.result.now) (sym c.deref.ensures.value)))) in
    subst (λ (l : List ℕ). OnOk c.write_entry.result (c.write_entry.new.text.items ≡ c.args.text.now.items ++ l)) (sym (here ∙ same ∙ found)) c.write_entry.ensures.text
