use Rattle.std.proofs.Common.{◌<◌, ℕ, List, get_or, length, map, set, below_more, sym, ap, ◌∙◌, subst, arith}
use Rattle.std.proofs.lemmas.List.{get_or-map, get_or-set_other, get_or-set_same, get_or_default, length-set}
use Rattle.dex_state.specs.Outcomes.{PlainMarketJournal, market_journal_of}
use Rattle.dex_worth.specs.declared.ledger.Ledger.{Ledger}
use Rattle.dex_worth.specs.Ledgers.{IsTaken}
use Rattle.dex_worth.proofs.ledger.take_journals.Goals as goal

pub loop-place-preserved : goal.loop-place-preserved
loop-place-preserved c =
    let place : ℕ = c.loop-place.place in
    let first : List Ledger = c.args.ledgers.now in
    let now : List Ledger = c.loop-place.ledgers in
    let here : Ledger = c.index-ledgers-place.result in
    let next : Ledger = c.take.new.self in
    let journals : List PlainMarketJournal = map market_journal_of c.args.journals.now in
    let lt : place < length now = omega (arith, c.loop-place-test.true, c.min-count.ensures, c.loop-place.invariant.long) in
    let within : place < length c.args.journals.now = omega (arith, c.loop-place-test.true, c.min-count.ensures) in
    record {
      long = length-set now place next ∙ c.loop-place.invariant.long;
      taken = λ script are k ledger journal.
          below_more (λ (n : ℕ). IsTaken script (get_or first n ledger) (get_or journals n journal) (get_or (set now place next) n ledger)) place
          (λ n less. subst (IsTaken script (get_or first n ledger) (get_or journals n journal)) (sym (get_or-set_other now place n next ledger (λ same. omega (arith, less, same))))
          (c.loop-place.invariant.taken script are n ledger journal less))
          (subst (IsTaken script (get_or first place ledger) (get_or journals place journal)) (sym (get_or-set_same now place next ledger lt))
          (subst (λ (old : Ledger). IsTaken script old (get_or journals place journal) next)
          (get_or_default now place here ledger lt ∙ c.loop-place.invariant.rest place ledger (omega arith))
          (subst (λ (one : PlainMarketJournal). IsTaken script (get_or now place here) one next)
          (sym (get_or-map market_journal_of c.args.journals.now place c.index-journals-place.result journal within ∙ ap market_journal_of (sym c.index-journals-place.is)))
          (c.take.ensures script are))))
          k;
      rest = λ k ledger le. get_or-set_other now place k next ledger (λ same. omega (arith, le, same)) ∙ c.loop-place.invariant.rest k ledger (omega (arith, le));
    }
