use Rattle.std.proofs.Common.{◌≡◌, ◌++◌, List, drop, length, map, take, subst, sym, ap, ◌∙◌, arith}
use Rattle.std.proofs.lemmas.Grind.{common_steps, elements, moves, pieces}
use Rattle.dex_state.specs.Outcomes.{PlainMarketJournal, market_journal_of}
use Rattle.dex_parts.specs.Chains.{outcome_behind}
use Rattle.dex_worth.specs.declared.ledger.Ledger.{Ledger}
use Rattle.dex_worth.specs.Ledgers.{AreTaken}
use Rattle.dex_commands.specs.Worths.{HasHeard}
use Rattle.dex_commands.proofs.PartWorths.{heard-next}
use Rattle.dex_commands.proofs.worth.WorthsListener.hear.Goals as goal

pub returns : goal.returns
returns c = λ before part whole left outcome next rows markets wallets heard.
    let old : List Ledger = c.args.self.now.ledgers.items in
    let new : List Ledger = c.take_journals.new.ledgers in
    let is : take c.args.self.now.ledgers.len (new ++ drop (length new) old) ≡ new = grind (arith, common_steps, elements, moves, pieces) in
    let taken : AreTaken part old outcome.markets new =
    subst (λ (some : List Ledger). AreTaken part some outcome.markets new) c.deref_mut.ensures.value
    (subst (λ (journals : List PlainMarketJournal). AreTaken part c.deref_mut.result.now journals new) (ap (map market_journal_of) c.deref.ensures.value ∙ markets) (c.take_journals.ensures part rows)) in
    subst (λ (some : List Ledger). HasHeard some whole (outcome_behind left outcome)) (sym is)
    (heard-next before part whole left outcome next (c.an_entry_tells_its_call.ensures.outcome part next.is_script outcome next.run.lawful) old new heard taken)
