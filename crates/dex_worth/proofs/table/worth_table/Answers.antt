use Rattle.std.proofs.Common.{◌≡◌, List, map, subst, sym, ap, ◌∙◌, arith}
use Rattle.std.specs.List.{All}
use Rattle.std.proofs.lemmas.Grind.{common_steps, elements, moves, pieces}
use Rattle.std.proofs.lemmas.Result.{IfOk-weaker}
use Rattle.dex_types.specs.declared.account_bytes.MarketAccounts.{MarketAccounts}
use Rattle.dex_types.specs.Accounts.{market_accounts_of}
use Rattle.dex_accounts.specs.Accepted.{IsAccepted}
use Rattle.dex_state.specs.declared.outcome.MarketJournal.{MarketJournal}
use Rattle.dex_state.specs.Outcomes.{PlainOutcome, market_journal_of, outcome_of}
use Rattle.dex_worth.specs.declared.ledger.Ledger.{Ledger}
use Rattle.dex_worth.specs.Ledgers.{AreBlank, AreLedgersOf, AreTaken}
use Rattle.dex_worth.proofs.Markets.{accepted-at}
use Rattle.dex_worth.proofs.Outcomes.{all-pay, all-taken}
use Rattle.dex_worth.proofs.table.worth_table.Goals as goal

pub table_of-requires : goal.table_of-requires
table_of-requires c =
    subst (λ (markets : List MarketAccounts). All (λ (market : MarketAccounts). IsAccepted (market_accounts_of market)) markets) (sym c.deref-4.ensures.value)
    (accepted-at c.args.outcome.now.accounts.markets.items c.requires.accepted)

pub returns-clause-told : goal.returns-clause-told
returns-clause-told c =
    IfOk-weaker c.table_of.result _ _
    (λ table told script is are lawful.
    let outcome : PlainOutcome = outcome_of c.args.outcome.now in
    let new : List Ledger = c.take_journals.new.ledgers in
    let ledgers : c.deref-3.result.now ≡ new = c.deref-3.ensures.value ∙ grind (arith, common_steps, elements, moves, pieces) in
    told script outcome lawful (ap (map market_accounts_of) c.deref-4.ensures.value)
    (subst (λ (some : List Ledger). AreLedgersOf script some outcome) (sym ledgers)
    (all-taken script is outcome lawful (c.an_entry_tells_its_call.ensures.outcome script is outcome lawful) c.deref_mut.result.now new
    (subst (λ (some : List Ledger). AreBlank some outcome.accounts.markets) (sym c.deref_mut.ensures.value)
    (subst (λ (markets : List MarketAccounts). AreBlank c.in_ok-ledgers.ledgers.items (map market_accounts_of markets)) c.deref.ensures.value c.in_ok-ledgers.ensures))
    (subst (λ (journals : List MarketJournal). AreTaken script c.deref_mut.result.now (map market_journal_of journals) new) c.deref-2.ensures.value (c.take_journals.ensures script are)))))
    c.table_of.ensures.told

pub returns-clause-paid_at_once : goal.returns-clause-paid_at_once
returns-clause-paid_at_once c = λ script is lawful.
    all-pay script is (outcome_of c.args.outcome.now) lawful (c.an_entry_tells_its_call.ensures.outcome script is (outcome_of c.args.outcome.now) lawful)

pub returns-in_err-ledgers-clause-paid_at_once : goal.returns-in_err-ledgers-clause-paid_at_once
returns-in_err-ledgers-clause-paid_at_once c = λ script is lawful.
    all-pay script is (outcome_of c.args.outcome.now) lawful (c.an_entry_tells_its_call.ensures.outcome script is (outcome_of c.args.outcome.now) lawful)
