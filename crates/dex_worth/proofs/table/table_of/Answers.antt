use Rattle.std.proofs.Common.{ℕ, suc, ◌+◌, ◌≡◌, ◌<◌, ◌++◌, List, [], length, get_or, take, subst, sym, ap, ◌∙◌, arith}
use Rattle.std.proofs.lemmas.List.{get_or-map, length-map, take_all}
use Rattle.dex_types.specs.Accounts.{PlainMarketAccounts, market_accounts_of}
use Rattle.dex_state.specs.Outcomes.{PlainMarketJournal}
use Rattle.dex_replay.specs.WorthTold.{PlainWorthRow, rows_told, tables_told}
use Rattle.dex_worth.specs.declared.ledger.Ledger.{Ledger}
use Rattle.dex_worth.specs.Ledgers.{IsLedgerOf}
use Rattle.dex_worth.proofs.Lists.{at-same}
use Rattle.dex_worth.proofs.Outcomes.{all-pay, journals-long, same-markets, tables-more}
use Rattle.dex_worth.proofs.table.table_of.Goals as goal

pub loop-place-preserved : goal.loop-place-preserved
loop-place-preserved c = λ script outcome lawful same are.
    let place : ℕ = c.loop-place.place in
    let markets : List PlainMarketAccounts = outcome.accounts.markets in
    let ledger : Ledger = c.index-ledgers-place.result in
    let last : PlainMarketAccounts = market_accounts_of c.index-lasts-place.result in
    let nothing : PlainMarketJournal = record { address = last.address; entries = [] } in
    let journal : PlainMarketJournal = get_or outcome.markets place nothing in
    let lt : place < length c.args.ledgers.now = omega (arith, c.loop-place-test.true, c.min-count.ensures) in
    let within : place < length markets = omega (arith, lt, are.long) in
    let at : get_or markets place last ≡ last =
    ap (λ (all : List PlainMarketAccounts). get_or all place last) (sym same)
    ∙ get_or-map market_accounts_of c.args.lasts.now place c.index-lasts-place.result last (omega (arith, c.loop-place-test.true, c.min-count.ensures))
    ∙ ap market_accounts_of (sym c.index-lasts-place.is) in
    let is : IsLedgerOf script ledger last journal =
    subst (λ (one : Ledger). IsLedgerOf script one last journal) (sym c.index-ledgers-place.is)
    (subst (λ (market : PlainMarketAccounts). IsLedgerOf script (get_or c.args.ledgers.now place ledger) market journal) at (are.are place ledger last nothing lt)) in
    let address =
    ap (λ (market : PlainMarketAccounts). market.address) (sym at)
    ∙ at-same (λ (market : PlainMarketAccounts). market.address) (λ (one : PlainMarketJournal). one.address) markets outcome.markets place last nothing (same-markets script outcome lawful.start) within in
    let next : suc place ≡ place + 1 = omega arith in
    c.in_ok-add_market.ensures script journal is address
    ∙ ap (λ (rows : List PlainWorthRow). rows ++ rows_told script last journal) (c.loop-place.invariant script outcome lawful same are)
    ∙ ap (λ (market : PlainMarketAccounts). tables_told script (take place markets) (take place outcome.markets) ++ rows_told script market journal) (sym at)
    ∙ sym (tables-more script markets outcome.markets place last nothing within (omega (arith, within, journals-long script outcome lawful.start)))
    ∙ ap (λ (n : ℕ). tables_told script (take n markets) (take n outcome.markets)) next

pub returns-clause-told : goal.returns-clause-told
returns-clause-told c = λ script outcome lawful same are.
    let markets : List PlainMarketAccounts = outcome.accounts.markets in
    let done : length markets ≡ c.loop-place.place =
    omega (arith, c.loop-place-test.false, c.loop-place.auto.place-end, c.min-count.ensures, are.long, ap (λ (all : List PlainMarketAccounts). length all) same, length-map c.args.lasts.now market_accounts_of) in
    c.loop-place.invariant script outcome lawful same are
    ∙ ap (λ (some : List PlainMarketAccounts). tables_told script some (take c.loop-place.place outcome.markets)) (take_all c.loop-place.place markets (omega (arith, done)))
    ∙ ap (tables_told script markets) (take_all c.loop-place.place outcome.markets (omega (arith, done, journals-long script outcome lawful.start)))

pub returns-clause-paid_at_once : goal.returns-clause-paid_at_once
returns-clause-paid_at_once c = λ script outcome is lawful same. all-pay script is outcome lawful (c.an_entry_tells_its_call.ensures.outcome script is outcome lawful)

pub returns-in_err-add_market-clause-paid_at_once : goal.returns-in_err-add_market-clause-paid_at_once
returns-in_err-add_market-clause-paid_at_once c = λ script outcome is lawful same. all-pay script is outcome lawful (c.an_entry_tells_its_call.ensures.outcome script is outcome lawful)
