use Rattle.std.proofs.Common.{◌≡◌, length, Ok, map, sym, ap, ◌∙◌, subst, arith, rules}
use Rattle.std.proofs.lemmas.List.{length-map}
use Rattle.dex_types.specs.Accounts.{PlainMarketAccounts, orders_account_of}
use Rattle.dex_types.specs.Rows.{row_of}
use Rattle.dex_accounts.specs.Decoded.{AreSound, market_in}
use Rattle.dex_history.specs.Journal.{request_of, row_step}
use Rattle.dex_plan.specs.Plans.{decided}
use Rattle.dex_ring.specs.PendingFills.{pending_fills_of}
use Rattle.dex_step.specs.Acting.{accounts_with}
use Rattle.dex_index.proofs.AllLaws.{all-reached, stepped-all, stepped-indexed}
use Rattle.dex_index.proofs.applying.apply_apart.Goals as goal

pub apply_lent-requires-clause-sound : goal.apply_lent-requires-clause-sound
apply_lent-requires-clause-sound c =
    let a = c.args in
    let old = accounts_with a.address a.authority a.market.now a.coin_vault.now a.pc_vault.now a.requests.now a.events.now a.bids.now a.asks.now (map orders_account_of a.orders.now) in
    subst AreSound (sym (all-reached a.index.now old c.requires.indexed)) c.requires.sound

pub apply_lent-requires-clause-decided : goal.apply_lent-requires-clause-decided
apply_lent-requires-clause-decided c =
    let a = c.args in
    let old = accounts_with a.address a.authority a.market.now a.coin_vault.now a.pc_vault.now a.requests.now a.events.now a.bids.now a.asks.now (map orders_account_of a.orders.now) in
    subst (λ (p : PlainMarketAccounts). Ok a.plan.now ≡ decided (request_of (row_of a.row.now)) a.seen.now (market_in p))
    (sym (all-reached a.index.now old c.requires.indexed)) c.requires.decided

pub apply_lent-requires-clause-pending : goal.apply_lent-requires-clause-pending
apply_lent-requires-clause-pending c =
    let a = c.args in
    let old = accounts_with a.address a.authority a.market.now a.coin_vault.now a.pc_vault.now a.requests.now a.events.now a.bids.now a.asks.now (map orders_account_of a.orders.now) in
    c.requires.pending ∙ ap (λ (p : PlainMarketAccounts). pending_fills_of (market_in p).events) (sym (all-reached a.index.now old c.requires.indexed))

pub returns-clause-stepped : goal.returns-clause-stepped
returns-clause-stepped c =
    let a = c.args in
    let n = c.apply_lent.new in
    let old = accounts_with a.address a.authority a.market.now a.coin_vault.now a.pc_vault.now a.requests.now a.events.now a.bids.now a.asks.now (map orders_account_of a.orders.now) in
    let new = accounts_with a.address a.authority n.market n.coin_vault n.pc_vault n.requests n.events n.bids n.asks (map orders_account_of n.orders.accounts.now) in
    let did =
    stepped-all a.index.now n.orders.index.now old new c.apply_lent.result n.pending (row_step (row_of a.row.now) a.seen.now) c.requires.indexed
    (omega (arith, (let many : length n.orders.accounts.now ≡ length a.orders.now = search rules in many), length-map n.orders.accounts.now orders_account_of, length-map a.orders.now orders_account_of)) c.apply_lent.ensures.stepped in
    search (rules, did)

pub returns-clause-indexed : goal.returns-clause-indexed
returns-clause-indexed c =
    let a = c.args in
    let n = c.apply_lent.new in
    let old = accounts_with a.address a.authority a.market.now a.coin_vault.now a.pc_vault.now a.requests.now a.events.now a.bids.now a.asks.now (map orders_account_of a.orders.now) in
    let new = accounts_with a.address a.authority n.market n.coin_vault n.pc_vault n.requests n.events n.bids n.asks (map orders_account_of n.orders.accounts.now) in
    let did =
    stepped-indexed a.index.now n.orders.index.now old new c.apply_lent.result n.pending (row_step (row_of a.row.now) a.seen.now) c.requires.indexed
    (omega (arith, (let many : length n.orders.accounts.now ≡ length a.orders.now = search rules in many), length-map n.orders.accounts.now orders_account_of, length-map a.orders.now orders_account_of)) c.apply_lent.ensures.stepped in
    search (rules, did)
