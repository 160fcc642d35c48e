use Rattle.std.proofs.Common.{◌<◌, ◌+◌, ℕ, List, [], ◌∷◌, ◌++◌, get_or, length, map, below_more, sym, ap, ◌∙◌, subst, arith}
use Rattle.std.proofs.lemmas.List.{get_or-map, get_or_append_left, get_or_push, length_push}
use Rattle.dex_types.specs.Accounts.{PlainMarketAccounts, market_accounts_of}
use Rattle.dex_worth.specs.declared.ledger.Ledger.{Ledger}
use Rattle.dex_worth.specs.Ledgers.{Tells, owners_in}
use Rattle.dex_worth.proofs.ledger.ledgers_of.Goals as goal

pub loop-place-preserved : goal.loop-place-preserved
loop-place-preserved c =
    let place : ℕ = c.loop-place.place in
    let before : List Ledger = c.loop-place.ledgers.items in
    let next : Ledger = c.in_ok-of.field-0 in
    let markets : List PlainMarketAccounts = map market_accounts_of c.args.markets.now in
    let Blank : Ledger → PlainMarketAccounts → Type 0 = λ (ledger : Ledger) (market : PlainMarketAccounts). Tells ledger (owners_in market) [] in
    record {
      long = ap (λ (some : List Ledger). length some) c.in_ok-push.ensures.items ∙ length_push before next ∙ ap (λ (n : ℕ). n + 1) c.loop-place.invariant.long;
      blank = subst (λ (some : List Ledger). (k : ℕ) (ledger : Ledger) (market : PlainMarketAccounts) → k < place + 1 → Blank (get_or some k ledger) (get_or markets k market))
          (sym c.in_ok-push.ensures.items)
          (λ k ledger market. below_more (λ (n : ℕ). Blank (get_or (before ++ next ∷ []) n ledger) (get_or markets n market)) place
          (λ n lt. subst (λ (one : Ledger). Blank one (get_or markets n market)) (sym (get_or_append_left before (next ∷ []) ledger n (omega (arith, lt, c.loop-place.invariant.long))))
          (c.loop-place.invariant.blank n ledger market lt))
          (subst (λ (one : Ledger). Blank one (get_or markets place market)) (sym (get_or_push before next ledger place c.loop-place.invariant.long))
          (subst (Blank next)
          (sym (get_or-map market_accounts_of c.args.markets.now place c.index-markets-place.result market c.loop-place-test.true ∙ ap market_accounts_of (sym c.index-markets-place.is)))
          c.in_ok-of.ensures))
          k);
    }
