use Rattle.std.proofs.Common.{◌≡◌, ◌∙◌, ◌<◌, List, get_or, length, map, ap, sym, subst, arith}
use Rattle.std.specs.List.{All}
use Rattle.std.proofs.lemmas.List.{get_or-map, length-map}
use Rattle.std.proofs.lemmas.List.Elements.{All-get_or}
use Rattle.dex_types.specs.declared.account_bytes.MarketAccounts.{MarketAccounts}
use Rattle.dex_types.specs.Accounts.{PlainMarketAccounts, market_accounts_of}
use Rattle.dex_accounts.specs.Accepted.{IsAccepted}
use Rattle.dex_accounts.specs.Decoded.{AreSound}
use Rattle.dex_tests.proofs.beside.begin.Goals as goal

-- what holds of all of a script's markets holds of one
of-first : (P : PlainMarketAccounts → Type 0) (markets : List MarketAccounts) (first : MarketAccounts) → 0 < length markets → first ≡ get_or markets 0 first
    → All P (map market_accounts_of markets) → P (market_accounts_of first)
of-first P markets first some is all =
    let at : get_or (map market_accounts_of markets) 0 (market_accounts_of first) ≡ market_accounts_of first =
    get_or-map market_accounts_of markets 0 first (market_accounts_of first) some ∙ ap market_accounts_of (sym is) in
    subst P at (All-get_or P (map market_accounts_of markets) 0 (market_accounts_of first) (omega (arith, some, length-map markets market_accounts_of)) all)

pub new-requires-clause-accepted : goal.new-requires-clause-accepted
new-requires-clause-accepted c =
    of-first IsAccepted c.script.inside.start.markets.items c.index.result.now (omega (arith, c.if-len-eq0.false, c.len.ensures)) c.index.ensures
    c.script.invariant.0.start.accepted.markets

pub new-requires-clause-sound : goal.new-requires-clause-sound
new-requires-clause-sound c =
    of-first AreSound c.script.inside.start.markets.items c.index.result.now (omega (arith, c.if-len-eq0.false, c.len.ensures)) c.index.ensures
    c.script.invariant.0.start.sound
