use Rattle.std.proofs.Common.{◌≡◌, ◌∙◌, List, Some, None, ap, arith, sym}
use Rattle.std.specs.List.{position}
use Rattle.dex_types.specs.declared.account_bytes.MarketAccounts.{MarketAccounts}
use Rattle.dex_types.specs.Accounts.{market_accounts_of}
use Rattle.dex_types.specs.Addresses.{is_same}
use Rattle.dex_desk.specs.Books.{found_market}
use Rattle.dex_desk.specs.Blocks.{PlainBlock}
use Rattle.dex_desk.proofs.BlockLaws.{accepted-there, market-there, market-not-there, place-within}
use Rattle.dex_desk.proofs.block.Block.market.Goals as goal

pub index-requires : goal.index-requires
index-requires c =
    let markets = c.deref.result.now in
    let within = place-within (λ (accounts : MarketAccounts). is_same c.args.address accounts.address) markets c.in-Some.place (sym c.place_of_market.ensures ∙ c.in-Some.is) in
    omega (arith, within, c.deref.ensures.len)

pub returns-in-Some-clause-found : goal.returns-in-Some-clause-found
returns-in-Some-clause-found c =
    let address = c.args.address in
    let markets = c.self.inside.start.markets.items in
    let place = c.in-Some.place in
    let found : position (λ (accounts : MarketAccounts). is_same address accounts.address) markets ≡ Some place =
    ap (λ (l : List MarketAccounts). position (λ (accounts : MarketAccounts). is_same address accounts.address) l) (sym c.deref.ensures.value)
    ∙ sym c.place_of_market.ensures ∙ c.in-Some.is in
    sym (ap (λ (b : PlainBlock). found_market address b.draft.script.start.markets) (sym c.self.view_is)
    ∙ market-there address markets place c.index.result.now found
    ∙ ap (λ (m : MarketAccounts). Some (market_accounts_of m)) (sym c.index.ensures))

pub returns-in-Some-clause-accepted : goal.returns-in-Some-clause-accepted
returns-in-Some-clause-accepted c =
    let markets = c.self.inside.start.markets.items in
    let place = c.in-Some.place in
    let found : position (λ (accounts : MarketAccounts). is_same c.args.address accounts.address) markets ≡ Some place =
    ap (λ (l : List MarketAccounts). position (λ (accounts : MarketAccounts). is_same c.args.address accounts.address) l) (sym c.deref.ensures.value)
    ∙ sym c.place_of_market.ensures ∙ c.in-Some.is in
    accepted-there markets place c.index.result.now c.self.invariant.block.start.accepted.markets
    (place-within (λ (accounts : MarketAccounts). is_same c.args.address accounts.address) markets place found) c.index.ensures

pub returns-in-None-clause-found : goal.returns-in-None-clause-found
returns-in-None-clause-found c =
    let address = c.args.address in
    let markets = c.self.inside.start.markets.items in
    let none : position (λ (accounts : MarketAccounts). is_same address accounts.address) markets ≡ None =
    ap (λ (l : List MarketAccounts). position (λ (accounts : MarketAccounts). is_same address accounts.address) l) (sym c.deref.ensures.value)
    ∙ sym c.place_of_market.ensures ∙ c.in-None.is in
    sym (ap (λ (b : PlainBlock). found_market address b.draft.script.start.markets) (sym c.self.view_is) ∙ market-not-there address markets none)
