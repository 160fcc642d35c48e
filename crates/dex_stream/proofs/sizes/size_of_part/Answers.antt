use Rattle.std.proofs.Common.{arith, subst, sym}
use Rattle.dex_types.specs.declared.account_bytes.MarketAccounts.{MarketAccounts}
use Rattle.dex_types.specs.Accounts.{market_accounts_of}
use Rattle.dex_ring.specs.Ring.{IsEventQueue}
use Rattle.dex_accounts.specs.Accepted.{IsAccepted}
use Rattle.dex_world.proofs.MappedLists.{All-unmap}
use Rattle.dex_stream.proofs.sizes.size_of_part.Goals as goal

pub len-requires-in-loop-place : goal.len-requires-in-loop-place
len-requires-in-loop-place c =
    let markets = c.args.accounts.now.markets in
    let market = c.index-market.result.now in
    let is =
    All-unmap IsAccepted market_accounts_of markets.items c.requires.1.markets c.loop-place.place market (omega (arith, markets.ok.0)) in
    rw c.deref.ensures.value (subst (λ (m : MarketAccounts). IsEventQueue m.events.items) (sym c.index-market.ensures) is.events)
