use Rattle.std.proofs.Common.{refl}
use Rattle.dex_world.proofs.Common.{row_of}
use Rattle.dex_turns.proofs.Entering.{at-place, home-at, may-call}
use Rattle.dex_turns.proofs.Exchanging.{idle-below}
use Rattle.dex_turns.proofs.LegTurns.{one-grown, one-leave}
use Rattle.dex_turns.proofs.Rising.{row-rising}
use Rattle.dex_turns.proofs.at.At.in_market.Goals as goal

pub take_at-market-requires-clause-home : goal.take_at-market-requires-clause-home
take_at-market-requires-clause-home g c = home-at (at-place c.at-at.ensures.place c.requires.market) c.at-at.ensures.gate

pub take_at-market-requires-clause-rising : goal.take_at-market-requires-clause-rising
take_at-market-requires-clause-rising g c = idle-below c.at-at.result.gate.now c.args.markets.now.items c.requires.idle

pub with_wallets-made-requires-clause-rising : goal.with_wallets-made-requires-clause-rising
with_wallets-made-requires-clause-rising g c = row-rising (row_of c.args.item.now.row.now)

pub with_wallets-made-requires-clause-ready : goal.with_wallets-made-requires-clause-ready
with_wallets-made-requires-clause-ready g c = may-call (at-place c.at-at.ensures.place c.requires.market) c.at-at.ensures.gate c.take_at-market.ensures.out.taken

pub leave_at-requires : goal.leave_at-requires
leave_at-requires g c =
    one-leave (at-place c.at-at.ensures.place c.requires.market) c.at-at.ensures.gate c.take_at-market.ensures.out c.take_at-market.ensures.away
    c.with_wallets-made.ensures.did.market refl

pub returns-clause-markets : goal.returns-clause-markets
returns-clause-markets g c =
    one-grown (at-place c.at-at.ensures.place c.requires.market) c.at-at.ensures.gate c.take_at-market.ensures.out c.take_at-market.ensures.away
    c.with_wallets-made.ensures.did.market refl c.requires.bank c.requires.markets c.leave_at.new.passes.items c.leave_at.ensures.left c.leave_at.ensures.seen
