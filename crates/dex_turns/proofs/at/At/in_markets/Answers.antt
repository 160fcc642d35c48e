use Rattle.std.proofs.Common.{◌≡◌, Bool, true, refl, sym, subst}
use Rattle.dex_world.proofs.Common.{Address, row_of}
use Rattle.dex_types.specs.Wallets.{is_lower}
use Rattle.dex_turns.specs.Submitted.{Where}
use Rattle.dex_turns.proofs.Entering.{at-place, home-at, market-is}
use Rattle.dex_turns.proofs.Exchanging.{one-lower}
use Rattle.dex_turns.proofs.LegTurns.{first-leave, markets-grown, may-call-both, places-differ, second-leave}
use Rattle.dex_turns.proofs.Rising.{legs-rising}
use Rattle.dex_turns.proofs.at.At.in_markets.Goals as goal

pub take_two-turns-requires-clause-apart : goal.take_two-turns-requires-clause-apart
take_two-turns-requires-clause-apart g c =
    places-differ c.requires.placed.legs (at-place c.at-one.ensures.place c.requires.first) (at-place c.at-two.ensures.place c.requires.second) c.at-one.result.gate.now.origin.start

pub take_two-turns-requires-clause-order : goal.take_two-turns-requires-clause-order
take_two-turns-requires-clause-order g c =
    let first = row_of c.args.legs.now.first.now in
    let second = row_of c.args.legs.now.second.now in
    let one_is = market-is (at-place c.at-one.ensures.place c.requires.first) c.at-one.ensures.gate in
    let two_is = market-is (at-place c.at-two.ensures.place c.requires.second) c.at-two.ensures.gate in
    subst (λ (x : Address). Where c.is_lower-in_order.result (is_lower x c.at-two.result.gate.now.origin.start.address ≡ true) (is_lower c.at-two.result.gate.now.origin.start.address x ≡ true)) (sym one_is)
    (subst (λ (y : Address). Where c.is_lower-in_order.result (is_lower first.market y ≡ true) (is_lower y first.market ≡ true)) (sym two_is)
    (subst (λ (lower : Bool). Where lower (is_lower first.market second.market ≡ true) (is_lower second.market first.market ≡ true)) (sym c.is_lower-in_order.ensures)
    (one-lower first.market second.market c.requires.placed.legs.apart.markets)))

pub take_two-turns-requires-clause-home : goal.take_two-turns-requires-clause-home
take_two-turns-requires-clause-home g c = home-at (at-place c.at-one.ensures.place c.requires.first) c.at-one.ensures.gate

pub take_two-turns-requires-clause-home_next : goal.take_two-turns-requires-clause-home_next
take_two-turns-requires-clause-home_next g c = home-at (at-place c.at-two.ensures.place c.requires.second) c.at-two.ensures.gate

pub with_wallets-made-requires-clause-rising : goal.with_wallets-made-requires-clause-rising
with_wallets-made-requires-clause-rising g c = legs-rising (row_of c.args.legs.now.first.now) (row_of c.args.legs.now.second.now)

pub with_wallets-made-requires-clause-ready : goal.with_wallets-made-requires-clause-ready
with_wallets-made-requires-clause-ready g c =
    may-call-both c.requires.placed.legs (at-place c.at-one.ensures.place c.requires.first) (at-place c.at-two.ensures.place c.requires.second) c.at-one.ensures.gate
    c.at-two.ensures.gate c.take_two-turns.ensures.out

pub leave_at-requires : goal.leave_at-requires
leave_at-requires g c =
    first-leave c.requires.placed.legs (at-place c.at-one.ensures.place c.requires.first) (at-place c.at-two.ensures.place c.requires.second) c.at-one.ensures.gate
    c.at-two.ensures.gate c.take_two-turns.ensures.out c.take_two-turns.ensures.away c.take_two-turns.ensures.away_next c.with_wallets-made.ensures.did.first
    c.with_wallets-made.ensures.did.second (refl, refl)

pub leave_at-requires-2 : goal.leave_at-requires-2
leave_at-requires-2 g c =
    second-leave c.requires.placed.legs (at-place c.at-one.ensures.place c.requires.first) (at-place c.at-two.ensures.place c.requires.second) c.at-one.ensures.gate
    c.at-two.ensures.gate c.take_two-turns.ensures.out c.take_two-turns.ensures.away c.take_two-turns.ensures.away_next c.with_wallets-made.ensures.did.first
    c.with_wallets-made.ensures.did.second (refl, refl) c.leave_at.ensures.left c.leave_at.ensures.seen

pub returns-clause-markets : goal.returns-clause-markets
returns-clause-markets g c =
    markets-grown c.requires.placed.legs (at-place c.at-one.ensures.place c.requires.first) (at-place c.at-two.ensures.place c.requires.second) c.at-one.ensures.gate
    c.at-two.ensures.gate c.take_two-turns.ensures.out c.take_two-turns.ensures.away c.take_two-turns.ensures.away_next c.with_wallets-made.ensures.did.first
    c.with_wallets-made.ensures.did.second (refl, refl) c.leave_at.ensures.left c.leave_at.ensures.seen c.requires.bank c.requires.markets c.leave_at-2.new.passes.items c.leave_at-2.ensures.left
    c.leave_at-2.ensures.seen
