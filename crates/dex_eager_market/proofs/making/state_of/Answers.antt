use Rattle.std.proofs.Common.{◌≤◌, ◌+◌, ◌∙◌, ap, sym, subst, arith}
use Rattle.std.specs.Vec.{vec_capacity}
use Rattle.dex_types.specs.Accounts.{market_accounts_of}
use Rattle.dex_accounts.specs.Decoded.{market_in}
use Rattle.dex_audit_rules.specs.Books.{PlainGathered}
use Rattle.dex_eager.specs.Slots.{without_slots}
use Rattle.dex_slab.specs.Slab.{IsSlab, room_in}
use Rattle.dex_eager_market.specs.declared.states.State.{State}
use Rattle.dex_eager_market.proofs.Starts.{IsStart, start-is, start-kept}
use Rattle.dex_eager_market.proofs.making.state_of.Goals as goal
use Rattle.dex_eager_market.proofs.making.state_of.Goals.{After-sizes_of}

pub room_of-bid_room-requires : goal.room_of-bid_room-requires
room_of-bid_room-requires c = subst IsSlab (sym c.deref.ensures.value) c.requires.accepted.bids.slab

pub room_of-ask_room-requires : goal.room_of-ask_room-requires
room_of-ask_room-requires c = subst IsSlab (sym c.deref-2.ensures.value) c.requires.accepted.asks.slab

-- the state, and that it is the start of the market
abbrev state : After-sizes_of → State
state c = record {
  sizes = c.sizes_of.result;
  bids = c.in_ok-bids.bids;
  asks = c.in_ok-asks.asks;
  till = record { next_sequence = c.sequence_of.result; accounts = c.in_ok-held_accounts.field-0; takings = c.takings_of.result };
  listed = c.in_ok-listed.listed;
}

starts : (c : After-sizes_of) → IsStart (market_in (market_accounts_of c.args.market.now)) (state c)
unfolding market_in
starts c = record {
  sizes = c.sizes_of.ensures;
  bid_room = c.in_ok-bids.ensures.room ∙ c.room_of-bid_room.ensures ∙ ap room_in c.deref.ensures.value;
  ask_room = c.in_ok-asks.ensures.room ∙ c.room_of-ask_room.ensures ∙ ap room_in c.deref-2.ensures.value;
  bids = c.in_ok-bids.ensures.orders ∙ ap without_slots (c.deref-3.ensures.value ∙ ap (λ (g : PlainGathered). g.bids) c.in_ok-gathered.ensures);
  asks = c.in_ok-asks.ensures.orders ∙ ap without_slots (c.deref-4.ensures.value ∙ ap (λ (g : PlainGathered). g.asks) c.in_ok-gathered.ensures);
  next = c.sequence_of.ensures;
  accounts = c.in_ok-held_accounts.ensures;
  takings = c.takings_of.ensures.value;
}

pub returns : goal.returns
returns c =
    let m = market_in (market_accounts_of c.args.market.now) in
    let here = (goal.at.returns c).After-sizes_of in
    let bids : c.in_ok-bids.bids.room ≤ vec_capacity c.in_ok-bids.bids.orders = omega (arith, c.in_ok-bids.ensures.room, c.in_ok-bids.ensures.reserved) in
    let asks : c.in_ok-asks.asks.room ≤ vec_capacity c.in_ok-asks.asks.orders = omega (arith, c.in_ok-asks.ensures.room, c.in_ok-asks.ensures.reserved) in
    let listed : c.in_ok-bids.bids.room + c.in_ok-asks.asks.room ≤ vec_capacity c.in_ok-listed.listed =
    omega (arith, c.in_ok-bids.ensures.room, c.in_ok-asks.ensures.room, c.in_ok-listed.ensures) in
    record {
      is = start-is m (state here) c.requires.sound (starts here);
      kept = start-kept m (state here) c.requires.sound (starts here) bids asks listed c.takings_of.ensures.small;
    }
