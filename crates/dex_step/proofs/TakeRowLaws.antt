-- A take over a sound market's accounts: that it can be done as it was decided, and that what it leaves is the step's.
use Rattle.std.proofs.Common.{◌≡◌, ℕ, ◌+◌, ◌-◌, List, refl, sym, ap, ◌∙◌, subst, arith}
use Rattle.dex_types.specs.declared.replies.Reply.{Reply}
use Rattle.dex_types.specs.declared.terms.Side.{Side}
use Rattle.dex_types.specs.declared.terms.Side.TheVariants.{Bid, Ask}
use Rattle.dex_types.specs.Accounts.{PlainMarketAccounts}
use Rattle.dex_types.specs.Market.{Market, orders}
use Rattle.dex_types.specs.Meeting.{Meeting}
use Rattle.dex_types.specs.Side.{Coin, Pc, by_side, opposite}
use Rattle.dex_types.specs.Soundness.{IsSound}
use Rattle.dex_types.specs.Take.{Take, after_take, take_demand, take_got, take_meeting, take_paid, take_reply, take_terms}
use Rattle.dex_laws.proofs.MovedLaws.{meet-moved_le}
use Rattle.dex_accounts.specs.Decoded.{AreSound, market_in}
use Rattle.dex_accounts.specs.Parts.{AreOf, parts_of}
use Rattle.dex_match.specs.declared.order_terms.Taker.{Taker}
use Rattle.dex_ring.specs.declared.pending_fills.PendingFills.{PendingFills}
use Rattle.dex_ring.specs.Appended.{appended}
use Rattle.dex_ring.specs.Ring.{ring_of}
use Rattle.dex_slab.specs.Slab.{resting, room_in}
use Rattle.dex_slab.specs.StandsFor.{IsSideAccount}
use Rattle.dex_take.specs.declared.plan.TakePlan.{TakePlan}
use Rattle.dex_take.specs.Taken.{IsDone, met_in, reply_in, taken}
use Rattle.dex_take.specs.TakeGiven.{TakeGiven, TakeRead, read_of, take_given, with_taken}
use Rattle.dex_take.specs.TakeTerms.{bare_take, take_of}
use Rattle.dex_take.specs.Taking.{IsDecided, meeting_in, plan_by, plan_in}
use Rattle.dex_take.proofs.TakeAmounts.{IsGivenOf, bare-plan, given-of, read-of}
use Rattle.dex_take.proofs.TakeLeaves.{after-put}
use Rattle.dex_take.proofs.TakeReasons.{reason-given}
use Rattle.dex_step.specs.Acting.{CanExchange, HasStepped, HaveExchanged, bytes_on, coin_held, pc_held}
use Rattle.dex_step.specs.TakeActs.{CanTake, HasTaken, KeepsRest, take_bytes_of, taken_of}
use Rattle.dex_step.specs.TakeRows.{IsTakeDecided, take_step}
use Rattle.dex_step.proofs.SteppedLaws.{leaves-stepped}
use Rattle.dex_step.proofs.SoundParts.{both-sides, coin-fits, coin-held, names-same, pc-fits, pc-held, same-parts, sound-are, sound-on, sound-parts}

-- what a take of the side is given of a market's parts is what it is given by their bytes
pub given-bytes : (side : Side) (accounts : PlainMarketAccounts) → take_given side (parts_of accounts) ≡ taken_of side (take_bytes_of side accounts)
given-bytes Bid accounts = refl
given-bytes Ask accounts = refl

-- what a take pays fits its vault, and what it gets is in the other
exchanges : (side : Side) (t : Take) (accounts : PlainMarketAccounts) → AreSound accounts →
    let m = market_in accounts in
    let met = take_meeting side m.listing.sizes t (orders (opposite side) m) in
    IsSound (after_take side t met m) → CanExchange side (take_paid side m.listing.sizes t met) (take_got side m.listing.sizes t met) accounts
exchanges Bid t accounts sound after =
    let m = market_in accounts in
    let met = take_meeting Bid m.listing.sizes t m.asks in
    record {
      takes_in = record {
        coin = sound.stands.coin_vault.accepted;
        pc = sound.stands.pc_vault.accepted;
        fits = omega (arith, pc-held accounts sound, pc-fits (after_take Bid t met m) after);
      };
      held = omega (
        arith,
        coin-held accounts sound,
        sound.sound.funds.solvent.vaults Coin,
        meet-moved_le Bid (take_terms m.listing.sizes t) (take_demand Bid m.listing.sizes t) m.asks,
      );
    }
exchanges Ask t accounts sound after =
    let m = market_in accounts in
    let met = take_meeting Ask m.listing.sizes t m.bids in
    record {
      takes_in = record {
        coin = sound.stands.coin_vault.accepted;
        pc = sound.stands.pc_vault.accepted;
        fits = omega (arith, coin-held accounts sound, coin-fits (after_take Ask t met m) after);
      };
      held = omega (
        arith,
        pc-held accounts sound,
        sound.sound.funds.solvent.vaults Pc,
        meet-moved_le Ask (take_terms m.listing.sizes t) (take_demand Ask m.listing.sizes t) m.bids,
      );
    }

-- the parts after a take are those before, with what it left put back
parts-left : (side : Side) (before after : PlainMarketAccounts) → KeepsRest side before after
    → room_in (bytes_on (opposite side) after) ≡ room_in (bytes_on (opposite side) before)
    → parts_of after ≡ with_taken side (taken_of side (take_bytes_of side after)) (parts_of before)
parts-left Bid before after rest met =
    same-parts _ _ _ _ _ _ _ _ _ _ _ _ _ _ _ _ refl rest.requests refl (ap (resting Bid) rest.own) (ap room_in rest.own) refl met rest.orders
parts-left Ask before after rest met =
    same-parts _ _ _ _ _ _ _ _ _ _ _ _ _ _ _ _ refl rest.requests refl refl met (ap (resting Ask) rest.own) (ap room_in rest.own) rest.orders

-- what the vaults hold after a take
coin-after : (side : Side) (t : Take) (met : Meeting) (m : Market) (held paid got : ℕ) → held ≡ m.coin_vault → paid ≡ take_paid side m.listing.sizes t met
    → got ≡ take_got side m.listing.sizes t met → (after_take side t met m).coin_vault ≡ held + by_side side 0 paid - by_side side got 0
coin-after Bid t met m held paid got a b c = rw (a, c) (omega arith)
coin-after Ask t met m held paid got a b c = rw (a, b) (omega arith)

pc-after : (side : Side) (t : Take) (met : Meeting) (m : Market) (held paid got : ℕ) → held ≡ m.pc_vault → paid ≡ take_paid side m.listing.sizes t met
    → got ≡ take_got side m.listing.sizes t met → (after_take side t met m).pc_vault ≡ held + by_side side paid 0 - by_side side 0 got
pc-after Bid t met m held paid got a b c = rw (a, b) (omega arith)
pc-after Ask t met m held paid got a b c = rw (a, c) (omega arith)

module _ (accounts : PlainMarketAccounts) (taker : Taker) (plan : TakePlan) (pending : PendingFills) (sound : AreSound accounts)
    (decided : IsTakeDecided taker plan pending (market_in accounts)) where
  given : IsGivenOf taker.id_side (take_given taker.id_side (parts_of accounts)) (market_in accounts)
  given = given-of taker.id_side (parts_of accounts) (market_in accounts) (sound-are accounts sound)

  abbrev met : Meeting
  met = take_meeting taker.id_side (market_in accounts).listing.sizes (bare_take taker) (orders (opposite taker.id_side) (market_in accounts))

  -- the plan is the same whatever it has to fill at least
  planned : plan ≡ plan_by taker.id_side (market_in accounts).listing.sizes (bare_take taker) met
  planned =
      decided.planned
      ∙ sym (bare-plan taker.id_side (market_in accounts).listing.sizes taker decided.min_lots decided.min_pc (orders (opposite taker.id_side) (market_in accounts)))

  is_decided : IsDecided plan taker (read_of (take_given taker.id_side (parts_of accounts)))
  is_decided = record {
    min_lots = decided.min_lots;
    min_pc = decided.min_pc;
    seen = decided.seen;
    accepted =
        reason-given taker.id_side (take_of taker decided.min_lots decided.min_pc) (take_given taker.id_side (parts_of accounts)) (market_in accounts) decided.seen
        sound.sound given
        ∙ decided.accepted;
    planned =
        decided.planned
        ∙ ap (λ (r : TakeRead). plan_in taker.id_side (take_of taker decided.min_lots decided.min_pc) r)
        (sym (read-of taker.id_side (take_given taker.id_side (parts_of accounts)) (market_in accounts) given));
  }

  -- it can be done
  pub take-can : CanTake plan taker (take_bytes_of taker.id_side accounts)
  take-can = record {
    met = sound-on accounts sound (opposite taker.id_side);
    given_is = record { whole = parts_of accounts; sound = sound-parts accounts sound; is = given-bytes taker.id_side accounts };
    decided = subst (λ (g : TakeGiven). IsDecided plan taker (read_of g)) (given-bytes taker.id_side accounts) is_decided;
  }

  pub take-fits : CanExchange taker.id_side plan.deposit plan.payout accounts
  take-fits =
      subst (λ (p : TakePlan). CanExchange taker.id_side p.deposit p.payout accounts) (sym planned)
      (exchanges taker.id_side (bare_take taker) accounts sound decided.sound)

  module _ (after : PlainMarketAccounts) (reply : Reply) (done : HasTaken taker reply (take_bytes_of taker.id_side accounts) (take_bytes_of taker.id_side after))
      (vaults : HaveExchanged taker.id_side plan.deposit plan.payout accounts after) (rest : KeepsRest taker.id_side accounts after) where
    abbrev left : TakeGiven
    left = taken_of taker.id_side (take_bytes_of taker.id_side after)

    before_is : taken_of taker.id_side (take_bytes_of taker.id_side accounts) ≡ take_given taker.id_side (parts_of accounts)
    before_is = sym (given-bytes taker.id_side accounts)

    is_done : IsDone plan taker (take_given taker.id_side (parts_of accounts)) left
    is_done = record {
      decided = is_decided;
      does = done.does ∙ ap (taken taker) before_is;
      list = done.list ∙ ap (λ (g : TakeGiven). appended (met_in taker g).events (ring_of accounts.events)) before_is;
      market_accepted = done.market;
      events_accepted = done.queue;
    }

    are : AreOf (with_taken taker.id_side left (parts_of accounts)) (after_take taker.id_side (bare_take taker) met (market_in accounts))
    are = after-put plan taker 0 0 (parts_of accounts) left (market_in accounts) sound.sound (sound-are accounts sound) is_done

    replied : reply ≡ take_reply (bare_take taker) met
    replied =
        done.reply_is
        ∙ ap (reply_in taker) before_is
        ∙ ap (λ (r : TakeRead). take_reply (bare_take taker) (meeting_in taker.id_side (bare_take taker) r))
        (read-of taker.id_side (take_given taker.id_side (parts_of accounts)) (market_in accounts) given)

    pub take-stepped : HasStepped accounts after reply pending (take_step taker (market_in accounts))
    take-stepped =
        let m = market_in accounts in
        let sides = both-sides taker.id_side after (subst (λ (b : List ℕ). IsSideAccount taker.id_side b) (sym rest.own) (sound-on accounts sound taker.id_side)) done.met in
        let paid : plan.deposit ≡ take_paid taker.id_side m.listing.sizes (bare_take taker) met = ap (λ (p : TakePlan). p.deposit) planned in
        let got : plan.payout ≡ take_got taker.id_side m.listing.sizes (bare_take taker) met = ap (λ (p : TakePlan). p.payout) planned in
        leaves-stepped accounts after (with_taken taker.id_side left (parts_of accounts)) _ _ reply pending _ sound decided.sound
        (record {
          vaults = vaults;
          parts_are = parts-left taker.id_side accounts after rest done.room;
          bids = sides.0;
          asks = sides.1;
          names = names-same accounts.address accounts.orders after.orders rest.orders;
        })
        are refl
        (coin-after taker.id_side (bare_take taker) met m (coin_held accounts) plan.deposit plan.payout (coin-held accounts sound) paid got)
        (pc-after taker.id_side (bare_take taker) met m (pc_held accounts) plan.deposit plan.payout (pc-held accounts sound) paid got)
        replied
        decided.sums
