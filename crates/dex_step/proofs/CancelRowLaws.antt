-- A cancel over a sound market's accounts: that it can be done as it was decided, and that what it leaves is the
-- step's.
use Rattle.std.proofs.Common.{◌≡◌, ℕ, List, [], ◌∷◌, Option, Some, None, IsOk, length, rules, refl, sym, ap, ◌∙◌, subst, arith}
use Rattle.dex_types.specs.declared.addresses.Address.{Address}
use Rattle.dex_types.specs.declared.orders.Order.{Order}
use Rattle.dex_types.specs.declared.refusals.Refusal.{Refusal}
use Rattle.dex_types.specs.declared.replies.Reply.TheVariants.{Cancelled}
use Rattle.dex_types.specs.declared.terms.Lots.{Lots}
use Rattle.dex_types.specs.declared.terms.Side.TheVariants.{Bid, Ask}
use Rattle.dex_types.specs.Accounts.{PlainMarketAccounts}
use Rattle.dex_types.specs.Cancel.{CancelBy, RestingOrder, after_cancels, cancel_one, cancelled}
use Rattle.dex_types.specs.Market.{Market}
use Rattle.dex_types.specs.Owed.{leaving}
use Rattle.dex_types.specs.Reasons.{answered}
use Rattle.dex_types.specs.Side.{Token, Coin, Pc}
use Rattle.dex_types.specs.Solvency.{all_leaving}
use Rattle.dex_types.specs.Why.{why_cancelling}
use Rattle.dex_laws.proofs.TotalLaws.{total-append}
use Rattle.dex_accounts.specs.Decoded.{AreSound, market_in}
use Rattle.dex_accounts.specs.Owners.{bytes_at}
use Rattle.dex_accounts.specs.Parts.{AreOf, HasOpen, parts_of}
use Rattle.dex_cancel.specs.TakenOff.{CancelGiven, out_of, queue_of, with_outs}
use Rattle.dex_cancel.specs.Parts.{cancel_given, left_by, named_in, with_cancelled}
use Rattle.dex_cancel.proofs.TakenOffLaws.{market-left}
use Rattle.dex_cancel.proofs.MarketLaws.{AreOf-left, named-parts}
use Rattle.dex_market.specs.MarketAccount.{market_words, sizes_of}
use Rattle.dex_ring.specs.PendingFills.{pending_fills_of}
use Rattle.dex_ring.specs.Ring.{IsEventQueue, Ring, ring_of, room_of}
use Rattle.dex_slab.specs.Slab.{resting}
use Rattle.dex_step.specs.Acting.{HasStepped, HaveVaults, coin_held, pc_held}
use Rattle.dex_step.specs.FundBytes.{CanChange}
use Rattle.dex_step.specs.CancelActs.{CanCancel, HasCancelled, IsCancelDecided, cancel_bytes, cancel_bytes_of, cancel_step}
use Rattle.dex_step.proofs.OwnerParts.{OpenAt, open-at}
use Rattle.dex_step.proofs.SteppedLaws.{leaves-stepped}
use Rattle.dex_step.proofs.SoundParts.{coin-held, names-same, pc-held, same-parts, sound-are, sound-on, sound-parts}

-- what is not refused is Ok
ok-answered : {X : Type 0} (why : Option Refusal) (x : X) → why ≡ None → IsOk (answered why x)
ok-answered None x none = search rules
ok-answered (Some refusal) x none = absurd (cc)

-- an out takes nothing off a total
out-leaves : (token : Token) (sizes : Lots) (gone : RestingOrder) → leaving token (out_of sizes gone) ≡ 0
out-leaves Coin sizes gone = refl
out-leaves Pc sizes gone = refl

-- so cancels leave the sums
pub leaving-cancels : (token : Token) (gone : List RestingOrder) (m : Market) → all_leaving token (after_cancels gone m).events ≡ all_leaving token m.events
leaving-cancels token [] m = refl
leaving-cancels token (first ∷ gone) m =
    let rest = leaving-cancels token gone (cancel_one first m) in
    let one = total-append (leaving token) m.events (out_of m.listing.sizes first ∷ []) in
    let none = out-leaves token m.listing.sizes first in
    omega (arith, rest, one, none)

pub sums-cancels : (gone : List RestingOrder) (m : Market) → pending_fills_of m.events ≡ pending_fills_of (after_cancels gone m).events
sums-cancels gone m = rw (leaving-cancels Coin gone m, leaving-cancels Pc gone m) refl

module _ (accounts : PlainMarketAccounts) (by : CancelBy) (owner : Address) (sizes : Lots) (sound : AreSound accounts)
    (made : IsCancelDecided by owner (market_in accounts)) (sizes_is : sizes ≡ sizes_of (market_words accounts.market)) where
  reason : why_cancelling by owner (resting Bid accounts.bids) (resting Ask accounts.asks) (room_of (ring_of accounts.events)) ≡ None
  reason =
      ap (λ (l : List Order). why_cancelling by owner l (resting Ask accounts.asks) (room_of (ring_of accounts.events))) sound.stands.bids.orders
      ∙ ap (λ (l : List Order). why_cancelling by owner (market_in accounts).bids l (room_of (ring_of accounts.events))) sound.stands.asks.orders
      ∙ ap (λ (r : Ring). why_cancelling by owner (market_in accounts).bids (market_in accounts).asks (room_of r)) sound.stands.events.ring
      ∙ made.accepted

  -- the owner's account is there, and open
  at : OpenAt owner made.account accounts
  at = open-at owner made.account accounts sound made.known

  -- it can be done
  pub cancel-can : (held : List ℕ) → bytes_at owner accounts.orders ≡ Some held → CanCancel by owner held (cancel_bytes sizes accounts.bids accounts.asks accounts.events)
  cancel-can held found =
      let both : Some at.bytes ≡ Some held = sym at.has.found ∙ found in
      let same : at.bytes ≡ held = cc in
      let has : HasOpen owner held (parts_of accounts) = subst (λ (b : List ℕ). HasOpen owner b (parts_of accounts)) same at.has in
      subst (λ (l : Lots). CanCancel by owner held (cancel_bytes l accounts.bids accounts.asks accounts.events)) (sym sizes_is) (record {
        bids = sound-on accounts sound Bid;
        asks = sound-on accounts sound Ask;
        market = record { whole = parts_of accounts; sound = sound-parts accounts sound; has = has; is = refl };
        decided_is = ok-answered _ _ reason;
      })

  pub cancel-among : CanChange owner (λ account. CanCancel by owner account (cancel_bytes sizes accounts.bids accounts.asks accounts.events)) accounts.orders
  cancel-among = record { account = at.bytes; found = at.has.found; can = cancel-can at.bytes at.has.found }

  module _ (after : PlainMarketAccounts) (count : ℕ)
      (did : HasCancelled by owner count (cancel_bytes sizes accounts.bids accounts.asks accounts.events) (cancel_bytes sizes after.bids after.asks after.events))
      (vaults : HaveVaults accounts after (coin_held accounts) (pc_held accounts))
      (market : after.market ≡ accounts.market) (requests : after.requests ≡ accounts.requests) (orders : after.orders ≡ accounts.orders) where
    done : HasCancelled by owner count (cancel_bytes_of accounts) (cancel_bytes (sizes_of (market_words accounts.market)) after.bids after.asks after.events)
    done =
        subst (λ (l : Lots). HasCancelled by owner count (cancel_bytes l accounts.bids accounts.asks accounts.events) (cancel_bytes l after.bids after.asks after.events))
        sizes_is did

    abbrev gone : List RestingOrder
    gone = named_in by owner (cancel_given (parts_of accounts))

    abbrev left : CancelGiven
    left = left_by gone (cancel_given (parts_of accounts))

    named : gone ≡ cancelled by owner (market_in accounts).bids (market_in accounts).asks
    named = named-parts by owner (parts_of accounts) (market_in accounts) (sound-are accounts sound)

    queue_is : after.events ≡ left.queue
    queue_is = ap (λ (g : CancelGiven). g.queue) done.does

    are : AreOf (with_cancelled left (parts_of accounts)) (cancel_step by owner (market_in accounts)).market
    are =
        subst (λ (l : List RestingOrder). AreOf (with_cancelled left (parts_of accounts)) (after_cancels l (market_in accounts))) named
        (AreOf-left (parts_of accounts) (market_in accounts) gone (sound-are accounts sound)
        (subst IsEventQueue queue_is done.queue)
        (subst (λ (b : List ℕ). ring_of b ≡ (with_outs (sizes_of (market_words accounts.market)) gone (queue_of accounts.events)).list) queue_is done.list))

    parts_is : parts_of after ≡ with_cancelled left (parts_of accounts)
    parts_is =
        same-parts _ _ _ _ _ _ _ _ _ _ _ _ _ _ _ _ market requests queue_is
        (ap (λ (g : CancelGiven). g.bids) done.does) done.bid_room (ap (λ (g : CancelGiven). g.asks) done.does) done.ask_room orders

    pub cancel-stepped : HasStepped accounts after (Cancelled count) (pending_fills_of (market_in accounts).events) (cancel_step by owner (market_in accounts))
    cancel-stepped =
        let m = market_in accounts in
        let taken : List RestingOrder = cancelled by owner m.bids m.asks in
        let is = market-left taken m in
        leaves-stepped accounts after (with_cancelled left (parts_of accounts)) _ _ (Cancelled count) _ (cancel_step by owner m) sound made.sound
        (record {
          vaults = vaults;
          parts_are = parts_is;
          bids = done.bids;
          asks = done.asks;
          names = names-same accounts.address accounts.orders after.orders orders;
        })
        are
        (ap (λ (n : Market). n.listing) is)
        (ap (λ (n : Market). n.coin_vault) is ∙ sym (coin-held accounts sound))
        (ap (λ (n : Market). n.pc_vault) is ∙ sym (pc-held accounts sound))
        (ap (λ (x : ℕ). Cancelled x) (done.count_is ∙ ap length named))
        (sums-cancels taken m)
