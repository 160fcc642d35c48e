-- A new order over a sound market's accounts: that it can be done as it was decided, and that what it leaves is the
-- step's.
use Rattle.std.proofs.Common.{◌≡◌, ℕ, ◌+◌, ◌<◌, ◌^◌, List, Option, Some, None, refl, sym, ap, ◌∙◌, subst, arith}
use Rattle.dex_types.specs.declared.addresses.Address.{Address}
use Rattle.dex_types.specs.declared.replies.Reply.{Reply}
use Rattle.dex_types.specs.declared.terms.Side.{Side}
use Rattle.dex_types.specs.declared.terms.Side.TheVariants.{Bid, Ask}
use Rattle.dex_types.specs.Accounts.{PlainAccount, PlainMarketAccounts}
use Rattle.dex_types.specs.Market.{Market}
use Rattle.dex_types.specs.NewOrder.{NewOrder, Ordering, after_order, order_on, order_reply}
use Rattle.dex_types.specs.Requests.{open_party}
use Rattle.dex_types.specs.Side.{by_side, opposite}
use Rattle.dex_types.specs.Soundness.{IsSound}
use Rattle.dex_types.specs.Steps.{Step, by_party, ordered as step_ordered}
use Rattle.dex_types.specs.Trader.{Account, Trader}
use Rattle.dex_types.specs.Why.{order_reading, why_ordering}
use Rattle.dex_accounts.specs.Decoded.{AreSound, market_in}
use Rattle.dex_accounts.specs.Owners.{changed_at}
use Rattle.dex_accounts.specs.Parts.{AreOf, parts_of, with_account, with_side}
use Rattle.dex_match.specs.declared.order_plan.OrderPlan.{OrderPlan}
use Rattle.dex_match.specs.declared.order_terms.Taker.{Taker}
use Rattle.dex_match.specs.LentParts.{IsDone, events_in, ordered, reply_in, with_ordered}
use Rattle.dex_match.specs.OrderParts.{OrderGiven, order_given, parts_of as read_of}
use Rattle.dex_match.specs.OrderTerms.{order_of}
use Rattle.dex_match.specs.Ordering.{order_reason, ordering_in, plan_by}
use Rattle.dex_match.proofs.AfterLaws.{order-leaves}
use Rattle.dex_match.proofs.PartsLaws.{GivenOf, given-of, ordering-is, reason-is}
use Rattle.dex_ring.specs.declared.pending_fills.PendingFills.{PendingFills}
use Rattle.dex_ring.specs.Appended.{appended}
use Rattle.dex_ring.specs.Ring.{ring_of}
use Rattle.dex_slab.specs.Slab.{resting, room_in}
use Rattle.dex_step.specs.Acting.{CanTakeIn, HasStepped, HaveTakenIn, KeepNames, bytes_on, coin_held, pc_held}
use Rattle.dex_step.specs.OrderActs.{CanOrder, CanOrderAmong, HasOrderedAmong, OrderAccounts, among, among_of, bytes_with, given_of}
use Rattle.dex_step.specs.OrderRows.{IsOrderDecided, order_step}
use Rattle.dex_step.proofs.SteppedLaws.{leaves-stepped}
use Rattle.dex_step.proofs.OwnerParts.{OpenAt, names-changed, open-at, open-named}
use Rattle.dex_step.proofs.SoundParts.{both-sides, coin-fits, coin-held, pc-fits, pc-held, same-parts, sound-are, sound-on, sound-parts}

-- what an order of the side is given of a market's parts is what it is given by their bytes
pub given-bytes : (side : Side) (bytes : List ℕ) (accounts : PlainMarketAccounts) → order_given side bytes (parts_of accounts) ≡ given_of side (bytes_with bytes (among_of side accounts))
given-bytes Bid bytes accounts = refl
given-bytes Ask bytes accounts = refl

-- what an order of the side did on these bytes it did on the accounts, whose open-orders accounts are these
pub ordered-by-side : (taker : Taker) (reply : Reply) (side : Side) (before after : PlainMarketAccounts) (first last : List PlainAccount) → taker.id_side ≡ side
    → first ≡ before.orders → after.orders ≡ last
    → HasOrderedAmong taker reply (among before.market before.requests before.events (bytes_on side before) (bytes_on (opposite side) before) first)
    (among after.market after.requests after.events (bytes_on side after) (bytes_on (opposite side) after) last)
    → HasOrderedAmong taker reply (among_of taker.id_side before) (among_of taker.id_side after)
ordered-by-side taker reply side before after first last is a b done =
    let was : List PlainAccount → OrderAccounts = among before.market before.requests before.events (bytes_on side before) (bytes_on (opposite side) before) in
    let now : List PlainAccount → OrderAccounts = among after.market after.requests after.events (bytes_on side after) (bytes_on (opposite side) after) in
    subst (λ (s : Side). HasOrderedAmong taker reply (among_of s before) (among_of s after)) (sym is)
    (subst (λ (l : List PlainAccount). HasOrderedAmong taker reply (was l) (now after.orders)) a
    (subst (λ (l : List PlainAccount). HasOrderedAmong taker reply (was first) (now l)) (sym b) done))

-- the vault that an order pays into is in bounds, with its deposit
fits-in : (side : Side) (account : Account) (n : NewOrder) (o : Ordering) (accounts : PlainMarketAccounts) → AreSound accounts
    → IsSound (after_order side account n o (market_in accounts)) → CanTakeIn side o.deposit accounts
fits-in Bid account n o accounts sound after = record {
  coin = sound.stands.coin_vault.accepted;
  pc = sound.stands.pc_vault.accepted;
  fits = omega (arith, pc-held accounts sound, pc-fits (after_order Bid account n o (market_in accounts)) after);
}
fits-in Ask account n o accounts sound after = record {
  coin = sound.stands.coin_vault.accepted;
  pc = sound.stands.pc_vault.accepted;
  fits = omega (arith, coin-held accounts sound, coin-fits (after_order Ask account n o (market_in accounts)) after);
}

-- the parts after an order are those before, with what it made of them
parts-left : (side : Side) (owner : Address) (now : List ℕ) (before after : PlainMarketAccounts) → after.orders ≡ changed_at owner (λ old. now) before.orders
    → room_in (bytes_on side after) ≡ room_in (bytes_on side before) → room_in (bytes_on (opposite side) after) ≡ room_in (bytes_on (opposite side) before)
    → parts_of after ≡ with_account owner now
    (with_side (opposite side) (resting (opposite side) (bytes_on (opposite side) after))
    (with_side side (resting side (bytes_on side after))
    (record (parts_of before) { market = after.market; requests = after.requests; events = after.events })))
parts-left Bid owner now before after changed own met = same-parts _ _ _ _ _ _ _ _ _ _ _ _ _ _ _ _ refl refl refl refl own refl met changed
parts-left Ask owner now before after changed own met = same-parts _ _ _ _ _ _ _ _ _ _ _ _ _ _ _ _ refl refl refl refl met refl own changed

-- what the vaults hold after an order
coin-after : (side : Side) (account : Account) (n : NewOrder) (o : Ordering) (m : Market) (held amount : ℕ) → held ≡ m.coin_vault → amount ≡ o.deposit
    → (after_order side account n o m).coin_vault ≡ held + by_side side 0 amount
coin-after Bid account n o m held amount held_is amount_is = omega (arith, held_is)
coin-after Ask account n o m held amount held_is amount_is = omega (arith, held_is, amount_is)

pc-after : (side : Side) (account : Account) (n : NewOrder) (o : Ordering) (m : Market) (held amount : ℕ) → held ≡ m.pc_vault → amount ≡ o.deposit
    → (after_order side account n o m).pc_vault ≡ held + by_side side amount 0
pc-after Bid account n o m held amount held_is amount_is = omega (arith, held_is, amount_is)
pc-after Ask account n o m held amount held_is amount_is = omega (arith, held_is)

module _ (accounts : PlainMarketAccounts) (taker : Taker) (plan : OrderPlan) (pending : PendingFills) (sound : AreSound accounts)
    (decided : IsOrderDecided taker plan pending (market_in accounts)) where
  pub own : OpenAt taker.account decided.account accounts
  own = open-at taker.account decided.account accounts sound decided.known

  given : GivenOf taker.id_side taker.account (order_given taker.id_side own.bytes (parts_of accounts)) (market_in accounts)
  given = given-of taker.id_side taker.account own.bytes (parts_of accounts) (market_in accounts) (sound-are accounts sound) own.has

  -- what it decides by its bytes is what it decides on the market
  ordering : ordering_in taker.id_side (order_of taker) (read_of (order_given taker.id_side own.bytes (parts_of accounts)))
      ≡ order_on taker.id_side (market_in accounts) decided.account (order_of taker)
  ordering =
      ordering-is taker.id_side (order_of taker) (order_given taker.id_side own.bytes (parts_of accounts)) (market_in accounts) given
      ∙ ap (λ (a : Account). order_on taker.id_side (market_in accounts) a (order_of taker)) own.is

  -- and it is not refused by them
  reason : order_reason taker.id_side (order_of taker) (read_of (order_given taker.id_side own.bytes (parts_of accounts))) decided.wallet.balance ≡ None
  reason =
      reason-is taker.id_side (order_of taker) (order_given taker.id_side own.bytes (parts_of accounts)) (market_in accounts) decided.wallet.balance decided.seen
      decided.wallet sound.sound given decided.pays refl
      ∙ ap (λ (a : Account). why_ordering taker.id_side (order_of taker) (order_reading taker.id_side (order_of taker) decided.seen (market_in accounts) a)) own.is
      ∙ decided.accepted

  -- the step that it makes
  step_is : order_step taker (market_in accounts)
      ≡ step_ordered taker.id_side (order_of taker) (market_in accounts) (record { address = taker.account; account = decided.account })
      (order_on taker.id_side (market_in accounts) decided.account (order_of taker))
  step_is =
      ap (λ (t : Option Trader).
      by_party (λ party. step_ordered taker.id_side (order_of taker) (market_in accounts) party
      (order_on taker.id_side (market_in accounts) party.account (order_of taker))) (market_in accounts) (open_party taker.account t)) decided.known

  -- it can be done
  pub order-can : CanOrderAmong plan taker (among_of taker.id_side accounts)
  order-can =
      let can : CanOrder plan taker (bytes_with own.bytes (among_of taker.id_side accounts)) = record {
        price = decided.price;
        own = sound-on accounts sound taker.id_side;
        met = sound-on accounts sound (opposite taker.id_side);
        given = record {
          whole = parts_of accounts;
          sound = sound-parts accounts sound;
          has = own.has;
          is = given-bytes taker.id_side own.bytes accounts;
        };
        decided = record {
          balance = decided.wallet.balance;
          accepted =
              ap (λ (g : OrderGiven). order_reason taker.id_side (order_of taker) (read_of g) decided.wallet.balance) (sym (given-bytes taker.id_side own.bytes accounts))
              ∙ reason;
          planned =
              decided.planned
              ∙ ap (plan_by (order_of taker)) (sym ordering)
              ∙ ap (λ (g : OrderGiven). plan_by (order_of taker) (ordering_in taker.id_side (order_of taker) (read_of g))) (given-bytes taker.id_side own.bytes accounts);
        };
      } in
      record { account = own.bytes; found = own.has.found; can = can }

  sound_after : IsSound (after_order taker.id_side decided.account (order_of taker) (order_on taker.id_side (market_in accounts) decided.account (order_of taker)) (market_in accounts))
  sound_after = subst (λ (s : Step). IsSound s.market) step_is decided.sound

  pub order-fits : CanTakeIn taker.id_side plan.deposit accounts
  order-fits =
      subst (λ (p : OrderPlan). CanTakeIn taker.id_side p.deposit accounts) (sym decided.planned)
      (fits-in taker.id_side decided.account (order_of taker) (order_on taker.id_side (market_in accounts) decided.account (order_of taker)) accounts sound sound_after)

  module _ (after : PlainMarketAccounts) (reply : Reply) (done : HasOrderedAmong taker reply (among_of taker.id_side accounts) (among_of taker.id_side after))
      (vaults : HaveTakenIn taker.id_side plan.deposit accounts after)
      (price : taker.price < 2 ^ 64) (lots : taker.lots < 2 ^ 64) (lock : taker.lock < 2 ^ 64) (client : taker.client < 2 ^ 64) where
    left : OrderGiven
    left = given_of taker.id_side (bytes_with done.now (among_of taker.id_side after))

    before_is : given_of taker.id_side (bytes_with done.was (among_of taker.id_side accounts)) ≡ order_given taker.id_side own.bytes (parts_of accounts)
    before_is =
        let one : Some done.was ≡ Some own.bytes = sym done.found ∙ own.has.found in
        let same : done.was ≡ own.bytes = cc in
        ap (λ (b : List ℕ). given_of taker.id_side (bytes_with b (among_of taker.id_side accounts))) same ∙ sym (given-bytes taker.id_side own.bytes accounts)

    is_done : IsDone taker (order_given taker.id_side own.bytes (parts_of accounts)) left
    is_done = unfold left in record {
      price = decided.price;
      price_fits = price;
      lots = lots;
      lock = lock;
      client = client;
      balance = decided.wallet.balance;
      accepted = reason;
      does = done.done.does ∙ ap (ordered taker) before_is;
      list = done.done.list ∙ ap (λ (g : OrderGiven). appended (events_in taker g) (ring_of accounts.events)) before_is;
      queue = done.done.queue;
    }

    are : AreOf (with_ordered taker left (parts_of accounts))
        (after_order taker.id_side decided.account (order_of taker) (order_on taker.id_side (market_in accounts) decided.account (order_of taker)) (market_in accounts))
    are =
        subst (λ (a : Account). AreOf (with_ordered taker left (parts_of accounts))
        (after_order taker.id_side a (order_of taker) (order_on taker.id_side (market_in accounts) a (order_of taker)) (market_in accounts))) own.is
        (order-leaves taker (parts_of accounts) (market_in accounts) own.bytes left sound.sound (sound-are accounts sound) own.has is_done)

    parts_is : parts_of after ≡ with_ordered taker left (parts_of accounts)
    parts_is = unfold left in
        parts-left taker.id_side taker.account done.now accounts after done.changed (ap (λ (g : OrderGiven). g.own_room) done.done.does) done.done.room

    names : KeepNames accounts.address accounts.orders after.orders
    names = unfold left in
        subst (KeepNames accounts.address accounts.orders) (sym done.changed)
        (names-changed accounts.address taker.account own.bytes done.now accounts.orders own.has.found (λ opened.
        open-named (market_in accounts).listing.address taker.account own.bytes done.now accounts.orders _ own.has.found are.traders done.done.account
        ∙ sym sound.stands.address))

    pub order-stepped : HasStepped accounts after reply pending (order_step taker (market_in accounts))
    order-stepped =
        let o : Ordering = order_on taker.id_side (market_in accounts) decided.account (order_of taker) in
        let sides = both-sides taker.id_side after done.done.own done.done.met in
        let deposit : plan.deposit ≡ o.deposit = ap (λ (p : OrderPlan). p.deposit) decided.planned in
        subst (HasStepped accounts after reply pending) (sym step_is)
        (leaves-stepped accounts after (with_ordered taker left (parts_of accounts)) _ _ reply pending _ sound sound_after
        (record { vaults = vaults; parts_are = parts_is; bids = sides.0; asks = sides.1; names = names })
        are refl
        (coin-after taker.id_side decided.account (order_of taker) o (market_in accounts) (coin_held accounts) plan.deposit (coin-held accounts sound) deposit)
        (pc-after taker.id_side decided.account (order_of taker) o (market_in accounts) (pc_held accounts) plan.deposit (pc-held accounts sound) deposit)
        (done.done.reply_is ∙ ap (reply_in taker) before_is ∙ ap (order_reply (order_of taker)) ordering)
        decided.sums)
