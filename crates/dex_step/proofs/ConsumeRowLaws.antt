-- Consuming events of a sound market's accounts: what it leaves is the step's.
use Rattle.std.proofs.Common.{◌≡◌, ℕ, zero, suc, ◌-◌, ◌<◌, ◌≤◌, List, [], ◌∷◌, Some, length, drop, map, refl, sym, ap, ◌∙◌, subst, arith}
use Rattle.std.specs.List.{All}
use Rattle.std.proofs.lemmas.List.{length-drop}
use Rattle.dex_types.specs.declared.addresses.Address.{Address}
use Rattle.dex_types.specs.declared.replies.Reply.TheVariants.{Consumed as ConsumedReply}
use Rattle.dex_types.specs.Accounts.{PlainAccount, PlainMarketAccounts}
use Rattle.dex_types.specs.Market.{Market}
use Rattle.dex_types.specs.Payment.{after_crank, consumable}
use Rattle.dex_types.specs.QueuedEvent.{QueuedEvent}
use Rattle.dex_types.specs.Side.{Coin, Pc}
use Rattle.dex_types.specs.Solvency.{all_leaving}
use Rattle.dex_accounts.specs.Accepted.{NamesMarket}
use Rattle.dex_accounts.specs.Decoded.{AreSound, market_in}
use Rattle.dex_accounts.specs.Owners.{named_in}
use Rattle.dex_accounts.specs.Parts.{AreOf, MarketParts, parts_of}
use Rattle.dex_accounts.proofs.OwnerLaws.{All-bytes_at, All-changed_at}
use Rattle.dex_accounts.proofs.PartLaws.{events_in-parts}
use Rattle.dex_crank.specs.declared.crank.Consumed.{Consumed}
use Rattle.dex_crank.specs.PaidBytes.{CrankBytes, HasOwner, paid_bytes, paid_first, paid_in}
use Rattle.dex_crank.specs.Parts.{AreCrankedIn, AreOfSoundMarket, crank_given, with_cranked}
use Rattle.dex_crank.proofs.CountLaws.{consumable-le}
use Rattle.dex_crank.proofs.PartLaws.{AreCrankedIn-bytes, AreOf-cranked, crank-sound_of, has_owner, head_of, market-of, pending-count}
use Rattle.dex_crank.proofs.PaymentLaws.{IsPaid, IsPaid-of}
use Rattle.dex_orders.specs.OrdersAccount.{IsOpened, market_of}
use Rattle.dex_ring.specs.declared.pending_fills.PendingFills.{PendingFills}
use Rattle.dex_ring.specs.PendingFills.{pending_fills_of}
use Rattle.dex_ring.specs.Ring.{events_of, popped}
use Rattle.dex_ring.proofs.PopLaw.{events_of-first}
use Rattle.dex_slab.specs.Slab.{resting, room_in}
use Rattle.dex_slab.specs.StandsFor.{IsSideAccount}
use Rattle.dex_step.specs.Acting.{HasStepped, HaveVaults, KeepNames, addresses_of, coin_held, pc_held}
use Rattle.dex_step.specs.ConsumeActs.{HasConsumed, consume_step}
use Rattle.dex_step.proofs.SteppedLaws.{leaves-stepped}
use Rattle.dex_step.proofs.SoundParts.{coin-held, pc-held, same-parts, sound-are, sound-on, sound-parts}
use Rattle.dex_types.specs.declared.terms.Side.TheVariants.{Bid, Ask}

-- ---- each account names the market, if it was ever opened and did

abbrev Names : Address → List ℕ → Type 0
Names market bytes = IsOpened bytes → market_of bytes ≡ market

named-first : (market : Address) (bytes : CrankBytes) (m : Market) → AreCrankedIn m bytes → 0 < length (events_of bytes.queue)
    → All (NamesMarket market) bytes.accounts → All (NamesMarket market) (paid_first bytes).accounts
unfolding paid_first
named-first market bytes m parts pending all =
    let event : QueuedEvent = head_of bytes.queue in
    let first : events_of bytes.queue ≡ event ∷ events_of (popped bytes.queue) =
    events_of-first bytes.queue parts.queue (pending-count bytes.queue parts.queue pending) in
    let owner : HasOwner event bytes.accounts = has_owner bytes m parts event (events_of (popped bytes.queue)) first in
    All-changed_at (Names market) event.owner (paid_in event) bytes.accounts all (λ owned found.
    let one : Some owner.bytes ≡ Some owned = sym owner.found ∙ found in
    let same : owner.bytes ≡ owned = cc in
    let was : Names market owner.bytes = All-bytes_at (Names market) event.owner bytes.accounts owner.bytes all owner.found in
    let paid : IsPaid event owner.bytes = IsPaid-of event owner.bytes owner.can_take in
    subst (λ (b : List ℕ). Names market (paid_in event b)) same (λ opened. paid.market ∙ was owner.can_take.accepted.opened))

named-bytes : (market : Address) (bytes : CrankBytes) (m : Market) (count : ℕ) → AreCrankedIn m bytes → count ≤ length m.events
    → All (NamesMarket market) bytes.accounts → All (NamesMarket market) (paid_bytes count bytes).accounts
named-bytes market bytes m zero parts le all = all
named-bytes market bytes m (suc count) parts le all =
    let now : AreCrankedIn (after_crank count m) (paid_bytes count bytes) = AreCrankedIn-bytes bytes m count parts (omega arith) in
    let more : 0 < length (drop count m.events) = omega (arith, le, length-drop count m.events) in
    let some : 0 < length (events_of (paid_bytes count bytes).queue) = subst (λ (l : List QueuedEvent). 0 < length l) (sym now.events) more in
    named-first market (paid_bytes count bytes) (after_crank count m) now some (named-bytes market bytes m count parts (omega arith) all)

-- an account's address is the first of its two names
addresses-by : (accounts : List PlainAccount) → addresses_of accounts ≡ map (λ (names : Address × Address). names.0) (map named_in accounts)
addresses-by [] = refl
addresses-by (account ∷ others) = ap (λ (l : List Address). account.address ∷ l) (addresses-by others)

module _ (accounts : PlainMarketAccounts) (limit : ℕ) (named : List Address) (pending : PendingFills) (sound : AreSound accounts)
    (sums : pending ≡ pending_fills_of (market_in accounts).events) where
  pub consume-can : AreOfSoundMarket (crank_given (parts_of accounts))
  consume-can = record { whole = parts_of accounts; sound = sound-parts accounts sound; given = refl }

  events_are : events_of accounts.events ≡ (market_in accounts).events
  events_are = events_in-parts (parts_of accounts) (market_in accounts) (sound-are accounts sound)

  module _ (after : PlainMarketAccounts) (consumed : Consumed) (now : PendingFills) (done : HasConsumed limit named consumed (crank_given (parts_of accounts)) (crank_given (parts_of after)))
      (vaults : HaveVaults accounts after (coin_held accounts) (pc_held accounts))
      (market : after.market ≡ accounts.market) (requests : after.requests ≡ accounts.requests) (bids : after.bids ≡ accounts.bids) (asks : after.asks ≡ accounts.asks)
      (coin : now.coin ≡ pending.coin - consumed.fills.coin) (pc : now.pc ≡ pending.pc - consumed.fills.pc) where
    counted : consumed.count ≡ consumable limit named (market_in accounts).events
    counted = done.count ∙ ap (consumable limit named) events_are

    within : consumed.count ≤ length (market_in accounts).events
    within = omega (arith, counted, consumable-le limit named (market_in accounts).events)

    abbrev left : CrankBytes
    left = paid_bytes consumed.count (crank_given (parts_of accounts))

    are_by : AreOf (with_cranked left (parts_of accounts)) (after_crank consumed.count (market_in accounts))
    are_by = AreOf-cranked (parts_of accounts) (market_in accounts) consumed.count sound.sound (sound-are accounts sound) within

    are : AreOf (with_cranked left (parts_of accounts)) (consume_step limit named (market_in accounts)).market
    are = subst (λ (n : ℕ). AreOf (with_cranked left (parts_of accounts)) (after_crank n (market_in accounts))) counted are_by

    parts_is : parts_of after ≡ with_cranked left (parts_of accounts)
    parts_is =
        same-parts _ _ _ _ _ _ _ _ _ _ _ _ _ _ _ _ market requests (ap (λ (b : CrankBytes). b.queue) done.does) (ap (resting Bid) bids) (ap room_in bids)
        (ap (resting Ask) asks) (ap room_in asks) (ap (λ (b : CrankBytes). b.accounts) done.does)

    names : KeepNames accounts.address accounts.orders after.orders
    names =
        let cranked = market-of (crank_given (parts_of accounts)) consume-can in
        let some : consumed.count ≤ length (events_of accounts.events) = omega (arith, done.count, consumable-le limit named (events_of accounts.events)) in
        let le = subst (λ (l : List QueuedEvent). consumed.count ≤ length l) cranked.1.events some in
        record {
          addresses = addresses-by after.orders ∙ ap (map (λ (n : Address × Address). n.0)) done.kept.names ∙ sym (addresses-by accounts.orders);
          named = λ all.
              subst (λ (b : CrankBytes). All (NamesMarket accounts.address) b.accounts) (sym done.does)
              (named-bytes accounts.address (crank_given (parts_of accounts)) cranked.0 consumed.count cranked.1 le all);
        }

    -- the queue after it holds the events that are left
    left_events : events_of after.events ≡ (consume_step limit named (market_in accounts)).market.events
    left_events =
        ap (λ (p : MarketParts). events_of p.events) parts_is
        ∙ events_in-parts (with_cranked left (parts_of accounts)) (consume_step limit named (market_in accounts)).market are

    sums_are : now ≡ pending_fills_of (consume_step limit named (market_in accounts)).market.events
    sums_are =
        let first : now.coin ≡ all_leaving Coin (consume_step limit named (market_in accounts)).market.events =
        omega (arith, coin, done.coin, ap (λ (l : PendingFills). l.coin) sums, ap (all_leaving Coin) events_are, ap (all_leaving Coin) left_events) in
        let second : now.pc ≡ all_leaving Pc (consume_step limit named (market_in accounts)).market.events =
        omega (arith, pc, done.pc, ap (λ (l : PendingFills). l.pc) sums, ap (all_leaving Pc) events_are, ap (all_leaving Pc) left_events) in
        let by : ℕ → ℕ → PendingFills = λ x y. record { coin = x; pc = y } in
        ap (λ x. by x now.pc) first ∙ ap (λ y. by (all_leaving Coin (consume_step limit named (market_in accounts)).market.events) y) second

    pub consume-stepped : HasStepped accounts after (ConsumedReply consumed.count) now (consume_step limit named (market_in accounts))
    consume-stepped =
        let m = market_in accounts in
        leaves-stepped accounts after (with_cranked left (parts_of accounts)) _ _ (ConsumedReply consumed.count) now (consume_step limit named m) sound
        (crank-sound_of (consumable limit named m.events) m sound.sound)
        (record {
          vaults = vaults;
          parts_are = parts_is;
          bids = subst (λ (b : List ℕ). IsSideAccount Bid b) (sym bids) (sound-on accounts sound Bid);
          asks = subst (λ (b : List ℕ). IsSideAccount Ask b) (sym asks) (sound-on accounts sound Ask);
          names = names;
        })
        are refl (sym (coin-held accounts sound)) (sym (pc-held accounts sound)) (ap (λ (x : ℕ). ConsumedReply x) counted) sums_are
