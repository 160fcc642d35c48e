-- A new order, over a sound market's accounts.
use Rattle.std.proofs.Common.{◌≡◌, ℕ, List, [], ◌∷◌, ◌++◌, Option, Some, None, refl, sym, ap, ◌∙◌, subst}
use Rattle.std.specs.Prelude.{IsSomeAnd}
use Rattle.dex_types.specs.declared.addresses.Address.{Address}
use Rattle.dex_types.specs.declared.refusals.Refusal.{Refusal}
use Rattle.dex_types.specs.declared.refusals.Refusal.TheVariants.{NoAccount}
use Rattle.dex_types.specs.declared.rows.Seen.{Seen}
use Rattle.dex_types.specs.declared.rows.WalletSeen.{WalletSeen}
use Rattle.dex_types.specs.declared.terms.Side.{Side}
use Rattle.dex_types.specs.declared.terms.Side.TheVariants.{Bid, Ask}
use Rattle.dex_types.specs.Accounts.{PlainMarketAccounts}
use Rattle.dex_types.specs.NewOrder.{NewOrder, Ordering, order_on}
use Rattle.dex_types.specs.Reasons.{answered, first_of, missing, not_person, not_signed_by, other_discount_mint, other_mint}
use Rattle.dex_types.specs.Requests.{Party, Request}
use Rattle.dex_types.specs.Side.{opposite}
use Rattle.dex_types.specs.Why.{order_reading, payer, payer_mint, why_order_early, why_order_of, why_ordering}
use Rattle.dex_ring.specs.PendingFills.{pending_fills_of}
use Rattle.dex_ring.specs.Ring.{Ring}
use Rattle.dex_match.specs.declared.order_plan.Decided.{Decided}
use Rattle.dex_match.specs.OrderParts.{IsGiven, OrderGiven, given_by, order_given}
use Rattle.dex_match.specs.OrderParts as orders
use Rattle.dex_match.specs.Ordering.{order_outcome, order_reason, ordering_in, plan_by}
use Rattle.dex_match.proofs.PartsLaws.{given-of, ordering-is, reason-is}
use Rattle.dex_orders.specs.OrdersAccount.{account_of}
use Rattle.dex_reasons.proofs.FirstReasons.{first_of-one}
use Rattle.dex_slab.specs.declared.slab_ref.SlabRef.{SlabRef}
use Rattle.dex_slab.specs.Slab.{IsSlab, resting, room_in}
use Rattle.dex_accounts.specs.Decoded.{AreSound, market_in}
use Rattle.dex_accounts.specs.Parts.{HasOpen, parts_of, side_orders, side_room}
use Rattle.dex_plan.specs.Given.{bytes_on}
use Rattle.dex_decide.specs.Named.{IsActing, party_by}
use Rattle.dex_plan.specs.Plans.{sums_with}
use Rattle.dex_decide.proofs.PartLaws.{are, has-open, sound-parts}

module _ (accounts : PlainMarketAccounts) (sound : AreSound accounts) where
  pub slab-on : (side : Side) → IsSlab (bytes_on side accounts)
  slab-on Bid = sound.stands.bids.accepted.slab
  slab-on Ask = sound.stands.asks.accepted.slab

  -- a side's orders and room among the parts
  pub orders-on : (side : Side) → resting side (bytes_on side accounts) ≡ side_orders side (parts_of accounts)
  orders-on Bid = refl
  orders-on Ask = refl

  pub room-on : (side : Side) → room_in (bytes_on side accounts) ≡ side_room side (parts_of accounts)
  room-on Bid = refl
  room-on Ask = refl

  -- what is shown of bytes and sides that are those of the accounts
  pub order-shown : (side : Side) (bytes market requests events own opposing : List ℕ) (own_side opposing_side : Side)
      → market ≡ accounts.market → requests ≡ accounts.requests → events ≡ accounts.events
      → own ≡ bytes_on side accounts → opposing ≡ bytes_on (opposite side) accounts → own_side ≡ side → opposing_side ≡ opposite side
      → given_by market requests events bytes (resting own_side own) (room_in own) (resting opposing_side opposing) ≡ order_given side bytes (parts_of accounts)
  order-shown side bytes market requests events own opposing own_side opposing_side a b c d e f g =
      rw (a, b, c, d, e, f, g, orders-on side, room-on side, orders-on (opposite side)) refl

  -- what is shown of views of them, lent as one value
  pub order-lent : (side : Side) (bytes account market requests events : List ℕ) (own opposing own_view opposing_view : SlabRef)
      → account ≡ bytes → market ≡ accounts.market → requests ≡ accounts.requests → events ≡ accounts.events
      → own ≡ own_view → opposing ≡ opposing_view → own_view.bytes.now ≡ bytes_on side accounts → opposing_view.bytes.now ≡ bytes_on (opposite side) accounts
      → own_view.side ≡ side → opposing_view.side ≡ opposite side
      → given_by market requests events account (resting own.side own.bytes.now) (room_in own.bytes.now) (resting opposing.side opposing.bytes.now)
      ≡ order_given side bytes (parts_of accounts)
  order-lent side bytes account market requests events own opposing own_view opposing_view held a b c is met d e f g =
      rw (held, is, met)
      (order-shown side bytes market requests events own_view.bytes.now opposing_view.bytes.now own_view.side opposing_view.side a b c d e f g)

  -- a view of a side, lent, is a side
  pub side-lent : (side : Side) (lent view : SlabRef) → lent ≡ view → view.bytes.now ≡ bytes_on side accounts → IsSlab lent.bytes.now
  side-lent side lent view is bytes_is = subst IsSlab (sym (ap (λ (s : SlabRef). s.bytes.now) is ∙ bytes_is)) (slab-on side)

  pub order-given : (side : Side) (named : List Address) (owner address : Address) (bytes : List ℕ) → IsActing named accounts.orders address bytes
      → owner ≡ address → IsGiven side owner (order_given side bytes (parts_of accounts))
  order-given side named owner address bytes acting whose = record {
    whole = parts_of accounts;
    sound = sound-parts accounts sound;
    has = subst (λ (a : Address). HasOpen a bytes (parts_of accounts)) (sym whose) (has-open accounts sound named address bytes acting);
    is = refl;
  }

  -- why it is refused, once wallets and the signer have passed
  order-late : (side : Side) (n : NewOrder) (request : Request) (seen : Seen) (address : Address) (bytes : List ℕ) (balance : ℕ)
      → HasOpen n.owner bytes (parts_of accounts)
      → (paying : Option WalletSeen) → payer side seen ≡ paying → IsSomeAnd paying (λ (w : WalletSeen). w.balance ≡ balance)
      → why_order_early side request seen (market_in accounts) (party_by address bytes) ≡ None
      → order_reason side n (orders.parts_of (order_given side bytes (parts_of accounts))) balance
      ≡ why_order_of side n request seen (market_in accounts) (party_by address bytes)
  order-late side n request seen address bytes balance has None pays has_it none = absurd has_it
  order-late side n request seen address bytes balance has (Some wallet) pays is none =
      let m = market_in accounts in
      let late = why_ordering side n (order_reading side n seen m (account_of bytes)) in
      reason-is side n _ m balance seen wallet sound.sound (given-of side n.owner bytes (parts_of accounts) m (are accounts sound) has) pays is
      ∙ sym (first_of-one late)
      ∙ ap (λ (r : Option Refusal). first_of (r ∷ late ∷ [])) (sym none)

  -- what is answered then is the market's: its first reason, or else what is planned with the sums after it
  pub order-told : (side : Side) (n : NewOrder) (request : Request) (seen : Seen) (address : Address) (bytes : List ℕ) (balance : ℕ)
      → IsActing request.named accounts.orders address bytes → n.owner ≡ address
      → IsSomeAnd (payer side seen) (λ (w : WalletSeen). w.balance ≡ balance)
      → why_order_early side request seen (market_in accounts) (party_by address bytes) ≡ None
      → (let on = order_on side (market_in accounts) (account_of bytes) n in
      let told : Decided = record { plan = plan_by n on; pending = sums_with on.events (market_in accounts) } in
      order_outcome side n (orders.parts_of (order_given side bytes (parts_of accounts))) balance
      ≡ answered (why_order_of side n request seen (market_in accounts) (party_by address bytes)) told)
  order-told side n request seen address bytes balance acting whose pays none =
      let m = market_in accounts in
      let parts = orders.parts_of (order_given side bytes (parts_of accounts)) in
      let has : HasOpen n.owner bytes (parts_of accounts) =
      subst (λ (a : Address). HasOpen a bytes (parts_of accounts)) (sym whose) (has-open accounts sound request.named address bytes acting) in
      let made : Ordering → Ring → Decided = λ o r. record { plan = plan_by n o; pending = pending_fills_of (r.events ++ o.events) } in
      let why = why_order_of side n request seen m (party_by address bytes) in
      ap (λ (r : Option Refusal). answered r (made (ordering_in side n parts) parts.ring)) (order-late side n request seen address bytes balance has _ refl pays none)
      ∙ ap (λ (o : Ordering). answered why (made o parts.ring)) (ordering-is side n _ m (given-of side n.owner bytes (parts_of accounts) m (are accounts sound) has))
      ∙ ap (λ (r : Ring). answered why (made (order_on side m (account_of bytes) n) r)) sound.stands.events.ring

  -- without a wallet that pays
  pub order-unpaid : (side : Side) (n : NewOrder) (request : Request) (seen : Seen) (party : Party) → payer side seen ≡ None
      → why_order_of side n request seen (market_in accounts) party ≡ Some NoAccount
  order-unpaid side n request seen party none =
      let m = market_in accounts in
      let mint = payer_mint side m in
      let later = not_person party.account.person request.signer
      ∷ other_mint mint (payer side seen)
      ∷ other_discount_mint seen seen.discount
      ∷ not_signed_by request.signer (payer side seen)
      ∷ not_signed_by request.signer seen.discount
      ∷ [] in
      ap (λ (w : Option WalletSeen). first_of (
      first_of (missing w ∷ later)
      ∷ why_ordering side n (order_reading side n seen m party.account)
      ∷ []
      )) none
