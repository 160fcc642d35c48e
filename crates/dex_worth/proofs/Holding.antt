-- What is held for owners, one order or event more.
use Rattle.std.proofs.Common.{ℕ, ◌+◌, ◌^◌, ◌≡◌, ◌<◌, ◌≤◌, Bool, true, false, List, [], ◌∷◌, Option, Some, None, length, get_or, take, if◌then◌else◌, refl, sym, ap, ◌∙◌, arith}
use Rattle.std.proofs.lemmas.Bool.{cond_both}
use Rattle.dex_types.specs.declared.addresses.Address.{Address}
use Rattle.dex_types.specs.declared.orders.Order.{Order}
use Rattle.dex_types.specs.declared.terms.Lots.{Lots}
use Rattle.dex_types.specs.declared.terms.Side.{Side}
use Rattle.dex_types.specs.declared.terms.Side.TheVariants.{Bid, Ask}
use Rattle.dex_types.specs.Addresses.{is_same}
use Rattle.dex_types.specs.Market.{Market, orders}
use Rattle.dex_types.specs.Owed.{is_event_of, is_order_of, order_lock, owed}
use Rattle.dex_types.specs.QueuedEvent.{QueuedEvent}
use Rattle.dex_types.specs.Side.{Token, Coin, Pc}
use Rattle.dex_types.specs.Solvency.{all_free, free_of}
use Rattle.dex_types.specs.Soundness.{IsSound}
use Rattle.dex_types.specs.Tokens.{locking_side}
use Rattle.dex_types.specs.Totals.{total, weighed_where}
use Rattle.dex_types.specs.Trader.{Trader, Traders, trader_at}
use Rattle.dex_audit_rules.specs.Books.{PlainGathered}
use Rattle.dex_eager.specs.Worth.{free_in, held_for}
use Rattle.dex_eager.proofs.FundSteps.{found-part}
use Rattle.dex_totals.specs.Sums.{capped}
use Rattle.dex_totals.proofs.SumLaws.{total-more}
use Rattle.dex_worth.specs.declared.amounts.TokenAmounts.{TokenAmounts}
use Rattle.dex_worth.specs.Amounts.{AreSums, added, both, capped_amounts, none, on_side, own}
use Rattle.dex_worth.specs.Holdings.{free_at, held_amounts, locks_of, owed_amounts, owed_of, with_gathered}
use Rattle.dex_worth.proofs.Sums.{pair, same-pair, sums-added, sums-agree}

capped-side : (side : Side) (amount : ℕ) → capped_amounts (on_side side (capped amount)) ≡ capped_amounts (on_side side amount)
capped-side Bid amount = same-pair refl (omega arith)
capped-side Ask amount = same-pair (omega arith) refl

-- an amount more of each token, where the test holds
both-more : (before : TokenAmounts) (coin pc more most : ℕ) (b : Bool) → both (both before (pair coin pc)) (if b then pair more most else none)
    ≡ both before (pair (coin + (if b then more else 0)) (pc + (if b then most else 0)))
both-more before coin pc more most true = same-pair (omega arith) (omega arith)
both-more before coin pc more most false = same-pair (omega arith) (omega arith)

side-more : (side : Side) (before : TokenAmounts) (amount more : ℕ) (b : Bool) → both (both before (on_side side amount)) (if b then on_side side more else none)
    ≡ both before (on_side side (amount + (if b then more else 0)))
side-more Bid before amount more true = same-pair (omega arith) (omega arith)
side-more Bid before amount more false = same-pair (omega arith) (omega arith)
side-more Ask before amount more true = same-pair (omega arith) (omega arith)
side-more Ask before amount more false = same-pair (omega arith) (omega arith)

-- an order more
pub locks-more : (side : Side) (sizes : Lots) (orders : List Order) (place : ℕ) (order : Order) (before : Address → TokenAmounts) (owners : List Address) (more : TokenAmounts) (sums after : List TokenAmounts)
    → place < length orders → get_or orders place order ≡ order → more ≡ on_side side (capped (order_lock side sizes order))
    → AreSums (λ of. both (before of) (locks_of side sizes (take place orders) of)) owners sums → after ≡ added order.owner more owners sums
    → AreSums (λ of. both (before of) (locks_of side sizes (take (place + 1) orders) of)) owners after
locks-more side sizes orders place order before owners more sums after lt here told are is =
    sums-agree (λ of. both (both (before of) (locks_of side sizes (take place orders) of)) (own of order.owner (on_side side (order_lock side sizes order))))
    (λ of. both (before of) (locks_of side sizes (take (place + 1) orders) of)) owners after
    (λ of. side-more side (before of) (total (weighed_where (is_order_of of) (order_lock side sizes)) (take place orders)) (order_lock side sizes order) (is_same of order.owner)
    ∙ ap (λ (n : ℕ). both (before of) (on_side side n))
    (ap (λ (o : Order). total (weighed_where (is_order_of of) (order_lock side sizes)) (take place orders) + weighed_where (is_order_of of) (order_lock side sizes) o) (sym here)
    ∙ sym (total-more (weighed_where (is_order_of of) (order_lock side sizes)) orders place order lt)))
    (sums-added (λ of. both (before of) (locks_of side sizes (take place orders) of)) order.owner (on_side side (order_lock side sizes order)) more owners sums after
    (ap capped_amounts told ∙ capped-side side (order_lock side sizes order)) are is)

-- an event more
pub owed-more : (events : List QueuedEvent) (place : ℕ) (event : QueuedEvent) (before : Address → TokenAmounts) (owners : List Address) (more : TokenAmounts) (sums after : List TokenAmounts)
    → place < length events → get_or events place event ≡ event → more ≡ owed_amounts event
    → AreSums (λ of. both (before of) (owed_of (take place events) of)) owners sums → after ≡ added event.owner more owners sums
    → AreSums (λ of. both (before of) (owed_of (take (place + 1) events) of)) owners after
owed-more events place event before owners more sums after lt here told are is =
    sums-agree (λ of. both (both (before of) (owed_of (take place events) of)) (own of event.owner (owed_amounts event)))
    (λ of. both (before of) (owed_of (take (place + 1) events) of)) owners after
    (λ of. both-more (before of) (total (weighed_where (is_event_of of) (owed Coin)) (take place events)) (total (weighed_where (is_event_of of) (owed Pc)) (take place events))
    (owed Coin event) (owed Pc event) (is_same of event.owner)
    ∙ (λ i. both (before of) (pair (one-more Coin of i) (one-more Pc of i))))
    (sums-added (λ of. both (before of) (owed_of (take place events) of)) event.owner (owed_amounts event) more owners sums after (ap capped_amounts told) are is)
  where
    one-more : (token : Token) (of : Address) → total (weighed_where (is_event_of of) (owed token)) (take place events) + weighed_where (is_event_of of) (owed token) event
        ≡ total (weighed_where (is_event_of of) (owed token)) (take (place + 1) events)
    one-more token of =
        ap (λ (e : QueuedEvent). total (weighed_where (is_event_of of) (owed token)) (take place events) + weighed_where (is_event_of of) (owed token) e) (sym here)
        ∙ sym (total-more (weighed_where (is_event_of of) (owed token)) events place event lt)

-- ---- all that is held

pub held-are : (m : Market) (traders : Traders) (sizes : Lots) (g : PlainGathered) → traders ≡ m.traders → sizes ≡ m.listing.sizes → g.bids ≡ m.bids → g.asks ≡ m.asks → g.events ≡ m.events
    → (owner : Address) → with_gathered (free_at traders) sizes g owner ≡ held_amounts m owner
held-are m traders sizes g t s b a e owner =
    rw t rw s rw b rw a rw e (same-pair (omega arith) (omega arith))

-- in a sound market it is less than 2^64
own-le : {X : Type 0} (test : X → Bool) (weight : X → ℕ) (xs : List X) → total (weighed_where test weight) xs ≤ total weight xs
own-le test weight [] = omega arith
own-le test weight (x ∷ xs) =
    omega (arith, own-le test weight xs, cond_both (test x) (weight x) 0 (λ part. part ≤ weight x) (λ is. omega arith) (λ is. omega arith))

free-le : (token : Token) (owner : Address) (traders : Traders) → free_in token (trader_at owner traders) ≤ all_free token traders
free-le token owner traders = by (trader_at owner traders) refl
  where
    by : (found : Option Trader) → trader_at owner traders ≡ found → free_in token found ≤ all_free token traders
    by None is = omega arith
    by (Some trader) is = found-part (free_of token) owner trader traders is

pub held-small : (token : Token) (owner : Address) (m : Market) → IsSound m → held_for token owner m < 2 ^ 64
held-small token owner m sound =
    omega (
      arith,
      sound.funds.solvent.vaults token,
      sound.funds.bounded token,
      free-le token owner m.traders,
      own-le (is_order_of owner) (order_lock (locking_side token) m.listing.sizes) (orders (locking_side token) m),
      own-le (is_event_of owner) (owed token) m.events,
    )
