-- What was done by some names for bytes was done by others that are the same.
use Rattle.std.proofs.Common.{◌≡◌, ℕ, List, refl, subst}
use Rattle.dex_types.specs.declared.replies.Reply.{Reply}
use Rattle.dex_types.specs.Accounts.{PlainAccount}
use Rattle.dex_match.specs.declared.order_terms.Taker.{Taker}
use Rattle.dex_types.specs.declared.addresses.Address.{Address}
use Rattle.dex_types.specs.declared.terms.Lots.{Lots}
use Rattle.dex_types.specs.Cancel.{CancelBy}
use Rattle.dex_crank.specs.declared.crank.Consumed.{Consumed}
use Rattle.dex_crank.specs.PaidBytes.{CrankBytes}
use Rattle.dex_step.specs.CancelActs.{CancelBytes, HasCancelled, cancel_bytes}
use Rattle.dex_step.specs.ConsumeActs.{HasConsumed}
use Rattle.dex_step.specs.OrderActs.{HasOrdered, OrderBytes, order_bytes}

pub cancel-bytes-same : (sizes : Lots) (bids bids' asks asks' events events' : List ℕ) → bids ≡ bids' → asks ≡ asks' → events ≡ events'
    → cancel_bytes sizes bids asks events ≡ cancel_bytes sizes bids' asks' events'
cancel-bytes-same sizes bids bids' asks asks' events events' a b c = rw (a, b, c) refl

pub cancelled-same : (by : CancelBy) (owner : Address) (count : ℕ) (before before' after after' : CancelBytes) → HasCancelled by owner count before after → before ≡ before' → after ≡ after'
    → HasCancelled by owner count before' after'
cancelled-same by owner count before before' after after' done b a =
    subst (λ (x : CancelBytes). HasCancelled by owner count before' x) a (subst (λ (x : CancelBytes). HasCancelled by owner count x after) b done)

pub order-bytes-same : (market market' requests requests' events events' account account' own own' met met' : List ℕ) → market ≡ market' → requests ≡ requests'
    → events ≡ events' → account ≡ account' → own ≡ own' → met ≡ met'
    → order_bytes market requests events account own met ≡ order_bytes market' requests' events' account' own' met'
order-bytes-same market market' requests requests' events events' account account' own own' met met' a b c d e f = rw (a, b, c, d, e, f) refl

pub ordered-same : (taker : Taker) (reply : Reply) (before before' after after' : OrderBytes) → HasOrdered taker reply before after → before ≡ before' → after ≡ after'
    → HasOrdered taker reply before' after'
ordered-same taker reply before before' after after' done b a =
    subst (λ (x : OrderBytes). HasOrdered taker reply before' x) a (subst (λ (x : OrderBytes). HasOrdered taker reply x after) b done)

pub crank-bytes-same : (queue queue' : List ℕ) (accounts accounts' : List PlainAccount) → queue ≡ queue' → accounts ≡ accounts' →
    let by : List ℕ → List PlainAccount → CrankBytes = λ q a. record { queue = q; accounts = a } in by queue accounts ≡ by queue' accounts'
crank-bytes-same queue queue' accounts accounts' a b = rw (a, b) refl

pub consumed-same : (limit : ℕ) (named : List Address) (consumed : Consumed) (before before' after after' : CrankBytes) → HasConsumed limit named consumed before after → before ≡ before'
    → after ≡ after' → HasConsumed limit named consumed before' after'
consumed-same limit named consumed before before' after after' done b a =
    subst (λ (x : CrankBytes). HasConsumed limit named consumed before' x) a (subst (λ (x : CrankBytes). HasConsumed limit named consumed x after) b done)
