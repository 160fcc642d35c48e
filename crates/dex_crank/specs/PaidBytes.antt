-- What consuming events leaves of the bytes of the event queue and of the open-orders accounts.
use Rattle.std.specs.Prelude.{◌≡◌, ℕ, zero, suc, List, [], ◌∷◌, Some, None, Bool, false, map, IsSome, slice_index_or, if◌then◌else◌}
use Rattle.dex_orders.specs.OrdersAccount.{IsOpen, account_of, funded, funds_of, removed}
use Rattle.dex_ring.specs.Ring.{event_at, popped}
use Rattle.dex_types.specs.declared.account_bytes.OrdersAccount.{OrdersAccount}
use Rattle.dex_types.specs.declared.addresses.Address.{Address}
use Rattle.dex_types.specs.Accounts.{PlainAccount, orders_account_of}
use Rattle.dex_types.specs.Payment.{is_named}
use Rattle.dex_types.specs.QueuedEvent.{QueuedEvent, decoded_event}
use Rattle.dex_types.specs.Soundness.{is_final}
use Rattle.dex_accounts.specs.Owners.{bytes_at, changed_at}
use Rattle.dex_crank.specs.Funds.{FitsFunds, paid_funds}

-- the bytes that a crank reads and writes: those of the event queue, and each open-orders account's
pub record CrankBytes : Type 0 where
  pub queue : List ℕ
  pub accounts : List PlainAccount

-- the bytes of a queue and of accounts
abbrev pub crank_of : List ℕ → List PlainAccount → CrankBytes
crank_of queue accounts = record { queue = queue; accounts = accounts }

-- the bytes of a queue and of accounts that each own theirs
abbrev pub crank_bytes : List ℕ → List OrdersAccount → CrankBytes
crank_bytes queue accounts = crank_of queue (map orders_account_of accounts)

-- ---- one account

-- the account with its slot free, id, client id and side bit zero, where the event is the last of its order
abbrev pub freed_in : QueuedEvent → List ℕ → List ℕ
freed_in event bytes = if is_final event then removed bytes event.slot else bytes

-- the account after the event was paid: other funds, and the slot where it is freed
unfoldable pub paid_in : QueuedEvent → List ℕ → List ℕ
paid_in event bytes = freed_in event (funded bytes (paid_funds event.kind event (funds_of (account_of bytes))))

-- the account can be paid: it is open, its slot holds an order, and the amounts fit
pub record CanTake (event : QueuedEvent) (bytes : List ℕ) : Type 0 where
  pub accepted : IsOpen bytes
  pub fits : FitsFunds event.kind event (funds_of (account_of bytes))
  pub held : IsSome (slice_index_or (account_of bytes).slots event.slot None)

-- ---- the owner's account among others

-- the owner's account is among these, and can be paid
pub record HasOwner (event : QueuedEvent) (accounts : List PlainAccount) : Type 0 where
  pub bytes : List ℕ
  pub found : bytes_at event.owner accounts ≡ Some bytes
  pub can_take : CanTake event bytes

-- ---- events

-- the event at the head was paid to its owner's account and left the queue
unfoldable pub paid_first : CrankBytes → CrankBytes
paid_first bytes =
    let event = decoded_event (event_at bytes.queue 0) in
    record { queue = popped bytes.queue; accounts = changed_at event.owner (paid_in event) bytes.accounts }

-- this many events were paid, one after the other
abbrev pub paid_bytes : ℕ → CrankBytes → CrankBytes
paid_bytes zero bytes = bytes
paid_bytes (suc count) bytes = paid_first (paid_bytes count bytes)

-- the bytes after several calls, the first of which consumes the first of these numbers of events, and so on
abbrev pub after_calls : List ℕ → CrankBytes → CrankBytes
after_calls [] bytes = bytes
after_calls (count ∷ counts) bytes = after_calls counts (paid_bytes count bytes)

-- an event is pending, and its owner is named
abbrev pub goes_on : List Address → List QueuedEvent → Bool
goes_on named [] = false
goes_on named (event ∷ events) = is_named event.owner named
