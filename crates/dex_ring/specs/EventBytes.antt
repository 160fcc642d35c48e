-- An event as the 88 bytes that stand for it, and which events a queue may hold.
use Rattle.std.specs.Prelude.{◌≡◌, ℕ, ◌<◌, Bool, ◌==◌, List, [], ◌∷◌, replicate}
use Rattle.std.specs.List.{concat}
use Rattle.dex_fields.specs.declared.event.TheConstants.{FLAGS, OWNER_SLOT, FEE_TIER, NATIVE_QTY_RELEASED, NATIVE_QTY_PAID, NATIVE_FEE_OR_REBATE, ORDER_ID, OWNER, CLIENT_ORDER_ID}
use Rattle.dex_fields.specs.Bytes.{bytes_in, bytes_of_number, number_in}
use Rattle.dex_types.specs.declared.orders.Event.{Event}
use Rattle.dex_types.specs.QueuedEvent.{flags_of, kind_of}

-- the bytes of each field, in the order in which they stand; the fourth is padding
abbrev pub event_parts : Event → List (List ℕ)
event_parts e =
    bytes_of_number 1 e.flags
    ∷ bytes_of_number 1 e.slot
    ∷ bytes_of_number 1 e.tier
    ∷ replicate {A = ℕ} 5 0
    ∷ bytes_of_number 8 e.released
    ∷ bytes_of_number 8 e.paid
    ∷ bytes_of_number 8 e.fee_or_rebate
    ∷ bytes_of_number 16 e.id
    ∷ e.owner.0
    ∷ bytes_of_number 8 e.client
    ∷ []

-- the bytes of an event
unfoldable pub event_bytes : Event → List ℕ
event_bytes e = concat (event_parts e)

-- the event that 88 bytes say
unfoldable pub event_of : List ℕ → Event
event_of bytes = record {
  flags = number_in bytes FLAGS;
  slot = number_in bytes OWNER_SLOT;
  tier = number_in bytes FEE_TIER;
  released = number_in bytes NATIVE_QTY_RELEASED;
  paid = number_in bytes NATIVE_QTY_PAID;
  fee_or_rebate = number_in bytes NATIVE_FEE_OR_REBATE;
  id = number_in bytes ORDER_ID;
  owner = record { 0 = bytes_in bytes OWNER };
  client = number_in bytes CLIENT_ORDER_ID;
}

-- the flags are those of one of the eight kinds of events
abbrev pub AreEventFlags : ℕ → Type 0
AreEventFlags flags = flags_of (kind_of flags) ≡ flags

-- the test of it
abbrev pub are_event_flags : ℕ → Bool
are_event_flags flags = flags_of (kind_of flags) == flags

-- an event that a queue may hold
pub record IsQueued (event : Event) : Type 0 where
  pub flags : AreEventFlags event.flags
  pub slot : event.slot < 128
  pub tier : event.tier < 7
