-- The first rule that an event queue breaks by itself, with the place and the values found and wanted there. The rules
-- stand in the order of their kinds, those of one kind in the order of their places.
use Rattle.std.specs.Prelude.{ℕ, List, length, map, Option, Some, None, if◌then◌else◌, ◌==◌, nat_lt, nat_le}
use Rattle.std.specs.Option.{option_map, option_or}
use Rattle.std.specs.List.{range_with_len}
use Rattle.dex_fields.specs.declared.frame.Difference.{Difference}
use Rattle.dex_fields.specs.declared.event_queue.TheConstants.{ACCOUNT_FLAGS, HEAD, COUNT}
use Rattle.dex_fields.specs.Bytes.{number_in}
use Rattle.dex_fields.specs.Frame.{frame_difference}
use Rattle.dex_fields.specs.Rules.{first_fault}
use Rattle.dex_types.specs.declared.faults.AccountFault.{AccountFault}
use Rattle.dex_types.specs.declared.orders.Event.{Event}
use Rattle.dex_types.specs.AccountFaults.{flags_fault, size_fault, text_fault}
use Rattle.dex_ring.specs.EventBytes.{are_event_flags}
use Rattle.dex_ring.specs.Ring.{capacity_of, event_at}

-- kind 7: head or count against the capacity
abbrev pub ring_fault : ℕ → ℕ → ℕ → AccountFault
ring_fault place found capacity = record { kind = 7; place = place; found = found; wanted = capacity }

-- kind 8: a byte of the event with this number from the front
abbrev pub event_fault : ℕ → ℕ → AccountFault
event_fault number found = record { kind = 8; place = number; found = found; wanted = 0 }

-- a byte of the text as a fault
abbrev pub told : Difference → AccountFault
told difference = text_fault difference.place difference.found difference.wanted

-- the account holds no event, or more than a queue may
abbrev pub size_rule : List ℕ → Option AccountFault
size_rule bytes =
    if nat_lt (length bytes) 132
    then Some (size_fault (length bytes) 132)
    else (if nat_lt 5767211 (length bytes) then Some (size_fault (length bytes) 5767211) else None)

-- the text differs at the front or at the end
abbrev pub frame_rule : List ℕ → Option AccountFault
frame_rule bytes = option_map told (frame_difference bytes)

-- the flags are not those of an event queue
abbrev pub flags_rule : List ℕ → Option AccountFault
flags_rule bytes =
    if number_in bytes ACCOUNT_FLAGS == 17 then None else Some (flags_fault (number_in bytes ACCOUNT_FLAGS) 17)

-- the head is no place of the ring
abbrev pub head_rule : List ℕ → Option AccountFault
head_rule bytes =
    if nat_lt (number_in bytes HEAD) (capacity_of bytes)
    then None
    else Some (ring_fault HEAD.at (number_in bytes HEAD) (capacity_of bytes))

-- more events are in use than there is room for
abbrev pub count_rule : List ℕ → Option AccountFault
count_rule bytes =
    if nat_le (number_in bytes COUNT) (capacity_of bytes)
    then None
    else Some (ring_fault COUNT.at (number_in bytes COUNT) (capacity_of bytes))

-- the flags of an event are none of a kind, or its slot is above 127, or its tier above 6
abbrev pub event_rule : ℕ → Event → Option AccountFault
event_rule number event =
    if are_event_flags event.flags
    then (if nat_lt event.slot 128
    then (if nat_lt event.tier 7 then None else Some (event_fault number event.tier))
    else Some (event_fault number event.slot))
    else Some (event_fault number event.flags)

-- an event in use is none that a queue may hold
unfoldable pub events_rule : List ℕ → Option AccountFault
events_rule bytes = first_fault (map (λ number. event_rule number (event_at bytes number)) (range_with_len 0 (number_in bytes COUNT)))

-- the first rule that the header breaks
unfoldable pub header_rule : List ℕ → Option AccountFault
header_rule bytes = option_or (option_or (option_or (frame_rule bytes) (flags_rule bytes)) (head_rule bytes)) (count_rule bytes)

-- the first rule that an event queue breaks
unfoldable pub queue_fault : List ℕ → Option AccountFault
queue_fault bytes = option_or (size_rule bytes) (option_or (header_rule bytes) (events_rule bytes))
