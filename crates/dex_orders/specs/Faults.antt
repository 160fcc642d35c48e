-- The first rule that an open-orders account breaks by itself, with the place and the values found and wanted there.
-- The rules stand in the order of their kinds, those of one kind in the order of their places.
use Rattle.std.specs.Prelude.{ℕ, Bool, ◌||◌, List, length, map, Option, Some, None, if◌then◌else◌, ◌==◌, nat_le}
use Rattle.std.specs.Option.{option_map, option_or}
use Rattle.std.specs.List.{list_all, range_with_len}
use Rattle.dex_fields.specs.declared.field.Field.{Field}
use Rattle.dex_fields.specs.declared.frame.Difference.{Difference}
use Rattle.dex_fields.specs.declared.open_orders.TheConstants.{ACCOUNT_FLAGS, NATIVE_COIN_FREE, NATIVE_COIN_TOTAL, NATIVE_PC_FREE, NATIVE_PC_TOTAL}
use Rattle.dex_fields.specs.Bytes.{number_in}
use Rattle.dex_fields.specs.Frame.{frame_difference}
use Rattle.dex_fields.specs.Rules.{first_fault}
use Rattle.dex_types.specs.declared.faults.AccountFault.{AccountFault}
use Rattle.dex_types.specs.AccountFaults.{flags_fault, size_fault, text_fault}
use Rattle.dex_orders.specs.OrdersAccount.{hold_one, id_field, slot_in}

-- kind 9: a free amount above its total, or a slot whose order a lower slot holds too
abbrev pub slots_fault : ℕ → ℕ → ℕ → AccountFault
slots_fault place found wanted = record { kind = 9; place = place; found = found; wanted = wanted }

-- a byte of the text as a fault
abbrev pub told : Difference → AccountFault
told difference = text_fault difference.place difference.found difference.wanted

-- every byte is zero
abbrev pub are_zeros : List ℕ → Bool
are_zeros bytes = list_all (λ byte. byte == 0) bytes

-- the text differs at the front or at the end
abbrev pub frame_rule : List ℕ → Option AccountFault
frame_rule bytes = option_map told (frame_difference bytes)

-- the flags are neither those of an open account nor those of a closed one
abbrev pub flags_rule : List ℕ → Option AccountFault
flags_rule bytes =
    if (number_in bytes ACCOUNT_FLAGS == 5) || (number_in bytes ACCOUNT_FLAGS == 256)
    then None
    else Some (flags_fault (number_in bytes ACCOUNT_FLAGS) 5)

-- a free amount is above its total
abbrev pub amount_rule : List ℕ → Field → Field → Option AccountFault
amount_rule bytes free total =
    if nat_le (number_in bytes free) (number_in bytes total)
    then None
    else Some (slots_fault free.at (number_in bytes free) (number_in bytes total))

-- the free amount that stands at this place is above its total
abbrev pub funds_rule : List ℕ → ℕ → Option AccountFault
funds_rule bytes place =
    if place == 77
    then amount_rule bytes NATIVE_COIN_FREE NATIVE_COIN_TOTAL
    else (if place == 93 then amount_rule bytes NATIVE_PC_FREE NATIVE_PC_TOTAL else None)

-- a slot and a lower one hold one order
abbrev pub pair_rule : List ℕ → ℕ → ℕ → Option AccountFault
pair_rule bytes slot lower =
    if hold_one (slot_in bytes slot) (slot_in bytes lower)
    then Some (slots_fault slot (number_in bytes (id_field slot)) lower)
    else None

-- a slot holds an order that a lower one holds too; the lowest such is reported
unfoldable pub repeat_rule : List ℕ → ℕ → Option AccountFault
repeat_rule bytes slot = first_fault (map (pair_rule bytes slot) (range_with_len 0 slot))

-- the rules of kind 9 whose place is this one: a free amount's offset, or a slot's number
abbrev pub place_rule : List ℕ → ℕ → Option AccountFault
place_rule bytes place = option_or (funds_rule bytes place) (repeat_rule bytes place)

-- the first place at which a rule of kind 9 is broken
unfoldable pub slots_rule : List ℕ → Option AccountFault
slots_rule bytes = first_fault (map (place_rule bytes) (range_with_len 0 128))

-- the first rule that an account of the right length which is not blank breaks
unfoldable pub opened_fault : List ℕ → Option AccountFault
opened_fault bytes = option_or (option_or (frame_rule bytes) (flags_rule bytes)) (slots_rule bytes)

-- the first rule that an open-orders account breaks
unfoldable pub orders_fault : List ℕ → Option AccountFault
orders_fault bytes =
    if length bytes == 3228
    then (if are_zeros bytes then None else opened_fault bytes)
    else Some (size_fault (length bytes) 3228)
