-- The first rule that an account breaks by itself, with the place and the values found and wanted there. The rules
-- stand in the order of their kinds, those of one kind in the order of their places.
use Rattle.std.specs.Prelude.{ℕ, Bool, ◌||◌, List, [], ◌∷◌, ◌++◌, length, take, drop, slice_index, slice_index_or, Option, Some, None, if◌then◌else◌, ◌==◌, nat_lt}
use Rattle.std.specs.Option.{option_map, option_or}
use Rattle.std.specs.List.{list_any}
use Rattle.dex_fields.specs.declared.field.Field.{Field}
use Rattle.dex_fields.specs.declared.frame.Difference.{Difference}
use Rattle.dex_fields.specs.declared.market.TheConstants.{ACCOUNT_FLAGS, OWN_ADDRESS, COIN_MINT, PC_MINT, COIN_VAULT, PC_VAULT, REQ_Q, EVENT_Q, BIDS, ASKS, COIN_LOT_SIZE, PC_LOT_SIZE}
use Rattle.dex_fields.specs.declared.request_queue.TheConstants as queue
use Rattle.dex_fields.specs.Bytes.{number_in}
use Rattle.dex_fields.specs.Frame.{frame_difference}
use Rattle.dex_types.specs.declared.faults.AccountFault.{AccountFault}
use Rattle.dex_types.specs.AccountFaults.{flags_fault, size_fault, text_fault, word_fault}
use Rattle.dex_types.specs.Addresses.{is_same}
use Rattle.dex_market.specs.MarketAccount.{address_in}

-- kind 5: an address that stands elsewhere too, reported by its first byte
abbrev pub address_fault : List ℕ → Field → AccountFault
address_fault bytes field = word_fault field.at (slice_index bytes field.at) 0

-- a byte of the text as a fault
abbrev pub told : Difference → AccountFault
told difference = text_fault difference.place difference.found difference.wanted

-- the text differs at the front or at the end
abbrev pub frame_rule : List ℕ → Option AccountFault
frame_rule bytes = option_map told (frame_difference bytes)

-- a word is not what it must be
abbrev pub word_rule : List ℕ → Field → ℕ → Option AccountFault
word_rule bytes field wanted =
    if number_in bytes field == wanted then None else Some (word_fault field.at (number_in bytes field) wanted)

-- ---- the market

-- the flags are neither a market's nor those of a disabled one
abbrev pub market_flags_rule : List ℕ → Option AccountFault
market_flags_rule bytes =
    if (number_in bytes ACCOUNT_FLAGS == 3) || (number_in bytes ACCOUNT_FLAGS == 131)
    then None
    else Some (flags_fault (number_in bytes ACCOUNT_FLAGS) 3)

-- the two mints are one
abbrev pub mint_rule : List ℕ → Option AccountFault
mint_rule bytes =
    if is_same (address_in bytes PC_MINT) (address_in bytes COIN_MINT) then Some (address_fault bytes PC_MINT) else None

-- two fields hold one address
abbrev pub is_address_at : List ℕ → Field → Field → Bool
is_address_at bytes field other = is_same (address_in bytes field) (address_in bytes other)

-- one of the later fields holds an address that stands before it
unfoldable pub repeat_rule : List ℕ → List Field → List Field → Option AccountFault
repeat_rule bytes earlier [] = None
repeat_rule bytes earlier (field ∷ later) =
    if list_any (is_address_at bytes field) earlier
    then Some (address_fault bytes field)
    else repeat_rule bytes (earlier ++ field ∷ []) later

-- the fields of the addresses, in the order in which they stand
abbrev pub address_fields : List Field
address_fields = OWN_ADDRESS ∷ COIN_MINT ∷ PC_MINT ∷ COIN_VAULT ∷ PC_VAULT ∷ REQ_Q ∷ EVENT_Q ∷ BIDS ∷ ASKS ∷ []

-- the field of address number `number`, from 0 to 8
abbrev pub field_at : ℕ → Field
field_at number = slice_index_or address_fields number (record { at = 0; len = 0 })

-- a vault, a queue or a side has an address that stands before it in the account
abbrev pub addresses_rule : List ℕ → Option AccountFault
addresses_rule bytes = repeat_rule bytes (take 3 address_fields) (drop 3 address_fields)

-- a lot size is zero
abbrev pub lot_rule : List ℕ → Field → Option AccountFault
lot_rule bytes field = if number_in bytes field == 0 then Some (word_fault field.at 0 1) else None

-- the first rule of fields that is broken
unfoldable pub market_fields_rule : List ℕ → Option AccountFault
market_fields_rule bytes =
    option_or (option_or (option_or (mint_rule bytes) (addresses_rule bytes)) (lot_rule bytes COIN_LOT_SIZE)) (lot_rule bytes PC_LOT_SIZE)

-- the first rule that a market account breaks
unfoldable pub market_fault : List ℕ → Option AccountFault
market_fault bytes =
    if length bytes == 388
    then option_or (option_or (frame_rule bytes) (market_flags_rule bytes)) (market_fields_rule bytes)
    else Some (size_fault (length bytes) 388)

-- ---- the request queue

-- the flags are not those of a request queue
abbrev pub request_flags_rule : List ℕ → Option AccountFault
request_flags_rule bytes =
    if number_in bytes queue.ACCOUNT_FLAGS == 9 then None else Some (flags_fault (number_in bytes queue.ACCOUNT_FLAGS) 9)

-- the first rule that a request queue breaks
unfoldable pub requests_fault : List ℕ → Option AccountFault
requests_fault bytes =
    if nat_lt (length bytes) 44
    then Some (size_fault (length bytes) 44)
    else option_or (option_or (option_or (frame_rule bytes) (request_flags_rule bytes)) (word_rule bytes queue.HEAD 0)) (word_rule bytes queue.COUNT 0)
