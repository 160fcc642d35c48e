-- What an open-orders account says, which bytes are one, and what each call leaves.
use Rattle.std.specs.Prelude.{◌≡◌, ℕ, ◌-◌, ◌<◌, ◌≤◌, ◌^◌, ◌⊎◌, Bool, false, ◌&&◌, ◌==◌, List, length, map, slice_index, slice_index_or, Option, Some, None, if◌then◌else◌}
use Rattle.std.specs.List.{range_with_len}
use Rattle.dex_fields.specs.declared.field.Field.{Field}
use Rattle.dex_fields.specs.declared.frame.TheConstants.{END_TEXT, FRONT_TEXT}
use Rattle.dex_fields.specs.declared.open_orders.TheConstants.{SERUM, ACCOUNT_FLAGS, MARKET, OWNER, NATIVE_COIN_FREE, NATIVE_COIN_TOTAL, NATIVE_PC_FREE, NATIVE_PC_TOTAL, FREE_SLOT_BITS, IS_BID_BITS, ORDERS, CLIENT_ORDER_IDS, REFERRER_REBATES_ACCRUED, PADDING}
use Rattle.dex_fields.specs.Bytes.{bytes_in, item_of, number_in, with_bytes, with_number}
use Rattle.dex_fields.specs.Frame.{IsFramed}
use Rattle.dex_types.specs.declared.addresses.Address.{Address}
use Rattle.dex_types.specs.declared.terms.Side.{Side}
use Rattle.dex_types.specs.declared.terms.Side.TheVariants.{Bid, Ask}
use Rattle.dex_types.specs.Side.{by_side}
use Rattle.dex_types.specs.Tokens.{is_same_side}
use Rattle.dex_types.specs.Trader.{Account, Holding}
use Rattle.dex_types.specs.Upkeep.{taken_slots}
use Rattle.dex_orders.specs.declared.amounts.Funds.{Funds}
use Rattle.dex_orders.specs.Bits.{is_set, with_bit, without_bit}

-- ---- what the bytes say

-- the address that stands in a field
abbrev pub address_in : List ℕ → Field → Address
address_in bytes field = record { 0 = bytes_in bytes field }

-- the field of a slot's id
abbrev pub id_field : ℕ → Field
id_field slot = item_of ORDERS 16 slot

-- the field of a slot's client id
abbrev pub client_field : ℕ → Field
client_field slot = item_of CLIENT_ORDER_IDS 8 slot

-- the side of a taken slot's order, by its bit
abbrev pub side_by_bit : Bool → Side
side_by_bit is_bid = if is_bid then Bid else Ask

-- what a slot with these bits, id and client id holds
abbrev pub holding_of : Bool → Bool → ℕ → ℕ → Option Holding
holding_of is_free is_bid id client = if is_free then None else Some (record { id = id; side = side_by_bit is_bid; client = client })

-- what the slot with this number holds
unfoldable pub slot_in : List ℕ → ℕ → Option Holding
slot_in bytes slot =
    holding_of
    (is_set (number_in bytes FREE_SLOT_BITS) slot)
    (is_set (number_in bytes IS_BID_BITS) slot)
    (number_in bytes (id_field slot))
    (number_in bytes (client_field slot))

-- the 128 slots
unfoldable pub slots_of : List ℕ → List (Option Holding)
slots_of bytes = map (slot_in bytes) (range_with_len 0 128)

-- the market's address
abbrev pub market_of : List ℕ → Address
market_of bytes = address_in bytes MARKET

-- the trader's account on that market
abbrev pub account_of : List ℕ → Account
account_of bytes = record {
  person = address_in bytes OWNER;
  coin = record { free = number_in bytes NATIVE_COIN_FREE; total = number_in bytes NATIVE_COIN_TOTAL };
  pc = record { free = number_in bytes NATIVE_PC_FREE; total = number_in bytes NATIVE_PC_TOTAL };
  referrer = number_in bytes REFERRER_REBATES_ACCRUED;
  slots = slots_of bytes;
}

-- ---- funds

-- the funds of an account, as one value
abbrev pub funds_of : Account → Funds
funds_of account = record {
  coin_free = account.coin.free;
  coin_total = account.coin.total;
  pc_free = account.pc.free;
  pc_total = account.pc.total;
  referrer = account.referrer;
}

-- the account with these funds
abbrev pub with_funds : Funds → Account → Account
with_funds funds account = record account {
  coin = record { free = funds.coin_free; total = funds.coin_total };
  pc = record { free = funds.pc_free; total = funds.pc_total };
  referrer = funds.referrer;
}

-- the funds are in order, and fit words of 64 bits
pub record FundsFit (funds : Funds) : Type 0 where
  pub coin : funds.coin_free ≤ funds.coin_total
  pub pc : funds.pc_free ≤ funds.pc_total
  pub coin_total : funds.coin_total < 2 ^ 64
  pub pc_total : funds.pc_total < 2 ^ 64
  pub referrer : funds.referrer < 2 ^ 64

-- ---- slots

-- the slot holds the order of this id and side
abbrev pub holds_order : ℕ → Side → Option Holding → Bool
holds_order id side None = false
holds_order id side (Some held) = (held.id == id) && is_same_side held.side side

-- two slots hold one order
abbrev pub hold_one : Option Holding → Option Holding → Bool
hold_one None other = false
hold_one (Some held) other = holds_order held.id held.side other

-- no slot holds the order of this id and side
abbrev pub HasNoOrder : ℕ → Side → List (Option Holding) → Type 0
HasNoOrder id side slots = (slot : ℕ) → holds_order id side (slice_index_or slots slot None) ≡ false

-- no two slots hold one order
abbrev pub AreDistinct : List (Option Holding) → Type 0
AreDistinct slots = (i j : ℕ) → i < j → hold_one (slice_index_or slots j None) (slice_index_or slots i None) ≡ false

-- what a slot's order is reported as
abbrev pub told_holding : Holding → ℕ × Side × ℕ
told_holding held = (held.id, held.side, held.client)

-- ---- which bytes are an open-orders account

-- never opened: 3,228 zeros
pub record IsBlank (bytes : List ℕ) : Type 0 where
  pub size : length bytes ≡ 3228
  pub zeros : (place : ℕ) → slice_index bytes place ≡ 0

-- opened, and whether closed since is not said
pub record IsOpened (bytes : List ℕ) : Type 0 where
  pub size : length bytes ≡ 3228
  pub framed : IsFramed bytes
  pub coin : number_in bytes NATIVE_COIN_FREE ≤ number_in bytes NATIVE_COIN_TOTAL
  pub pc : number_in bytes NATIVE_PC_FREE ≤ number_in bytes NATIVE_PC_TOTAL
  pub distinct : AreDistinct (slots_of bytes)

-- open: the flags are Initialized and OpenOrders
pub record IsOpen (bytes : List ℕ) : Type 0 where
  pub opened : IsOpened bytes
  pub flags : number_in bytes ACCOUNT_FLAGS ≡ 5

-- closed for good: the flags are Closed alone
pub record IsClosed (bytes : List ℕ) : Type 0 where
  pub opened : IsOpened bytes
  pub flags : number_in bytes ACCOUNT_FLAGS ≡ 256

-- an open-orders account that the program accepts
abbrev pub IsOrders : List ℕ → Type 0
IsOrders bytes = IsBlank bytes ⊎ (IsOpen bytes ⊎ IsClosed bytes)

-- an account without funds and orders
pub record IsEmptyAccount (account : Account) : Type 0 where
  pub coin : account.coin.total ≡ 0
  pub pc : account.pc.total ≡ 0
  pub referrer : account.referrer ≡ 0
  pub slots : taken_slots account.slots ≡ 0

-- ---- what the calls leave

-- a blank account that is opened
abbrev pub opened : List ℕ → Address → Address → List ℕ
opened bytes market owner =
    with_bytes
    (with_number
    (with_bytes
    (with_bytes (with_number (with_bytes bytes SERUM FRONT_TEXT) ACCOUNT_FLAGS 5) MARKET market.0)
    OWNER
    owner.0)
    FREE_SLOT_BITS
    (2 ^ 128 - 1))
    PADDING
    END_TEXT

-- the four parts of a slot
abbrev pub with_slot : List ℕ → ℕ → ℕ → ℕ → ℕ → ℕ → List ℕ
with_slot bytes slot free_bits bid_bits id client =
    with_number
    (with_number (with_number (with_number bytes FREE_SLOT_BITS free_bits) IS_BID_BITS bid_bits) (id_field slot) id)
    (client_field slot)
    client

-- an order in a free slot
abbrev pub added : List ℕ → ℕ → ℕ → Side → ℕ → List ℕ
added bytes slot id side client =
    with_slot
    bytes
    slot
    (without_bit (number_in bytes FREE_SLOT_BITS) slot)
    (by_side side (with_bit (number_in bytes IS_BID_BITS) slot) (without_bit (number_in bytes IS_BID_BITS) slot))
    id
    client

-- a slot that is free again, with zeros as its id, client id and side bit
abbrev pub removed : List ℕ → ℕ → List ℕ
removed bytes slot =
    with_slot
    bytes
    slot
    (with_bit (number_in bytes FREE_SLOT_BITS) slot)
    (without_bit (number_in bytes IS_BID_BITS) slot)
    0
    0

-- other funds
abbrev pub funded : List ℕ → Funds → List ℕ
funded bytes funds =
    with_number
    (with_number
    (with_number
    (with_number (with_number bytes NATIVE_COIN_FREE funds.coin_free) NATIVE_COIN_TOTAL funds.coin_total)
    NATIVE_PC_FREE
    funds.pc_free)
    NATIVE_PC_TOTAL
    funds.pc_total)
    REFERRER_REBATES_ACCRUED
    funds.referrer
