-- How each instruction is spelled: the version 0 in one byte, the tag in four, and the fields one after the other.
use Rattle.std.specs.Prelude.{◌≡◌, ℕ, ℤ, ◌<◌, ◌^◌, Bool, false, ◌||◌, ◌==◌, Option, Some, None, IfSome, List, [], ◌∷◌, take, map, FitsSigned, length, ⊤}
use Rattle.std.specs.Int.{w64}
use Rattle.dex_types.specs.declared.client_ids.ClientIds.{ClientIds}
use Rattle.dex_types.specs.declared.instructions.Ix.{Ix}
use Rattle.dex_types.specs.declared.instructions.Ix.TheVariants.{InitializeMarket, MatchOrders, ConsumeEvents, SettleFunds, DisableMarket, SweepFees, NewOrderV3, CancelOrderV2, CancelOrderByClientIdV2, SendTake, CloseOpenOrders, InitOpenOrders, Prune, CancelOrdersByClientIds}
use Rattle.dex_instruction.specs.Numbers.{Field, spelled}
use Rattle.dex_instruction.specs.Codes.{side_code, self_trade_code, order_type_code, time_code}

-- the instruction's tag
abbrev pub tag_of : Ix → ℕ
tag_of (InitializeMarket coin_lot pc_lot fee_rate_bps nonce dust) = 0
tag_of (MatchOrders limit) = 2
tag_of (ConsumeEvents limit) = 3
tag_of SettleFunds = 5
tag_of DisableMarket = 7
tag_of SweepFees = 8
tag_of (NewOrderV3 side price lots pc self_trade order_type client limit latest) = 10
tag_of (CancelOrderV2 side id) = 11
tag_of (CancelOrderByClientIdV2 client) = 12
tag_of (SendTake side price lots pc least_lots least_pc limit) = 13
tag_of CloseOpenOrders = 14
tag_of InitOpenOrders = 15
tag_of (Prune limit) = 16
tag_of (CancelOrdersByClientIds ids) = 18

-- a latest time, where the order has one
abbrev pub latest_fields : Option ℤ → List Field
latest_fields None = []
latest_fields (Some time) = (8, time_code time) ∷ []

-- the client ids that count
abbrev pub id_fields : ClientIds → List Field
id_fields ids = map (λ id. (8, id)) (take ids.count ids.ids)

-- the fields of the body, in order
abbrev pub fields_of : Ix → List Field
fields_of (InitializeMarket coin_lot pc_lot fee_rate_bps nonce dust) = (8, coin_lot) ∷ (8, pc_lot) ∷ (2, fee_rate_bps) ∷ (8, nonce) ∷ (8, dust) ∷ []
fields_of (MatchOrders limit) = (2, limit) ∷ []
fields_of (ConsumeEvents limit) = (2, limit) ∷ []
fields_of SettleFunds = []
fields_of DisableMarket = []
fields_of SweepFees = []
fields_of (NewOrderV3 side price lots pc self_trade order_type client limit latest) =
    (4, side_code side) ∷ (8, price) ∷ (8, lots) ∷ (8, pc) ∷ (4, self_trade_code self_trade) ∷ (4, order_type_code order_type) ∷ (8, client) ∷ (2, limit)
    ∷ latest_fields latest
fields_of (CancelOrderV2 side id) = (4, side_code side) ∷ (16, id) ∷ []
fields_of (CancelOrderByClientIdV2 client) = (8, client) ∷ []
fields_of (SendTake side price lots pc least_lots least_pc limit) =
    (4, side_code side) ∷ (8, price) ∷ (8, lots) ∷ (8, pc) ∷ (8, least_lots) ∷ (8, least_pc) ∷ (2, limit) ∷ []
fields_of CloseOpenOrders = []
fields_of InitOpenOrders = []
fields_of (Prune limit) = (2, limit) ∷ []
fields_of (CancelOrdersByClientIds ids) = id_fields ids

-- all fields, with the version and the tag in front
abbrev pub all_fields : Ix → List Field
all_fields ix = (1, 0) ∷ (4, tag_of ix) ∷ fields_of ix

-- the one spelling of an instruction
unfoldable pub spelling : Ix → List ℕ
spelling ix = spelled (all_fields ix)

-- a field that must not be 0 is 0
abbrev pub has_zero : Ix → Bool
has_zero (InitializeMarket coin_lot pc_lot fee_rate_bps nonce dust) = (coin_lot == 0) || (pc_lot == 0) || (dust == 0)
has_zero (NewOrderV3 side price lots pc self_trade order_type client limit latest) = (price == 0) || (lots == 0) || (pc == 0)
has_zero (SendTake side price lots pc least_lots least_pc limit) = (price == 0) || (lots == 0) || (pc == 0)
has_zero _ = false

-- each number fits its width
abbrev pub AllFit : List Field → Type 0
AllFit [] = ⊤
AllFit (field ∷ fields) = (field.1 < 256 ^ field.0) × AllFit fields

-- what the types of an instruction's parts say of them beside the widths
abbrev pub IsTyped : Ix → Type 0
IsTyped (NewOrderV3 side price lots pc self_trade order_type client limit latest) = IfSome latest (λ time. FitsSigned w64 time)
IsTyped (CancelOrdersByClientIds ids) = length ids.ids ≡ 8
IsTyped _ = ⊤

-- the numbers are within their types, as those of every instruction in the program are
abbrev pub Fits : Ix → Type 0
Fits ix = AllFit (fields_of ix) × IsTyped ix
