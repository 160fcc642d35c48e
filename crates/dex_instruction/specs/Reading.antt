-- What instruction data decodes to: the first broken rule, or the instruction whose fields stand after the tag.
use Rattle.std.specs.Prelude.{ℕ, ◌==◌, if◌then◌else◌, ℤ, Option, Some, None, Result, Ok, Err, List, length}
use Rattle.dex_types.specs.declared.instructions.BadData.{BadData}
use Rattle.dex_types.specs.declared.instructions.Ix.{Ix}
use Rattle.dex_types.specs.declared.instructions.Ix.TheVariants.{InitializeMarket, MatchOrders, ConsumeEvents, SettleFunds, DisableMarket, SweepFees, NewOrderV3, CancelOrderV2, CancelOrderByClientIdV2, SendTake, CloseOpenOrders, InitOpenOrders, Prune, CancelOrdersByClientIds}
use Rattle.dex_instruction.specs.Numbers.{number_at}
use Rattle.dex_instruction.specs.Codes.{side_of, self_trade_of, order_type_of, time_of}
use Rattle.dex_instruction.specs.IdList.{ids_in}
use Rattle.dex_instruction.specs.Rules.{tag_in, broken}

-- the market whose fields stand in the bytes
abbrev pub market_in : List ℕ → Ix
market_in bytes =
    InitializeMarket (number_at 8 5 bytes) (number_at 8 13 bytes) (number_at 2 21 bytes) (number_at 8 23 bytes) (number_at 8 31 bytes)

-- the latest time stands after the other fields of an order
abbrev pub latest_in : List ℕ → Option ℤ
latest_in bytes = if length bytes == 59 then Some (time_of (number_at 8 51 bytes)) else None

-- the order whose fields stand there
abbrev pub order_in : List ℕ → Ix
order_in bytes =
    NewOrderV3 (side_of (number_at 4 5 bytes)) (number_at 8 9 bytes) (number_at 8 17 bytes) (number_at 8 25 bytes)
    (self_trade_of (number_at 4 33 bytes)) (order_type_of (number_at 4 37 bytes)) (number_at 8 41 bytes) (number_at 2 49 bytes)
    (latest_in bytes)

-- the take whose fields stand there
abbrev pub take_in : List ℕ → Ix
take_in bytes =
    SendTake (side_of (number_at 4 5 bytes)) (number_at 8 9 bytes) (number_at 8 17 bytes) (number_at 8 25 bytes)
    (number_at 8 33 bytes) (number_at 8 41 bytes) (number_at 2 49 bytes)

-- the instruction that has the tag, with the fields that stand in the bytes
abbrev pub tagged : ℕ → List ℕ → Ix
tagged tag bytes =
    if tag == 0 then market_in bytes
    else (if tag == 2 then MatchOrders (number_at 2 5 bytes)
    else (if tag == 3 then ConsumeEvents (number_at 2 5 bytes)
    else (if tag == 5 then SettleFunds
    else (if tag == 7 then DisableMarket
    else (if tag == 8 then SweepFees
    else (if tag == 10 then order_in bytes
    else (if tag == 11 then CancelOrderV2 (side_of (number_at 4 5 bytes)) (number_at 16 9 bytes)
    else (if tag == 12 then CancelOrderByClientIdV2 (number_at 8 5 bytes)
    else (if tag == 13 then take_in bytes
    else (if tag == 14 then CloseOpenOrders
    else (if tag == 15 then InitOpenOrders
    else (if tag == 16 then Prune (number_at 2 5 bytes)
    else CancelOrdersByClientIds (ids_in bytes)))))))))))))

-- the instruction whose tag and fields stand in the bytes
unfoldable pub instruction : List ℕ → Ix
instruction bytes = tagged (tag_in bytes) bytes

-- an instruction, unless a rule is broken
abbrev pub unless_broken : Option BadData → Ix → Result Ix BadData
unless_broken None ix = Ok ix
unless_broken (Some fault) ix = Err fault

-- what the bytes decode to
unfoldable pub decoded : List ℕ → Result Ix BadData
decoded bytes = unless_broken (broken bytes) (instruction bytes)
