-- An instruction is read again from its spelling.
use Rattle.std.proofs.Common.{◌≡◌, ℕ, ℤ, ◌<◌, length, Option, Some, None, refl, ap, ◌∙◌, arith}
use Rattle.std.specs.Prelude.{if◌then◌else◌, ◌==◌}
use Rattle.std.specs.Int.{w64}
use Rattle.std.proofs.lemmas.Int.{to_z-of_z}
use Rattle.dex_types.specs.declared.terms.OrderType.{OrderType}
use Rattle.dex_types.specs.declared.terms.OrderType.TheVariants.{Limit, Ioc, PostOnly}
use Rattle.dex_types.specs.declared.terms.SelfTrade.{SelfTrade}
use Rattle.dex_types.specs.declared.terms.SelfTrade.TheVariants.{Decrement, CancelProvide, Abort}
use Rattle.dex_types.specs.declared.terms.Side.{Side}
use Rattle.dex_types.specs.declared.terms.Side.TheVariants.{Bid, Ask}
use Rattle.dex_types.specs.declared.client_ids.ClientIds.{ClientIds}
use Rattle.dex_types.specs.declared.instructions.Ix.{Ix}
use Rattle.dex_types.specs.declared.instructions.Ix.TheVariants.{InitializeMarket, MatchOrders, ConsumeEvents, SettleFunds, DisableMarket, SweepFees, NewOrderV3, CancelOrderV2, CancelOrderByClientIdV2, SendTake, CloseOpenOrders, InitOpenOrders, Prune, CancelOrdersByClientIds}
use Rattle.dex_instruction.specs.Codes.{side_code, side_of, self_trade_code, self_trade_of, order_type_code, order_type_of, time_code, time_of}
use Rattle.dex_instruction.specs.IdList.{ids_in}
use Rattle.dex_instruction.specs.Numbers.{number_at, widths}
use Rattle.dex_instruction.specs.Reading.{instruction, tagged, latest_in}
use Rattle.dex_instruction.specs.Rules.{tag_in}
use Rattle.dex_instruction.specs.Spelling.{AllFit, Fits, all_fields, spelling, tag_of}
use Rattle.dex_instruction.proofs.Fields.{length-spelled, nth, number_at-spelled, place_of}
use Rattle.dex_instruction.proofs.IdLists.{ids_in-spelled}

pub side_of-code : (side : Side) → side_of (side_code side) ≡ side
side_of-code Bid = refl
side_of-code Ask = refl

pub self_trade_of-code : (rule : SelfTrade) → self_trade_of (self_trade_code rule) ≡ rule
self_trade_of-code Decrement = refl
self_trade_of-code CancelProvide = refl
self_trade_of-code Abort = refl

pub order_type_of-code : (kind : OrderType) → order_type_of (order_type_code kind) ≡ kind
order_type_of-code Limit = refl
order_type_of-code Ioc = refl
order_type_of-code PostOnly = refl

-- the tag is one of nineteen
pub tag_of-lt : (ix : Ix) → tag_of ix < 19
tag_of-lt SettleFunds = omega arith
tag_of-lt ix = omega arith

all_fit : (ix : Ix) → Fits ix → AllFit (all_fields ix)
all_fit ix fits = (omega arith, (omega (arith, tag_of-lt ix), fits.0))

-- each field is read back from the spelling
pub field_again : (ix : Ix) → Fits ix → (i : ℕ) → number_at (nth (all_fields ix) i).0 (place_of (all_fields ix) i) (spelling ix) ≡ (nth (all_fields ix) i).1
unfolding spelling
field_again ix fits i = number_at-spelled (all_fields ix) i (all_fit ix fits)

pub length-spelling : (ix : Ix) → length (spelling ix) ≡ widths (all_fields ix)
unfolding spelling
length-spelling ix = length-spelled (all_fields ix)

-- a latest time is read back
latest_again : (side : Side) (price lots pc : ℕ) (self_trade : SelfTrade) (order_type : OrderType) (client limit : ℕ) (latest : Option ℤ)
    → Fits (NewOrderV3 side price lots pc self_trade order_type client limit latest)
    → latest_in (spelling (NewOrderV3 side price lots pc self_trade order_type client limit latest)) ≡ latest
latest_again side price lots pc self_trade order_type client limit None fits =
    let ix : Ix = NewOrderV3 side price lots pc self_trade order_type client limit None in
    ap (λ (n : ℕ). if n == 59 then Some (time_of (number_at 8 51 (spelling ix))) else None) (length-spelling ix)
latest_again side price lots pc self_trade order_type client limit (Some time) fits =
    let ix : Ix = NewOrderV3 side price lots pc self_trade order_type client limit (Some time) in
    let time_is : number_at 8 51 (spelling ix) ≡ time_code time = field_again ix fits 10 in
    ap (λ (n : ℕ). if n == 59 then Some (time_of (number_at 8 51 (spelling ix))) else None) (length-spelling ix)
    ∙ ap (λ (t : ℕ). Some (time_of t)) time_is ∙ ap Some (to_z-of_z w64 time fits.1)

ids_again : (ids : ClientIds) → Fits (CancelOrdersByClientIds ids) → ids_in (spelling (CancelOrdersByClientIds ids)) ≡ ids
unfolding spelling
ids_again ids fits = ids_in-spelled 18 ids fits.1 fits.0

-- the fields of an instruction with its tag are read back
fields_again : (ix : Ix) → Fits ix → tagged (tag_of ix) (spelling ix) ≡ ix
fields_again (InitializeMarket coin_lot pc_lot fee_rate_bps nonce dust) fits =
    let ix : Ix = InitializeMarket coin_lot pc_lot fee_rate_bps nonce dust in
    let coin_is : number_at 8 5 (spelling ix) ≡ coin_lot = field_again ix fits 2 in
    let pc_is : number_at 8 13 (spelling ix) ≡ pc_lot = field_again ix fits 3 in
    let fee_is : number_at 2 21 (spelling ix) ≡ fee_rate_bps = field_again ix fits 4 in
    let nonce_is : number_at 8 23 (spelling ix) ≡ nonce = field_again ix fits 5 in
    let dust_is : number_at 8 31 (spelling ix) ≡ dust = field_again ix fits 6 in
    cc
fields_again (MatchOrders limit) fits = ap MatchOrders (field_again (MatchOrders limit) fits 2)
fields_again (ConsumeEvents limit) fits = ap ConsumeEvents (field_again (ConsumeEvents limit) fits 2)
fields_again SettleFunds fits = refl
fields_again DisableMarket fits = refl
fields_again SweepFees fits = refl
fields_again (NewOrderV3 side price lots pc self_trade order_type client limit latest) fits =
    let ix : Ix = NewOrderV3 side price lots pc self_trade order_type client limit latest in
    let side_is : side_of (number_at 4 5 (spelling ix)) ≡ side = ap side_of (field_again ix fits 2) ∙ side_of-code side in
    let price_is : number_at 8 9 (spelling ix) ≡ price = field_again ix fits 3 in
    let lots_is : number_at 8 17 (spelling ix) ≡ lots = field_again ix fits 4 in
    let pc_is : number_at 8 25 (spelling ix) ≡ pc = field_again ix fits 5 in
    let self_trade_is : self_trade_of (number_at 4 33 (spelling ix)) ≡ self_trade = ap self_trade_of (field_again ix fits 6) ∙ self_trade_of-code self_trade in
    let order_type_is : order_type_of (number_at 4 37 (spelling ix)) ≡ order_type = ap order_type_of (field_again ix fits 7) ∙ order_type_of-code order_type in
    let client_is : number_at 8 41 (spelling ix) ≡ client = field_again ix fits 8 in
    let limit_is : number_at 2 49 (spelling ix) ≡ limit = field_again ix fits 9 in
    let latest_is : latest_in (spelling ix) ≡ latest = latest_again side price lots pc self_trade order_type client limit latest fits in
    cc
fields_again (CancelOrderV2 side id) fits =
    let ix : Ix = CancelOrderV2 side id in
    let side_is : side_of (number_at 4 5 (spelling ix)) ≡ side = ap side_of (field_again ix fits 2) ∙ side_of-code side in
    let id_is : number_at 16 9 (spelling ix) ≡ id = field_again ix fits 3 in
    cc
fields_again (CancelOrderByClientIdV2 client) fits = ap CancelOrderByClientIdV2 (field_again (CancelOrderByClientIdV2 client) fits 2)
fields_again (SendTake side price lots pc least_lots least_pc limit) fits =
    let ix : Ix = SendTake side price lots pc least_lots least_pc limit in
    let side_is : side_of (number_at 4 5 (spelling ix)) ≡ side = ap side_of (field_again ix fits 2) ∙ side_of-code side in
    let price_is : number_at 8 9 (spelling ix) ≡ price = field_again ix fits 3 in
    let lots_is : number_at 8 17 (spelling ix) ≡ lots = field_again ix fits 4 in
    let pc_is : number_at 8 25 (spelling ix) ≡ pc = field_again ix fits 5 in
    let least_lots_is : number_at 8 33 (spelling ix) ≡ least_lots = field_again ix fits 6 in
    let least_pc_is : number_at 8 41 (spelling ix) ≡ least_pc = field_again ix fits 7 in
    let limit_is : number_at 2 49 (spelling ix) ≡ limit = field_again ix fits 8 in
    cc
fields_again CloseOpenOrders fits = refl
fields_again InitOpenOrders fits = refl
fields_again (Prune limit) fits = ap Prune (field_again (Prune limit) fits 2)
fields_again (CancelOrdersByClientIds ids) fits = ap CancelOrdersByClientIds (ids_again ids fits)

-- an instruction is read again from its spelling
pub instruction-spelling : (ix : Ix) → Fits ix → instruction (spelling ix) ≡ ix
unfolding instruction
instruction-spelling ix fits =
    let tag_is : tag_in (spelling ix) ≡ tag_of ix = field_again ix fits 1 in
    ap (λ (tag : ℕ). tagged tag (spelling ix)) tag_is ∙ fields_again ix fits
