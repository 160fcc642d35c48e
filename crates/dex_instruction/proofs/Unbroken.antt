-- A spelling breaks no rule but that of the fields that must not be 0.
use Rattle.std.proofs.Common.{◌≡◌, ℕ, ◌+◌, ◌-◌, ◌*◌, ◌%◌, ◌≤◌, List, length, Option, Some, None, Ok, Err, Bool, true, false, refl, ap, ◌∙◌, arith}
use Rattle.std.specs.Prelude.{if◌then◌else◌, nat_lt, nat_le, take}
use Rattle.std.proofs.lemmas.Bool.{le-leb, le-ltb}
use Rattle.std.proofs.lemmas.List.{length-take-le}
use Rattle.dex_types.specs.declared.instructions.BadData.{BadData}
use Rattle.dex_types.specs.declared.instructions.BadData.TheVariants.{ZeroField}
use Rattle.dex_types.specs.declared.instructions.Ix.{Ix}
use Rattle.dex_types.specs.declared.instructions.Ix.TheVariants.{InitializeMarket, SettleFunds, NewOrderV3, CancelOrderV2, SendTake, CancelOrdersByClientIds}
use Rattle.dex_types.specs.declared.terms.OrderType.{OrderType}
use Rattle.dex_types.specs.declared.terms.OrderType.TheVariants.{Limit, Ioc, PostOnly}
use Rattle.dex_types.specs.declared.terms.SelfTrade.{SelfTrade}
use Rattle.dex_types.specs.declared.terms.SelfTrade.TheVariants.{Decrement, CancelProvide, Abort}
use Rattle.dex_types.specs.declared.terms.Side.{Side}
use Rattle.dex_types.specs.declared.terms.Side.TheVariants.{Bid, Ask}
use Rattle.dex_instruction.specs.Codes.{side_code, self_trade_code, order_type_code}
use Rattle.dex_instruction.specs.Numbers.{number_at, widths}
use Rattle.dex_instruction.specs.Reading.{decoded, instruction, unless_broken}
use Rattle.dex_instruction.specs.Rules.{tag_in, is_unknown, is_retired, is_body_length, has_zero_field, has_bad_enum, broken}
use Rattle.dex_instruction.specs.Spelling.{Fits, fields_of, has_zero, spelling, tag_of}
use Rattle.dex_instruction.proofs.Again.{field_again, instruction-spelling, length-spelling}
use Rattle.dex_instruction.proofs.IdLists.{widths-as_fields}

-- the first broken rule, where the first five rules hold and no code is none
broken_by : (bytes : List ℕ) (tag size : ℕ) → length bytes ≡ 5 + size → number_at 1 0 bytes ≡ 0 → tag_in bytes ≡ tag
    → is_unknown tag ≡ false → is_retired tag ≡ false → is_body_length tag size ≡ true → has_bad_enum tag bytes ≡ false
    → broken bytes ≡ (if has_zero_field tag bytes then Some ZeroField else None)
unfolding broken
broken_by bytes tag size long version tag_is known current whole codes =
    let room : nat_lt (length bytes) 5 ≡ false = le-ltb _ _ (omega arith) in
    let body : length bytes - 5 ≡ size = omega arith in
    rw (room, version, tag_is, known, current, body, whole, codes) refl

tag_is_known : (ix : Ix) → is_unknown (tag_of ix) ≡ false
tag_is_known SettleFunds = refl
tag_is_known ix = refl

tag_is_current : (ix : Ix) → is_retired (tag_of ix) ≡ false
tag_is_current SettleFunds = refl
tag_is_current ix = refl

ids_have_length : (count : ℕ) → 1 ≤ count → count ≤ 8 → is_body_length 18 (8 * count) ≡ true
ids_have_length count low high =
    let whole : 8 * count % 8 ≡ 0 = omega arith in
    let some : nat_le 8 (8 * count) ≡ true = le-leb 8 (8 * count) (omega arith) in
    let few : nat_le (8 * count) 64 ≡ true = le-leb (8 * count) 64 (omega arith) in
    rw (whole, some, few) refl

size_is_right : (ix : Ix) → Fits ix → is_body_length (tag_of ix) (widths (fields_of ix)) ≡ true
size_is_right (NewOrderV3 side price lots pc self_trade order_type client limit None) fits = refl
size_is_right (NewOrderV3 side price lots pc self_trade order_type client limit (Some time)) fits = refl
size_is_right (CancelOrdersByClientIds ids) fits =
    let many : length (take ids.count ids.ids) ≡ ids.count = length-take-le ids.count ids.ids (omega (arith, fits.1, ids.at_most_eight)) in
    ap (is_body_length 18) (widths-as_fields (take ids.count ids.ids) ∙ ap (λ (n : ℕ). 8 * n) many) ∙ ids_have_length ids.count ids.some ids.at_most_eight
size_is_right ix fits = refl

side_is_one : (side : Side) → nat_lt 1 (side_code side) ≡ false
side_is_one Bid = refl
side_is_one Ask = refl

self_trade_is_one : (rule : SelfTrade) → nat_lt 2 (self_trade_code rule) ≡ false
self_trade_is_one Decrement = refl
self_trade_is_one CancelProvide = refl
self_trade_is_one Abort = refl

order_type_is_one : (kind : OrderType) → nat_lt 2 (order_type_code kind) ≡ false
order_type_is_one Limit = refl
order_type_is_one Ioc = refl
order_type_is_one PostOnly = refl

codes_are_right : (ix : Ix) → Fits ix → has_bad_enum (tag_of ix) (spelling ix) ≡ false
codes_are_right (NewOrderV3 side price lots pc self_trade order_type client limit latest) fits =
    let ix : Ix = NewOrderV3 side price lots pc self_trade order_type client limit latest in
    let side_is : nat_lt 1 (number_at 4 5 (spelling ix)) ≡ false = ap (nat_lt 1) (field_again ix fits 2) ∙ side_is_one side in
    let self_trade_is : nat_lt 2 (number_at 4 33 (spelling ix)) ≡ false = ap (nat_lt 2) (field_again ix fits 6) ∙ self_trade_is_one self_trade in
    let order_type_is : nat_lt 2 (number_at 4 37 (spelling ix)) ≡ false = ap (nat_lt 2) (field_again ix fits 7) ∙ order_type_is_one order_type in
    rw (side_is, self_trade_is, order_type_is) refl
codes_are_right (CancelOrderV2 side id) fits = ap (nat_lt 1) (field_again (CancelOrderV2 side id) fits 2) ∙ side_is_one side
codes_are_right (SendTake side price lots pc least_lots least_pc limit) fits =
    ap (nat_lt 1) (field_again (SendTake side price lots pc least_lots least_pc limit) fits 2) ∙ side_is_one side
codes_are_right ix fits = refl

zeros_are_those : (ix : Ix) → Fits ix → has_zero_field (tag_of ix) (spelling ix) ≡ has_zero ix
zeros_are_those (InitializeMarket coin_lot pc_lot fee_rate_bps nonce dust) fits =
    let ix : Ix = InitializeMarket coin_lot pc_lot fee_rate_bps nonce dust in
    let coin_is : number_at 8 5 (spelling ix) ≡ coin_lot = field_again ix fits 2 in
    let pc_is : number_at 8 13 (spelling ix) ≡ pc_lot = field_again ix fits 3 in
    let dust_is : number_at 8 31 (spelling ix) ≡ dust = field_again ix fits 6 in
    rw (coin_is, pc_is, dust_is) refl
zeros_are_those (NewOrderV3 side price lots pc self_trade order_type client limit latest) fits =
    let ix : Ix = NewOrderV3 side price lots pc self_trade order_type client limit latest in
    let price_is : number_at 8 9 (spelling ix) ≡ price = field_again ix fits 3 in
    let lots_is : number_at 8 17 (spelling ix) ≡ lots = field_again ix fits 4 in
    let pc_is : number_at 8 25 (spelling ix) ≡ pc = field_again ix fits 5 in
    rw (price_is, lots_is, pc_is) refl
zeros_are_those (SendTake side price lots pc least_lots least_pc limit) fits =
    let ix : Ix = SendTake side price lots pc least_lots least_pc limit in
    let price_is : number_at 8 9 (spelling ix) ≡ price = field_again ix fits 3 in
    let lots_is : number_at 8 17 (spelling ix) ≡ lots = field_again ix fits 4 in
    let pc_is : number_at 8 25 (spelling ix) ≡ pc = field_again ix fits 5 in
    rw (price_is, lots_is, pc_is) refl
zeros_are_those ix fits = refl

-- which rule a spelling breaks
pub broken-spelling : (ix : Ix) → Fits ix → broken (spelling ix) ≡ (if has_zero ix then Some ZeroField else None)
broken-spelling ix fits =
    broken_by (spelling ix) (tag_of ix) (widths (fields_of ix)) (omega (arith, length-spelling ix)) (field_again ix fits 0) (field_again ix fits 1)
    (tag_is_known ix) (tag_is_current ix) (size_is_right ix fits) (codes_are_right ix fits)
    ∙ ap (λ (b : Bool). if b then Some ZeroField else None) (zeros_are_those ix fits)

by_test : (b : Bool) (ix : Ix) → unless_broken (if b then Some ZeroField else None) ix ≡ (if b then Err ZeroField else Ok ix)
by_test true ix = refl
by_test false ix = refl

-- what a spelling decodes to
pub decoded-spelling : (ix : Ix) → Fits ix → decoded (spelling ix) ≡ (if has_zero ix then Err ZeroField else Ok ix)
unfolding decoded
decoded-spelling ix fits =
    ap (λ (o : Option BadData). unless_broken o (instruction (spelling ix))) (broken-spelling ix fits)
    ∙ ap (unless_broken (if has_zero ix then Some ZeroField else None)) (instruction-spelling ix fits)
    ∙ by_test (has_zero ix) ix
