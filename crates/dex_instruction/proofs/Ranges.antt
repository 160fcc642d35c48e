-- How large an instruction's fields can be.
use Rattle.std.proofs.Common.{◌≡◌, ℕ, ℤ, ◌^◌, ◌<◌, ◌≤◌, ◌⊎◌, inl, inr, [], ◌∷◌, length, take, Option, Some, None, ap, arith}
use Rattle.std.specs.Prelude.{IfSome, FitsSigned}
use Rattle.std.specs.Int.{w64}
use Rattle.std.proofs.Math.Facts.{Fits-lt-pow, Fits-of_z}
use Rattle.std.proofs.lemmas.List.{length-take-le}
use Rattle.dex_types.specs.declared.instructions.Ix.{Ix}
use Rattle.dex_types.specs.declared.instructions.Ix.TheVariants.{MatchOrders, ConsumeEvents, Prune, SettleFunds, DisableMarket, SweepFees, NewOrderV3, CloseOpenOrders, InitOpenOrders, CancelOrdersByClientIds}
use Rattle.dex_types.specs.declared.terms.OrderType.{OrderType}
use Rattle.dex_types.specs.declared.terms.OrderType.TheVariants.{Limit, Ioc, PostOnly}
use Rattle.dex_types.specs.declared.terms.SelfTrade.{SelfTrade}
use Rattle.dex_types.specs.declared.terms.SelfTrade.TheVariants.{Decrement, CancelProvide, Abort}
use Rattle.dex_types.specs.declared.terms.Side.{Side}
use Rattle.dex_types.specs.declared.terms.Side.TheVariants.{Bid, Ask}
use Rattle.dex_instruction.specs.Codes.{side_code, self_trade_code, order_type_code}
use Rattle.dex_instruction.specs.Numbers.{spelled, widths}
use Rattle.dex_instruction.specs.Spelling.{AllFit, Fits, fields_of, latest_fields}
use Rattle.dex_instruction.proofs.IdLists.{widths-as_fields}

side_fits : (side : Side) → side_code side < 256 ^ 4
side_fits Bid = omega arith
side_fits Ask = omega arith

self_trade_fits : (rule : SelfTrade) → self_trade_code rule < 256 ^ 4
self_trade_fits Decrement = omega arith
self_trade_fits CancelProvide = omega arith
self_trade_fits Abort = omega arith

order_type_fits : (kind : OrderType) → order_type_code kind < 256 ^ 4
order_type_fits Limit = omega arith
order_type_fits Ioc = omega arith
order_type_fits PostOnly = omega arith

latest_fits : (latest : Option ℤ) → IfSome latest (λ time. FitsSigned w64 time) → AllFit (latest_fields latest)
latest_fits None h = tt
latest_fits (Some time) h = (Fits-lt-pow (Fits-of_z {w = w64} {z = time} h), tt)

-- an order whose numbers are within their types
pub order_fits : (side : Side) (price lots pc : ℕ) (self_trade : SelfTrade) (order_type : OrderType) (client limit : ℕ) (latest : Option ℤ)
    → price < 2 ^ 64 → lots < 2 ^ 64 → pc < 2 ^ 64 → client < 2 ^ 64 → limit < 2 ^ 16 → IfSome latest (λ time. FitsSigned w64 time)
    → Fits (NewOrderV3 side price lots pc self_trade order_type client limit latest)
order_fits side price lots pc self_trade order_type client limit latest p l q c n h =
    ((side_fits side, (p, (l, (q, (self_trade_fits self_trade, (order_type_fits order_type, (c, (n, latest_fits latest h)))))))), h)

-- the instructions without fields
pub no_fields : (ix : Ix) → (ix ≡ SettleFunds) ⊎ ((ix ≡ DisableMarket) ⊎ ((ix ≡ SweepFees) ⊎ ((ix ≡ CloseOpenOrders) ⊎ (ix ≡ InitOpenOrders)))) → spelled (fields_of ix) ≡ []
no_fields ix h =
    elim h [
      | inl e ↦ ap (λ (x : Ix). spelled (fields_of x)) e
      | inr h ↦ elim h [
        | inl e ↦ ap (λ (x : Ix). spelled (fields_of x)) e
        | inr h ↦ elim h [
          | inl e ↦ ap (λ (x : Ix). spelled (fields_of x)) e
          | inr h ↦ elim h [ inl e ↦ ap (λ (x : Ix). spelled (fields_of x)) e | inr e ↦ ap (λ (x : Ix). spelled (fields_of x)) e ]
        ]
      ]
    ]

-- the instructions whose one field is a limit
pub limit_alone : (ix : Ix) (limit : ℕ) → (ix ≡ MatchOrders limit) ⊎ ((ix ≡ ConsumeEvents limit) ⊎ (ix ≡ Prune limit)) → fields_of ix ≡ (2, limit) ∷ []
limit_alone ix limit h =
    elim h [ inl e ↦ ap fields_of e | inr h ↦ elim h [ inl e ↦ ap fields_of e | inr e ↦ ap fields_of e ] ]

-- no body has more than 64 bytes
pub widths-fields_of-le : (ix : Ix) → Fits ix → widths (fields_of ix) ≤ 64
widths-fields_of-le (NewOrderV3 side price lots pc self_trade order_type client limit None) fits = omega arith
widths-fields_of-le (NewOrderV3 side price lots pc self_trade order_type client limit (Some time)) fits = omega arith
widths-fields_of-le (CancelOrdersByClientIds ids) fits =
    let many : length (take ids.count ids.ids) ≡ ids.count = length-take-le ids.count ids.ids (omega (arith, fits.1, ids.at_most_eight)) in
    omega (arith, widths-as_fields (take ids.count ids.ids), ids.at_most_eight)
widths-fields_of-le ix fits = omega arith
