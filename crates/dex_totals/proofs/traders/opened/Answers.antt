use Rattle.std.proofs.Common.{◌≡◌, ℕ, inl, inr, refl, arith, List}
use Rattle.std.proofs.lemmas.Bool.{eq-eqb}
use Rattle.dex_fields.specs.declared.open_orders.TheConstants.{ACCOUNT_FLAGS}
use Rattle.dex_fields.specs.Bytes.{number_in}
use Rattle.dex_types.specs.Trader.{Open}
use Rattle.dex_orders.proofs.Verdicts.{not_blank}
use Rattle.dex_orders.specs.OrdersAccount.{IsOpen, IsOrders, account_of}
use Rattle.dex_orders.specs.StandsFor.{trader_of}
use Rattle.dex_totals.proofs.traders.opened.Goals as goal

open-from_flags : (bytes : List ℕ) → IsOrders bytes → number_in bytes ACCOUNT_FLAGS ≡ 5 → IsOpen bytes × (trader_of bytes ≡ Open (account_of bytes))
open-from_flags bytes is flags =
    let trader : trader_of bytes ≡ Open (account_of bytes) = rw (eq-eqb (number_in bytes ACCOUNT_FLAGS) 5 flags) refl in
    elim is [
      | inl blank ↦ absurd (not_blank bytes (omega arith) blank)
      | inr (inl opened) ↦ (opened, trader)
      | inr (inr closed) ↦ absurd (omega (arith, closed.flags))
    ]

pub returns-then-get_u64 : goal.returns-then-get_u64
returns-then-get_u64 c = open-from_flags c.args.bytes.now c.requires (omega (arith, c.get_u64.ensures))
