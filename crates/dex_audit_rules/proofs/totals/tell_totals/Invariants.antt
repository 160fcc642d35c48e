use Rattle.std.proofs.Common.{◌≡◌, ◌++◌, take}
use Rattle.std.specs.List.{flat_map}
use Rattle.dex_types.specs.declared.addresses.Address.{Address}
use Rattle.dex_types.specs.Market.{Market}
use Rattle.dex_types.specs.Side.{Coin, Pc}
use Rattle.dex_types.specs.Trader.{Trader}
use Rattle.dex_audit_rules.specs.Funds.{total_off}
use Rattle.dex_audit_rules.specs.Own.{IsOwnOf}
use Rattle.dex_totals.specs.Reading.{traders}
use Rattle.dex_audit_rules.specs.Slots.{of_open}
use Rattle.dex_audit_rules.proofs.totals.tell_totals.Given as goal

abbrev pub invariant-loop-account : goal.invariant-loop-account
invariant-loop-account l =
    (m : Market) → IsOwnOf l.own m → l.found.items
    ≡ l.initial.found.items
    ++ flat_map (λ (entry : Address × Trader). of_open (λ account. total_off Coin m entry.0 account ++ total_off Pc m entry.0 account) entry.1) (traders (take l.account-index l.own.book.accounts.now))
