use Rattle.std.proofs.Common.{◌≡◌, ◌++◌, take}
use Rattle.dex_types.specs.Market.{Market}
use Rattle.dex_audit_rules.specs.Own.{IsOwnOf}
use Rattle.dex_totals.specs.Reading.{traders}
use Rattle.dex_audit_rules.specs.Slots.{each_slot, misheld}
use Rattle.dex_audit_rules.proofs.misheld.tell_misheld.Given as goal

abbrev pub invariant-loop-account : goal.invariant-loop-account
invariant-loop-account l =
    (m : Market) → IsOwnOf l.own m
    → l.found.items ≡ l.initial.found.items ++ each_slot (misheld m.bids m.asks) (traders (take l.account-index l.own.book.accounts.now))
