use Rattle.std.proofs.Common.{◌≡◌, take}
use Rattle.std.specs.List.{filter}
use Rattle.dex_types.specs.declared.addresses.Address.{Address}
use Rattle.dex_types.specs.declared.orders.Event.{Event}
use Rattle.dex_types.specs.Addresses.{is_same}
use Rattle.dex_totals.specs.Owned.{own_of}
use Rattle.dex_totals.proofs.by_owner.events_by_owner.Given as goal

abbrev pub invariant-loop-place : goal.invariant-loop-place
invariant-loop-place l = (owner : Address) → own_of l.own owner ≡ filter (λ (event : Event). is_same owner event.owner) (take l.place l.events)
